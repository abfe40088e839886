use Rattle.std.proofs.Common.{◌∙◌, ap, inl, map, decimal, subst}
use Rattle.sf_layers.specs.Content.{layer_of}
use Rattle.sf_console.specs.Answers.{found_rows, reply_text, rows, rows_of}
use Rattle.sf_console.proofs.QueryLemmas.{IsToldAs, queried-refused, queried-rows}
use Rattle.sf_console.proofs.answering.features.Goals as goal

pub returns-in_err-found : goal.returns-in_err-found
returns-in_err-found c =
    subst (λ name. IsToldAs (rows_of (found_rows c.args.ask.now c.args.given.now) (layer_of c.args.store.now name)) (reply_text c.from_residual.result)) c.as_str.ensures
    (queried-refused (layer_of c.args.store.now c.as_str.result.now) c.args.ask.now c.args.given.now _ c.from_residual.result c.in_err-found.ensures c.from_residual.ensures.1)

pub returns : goal.returns
returns c =
    inl (c.in_ok-id_rows.ensures ∙ ap (λ ids. rows (map decimal ids)) c.as_slice.ensures.value
    ∙ queried-rows (layer_of c.args.store.now c.as_str.result.now) c.args.ask.now c.args.given.now c.in_ok-found.found c.in_ok-found.ensures
    ∙ ap (λ name. rows_of (found_rows c.args.ask.now c.args.given.now) (layer_of c.args.store.now name)) c.as_str.ensures)
