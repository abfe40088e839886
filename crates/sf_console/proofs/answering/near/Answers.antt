use Rattle.std.proofs.Common.{◌∙◌, ap, inl, map, decimal, subst}
use Rattle.sf_layers.specs.Content.{layer_of}
use Rattle.sf_console.specs.Answers.{near_rows, reply_text, rows, rows_of}
use Rattle.sf_console.proofs.QueryLemmas.{IsToldAs, near-refused, near-rows}
use Rattle.sf_console.proofs.answering.near.Goals as goal

pub returns-in_err-ids : goal.returns-in_err-ids
returns-in_err-ids c =
    subst (λ name. IsToldAs (rows_of (near_rows c.args.reach c.args.given.now) (layer_of c.args.store.now name)) (reply_text c.from_residual.result)) c.as_str.ensures
    (near-refused (layer_of c.args.store.now c.as_str.result.now) c.args.reach c.args.given.now _ c.from_residual.result c.in_err-ids.ensures c.from_residual.ensures.1)

pub returns : goal.returns
returns c =
    inl (c.in_ok-id_rows.ensures ∙ ap (λ ids. rows (map decimal ids)) c.as_slice.ensures.value
    ∙ near-rows (layer_of c.args.store.now c.as_str.result.now) c.args.reach c.args.given.now c.in_ok-ids.ids c.in_ok-ids.ensures
    ∙ ap (λ name. rows_of (near_rows c.args.reach c.args.given.now) (layer_of c.args.store.now name)) c.as_str.ensures)
