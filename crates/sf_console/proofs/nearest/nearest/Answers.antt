use Rattle.std.proofs.Common.{◌∙◌, ap, inl, map, subst}
use Rattle.sf_layers.specs.Content.{layer_of}
use Rattle.sf_console.specs.Answers.{nearest_rows, reply_text, rows, rows_of}
use Rattle.sf_console.proofs.QueryLemmas.{IsToldAs}
use Rattle.sf_console.proofs.NearLemmas.{nearest-refused, nearest-rows}
use Rattle.sf_console.specs.NearRows.{told_row}
use Rattle.sf_console.proofs.nearest.nearest.Goals as goal

pub returns-in_err-found : goal.returns-in_err-found
returns-in_err-found c =
    subst (λ name. IsToldAs (rows_of (nearest_rows c.args.count c.args.given.now) (layer_of c.args.store.now name)) (reply_text c.from_residual.result)) c.as_str.ensures
    (nearest-refused (layer_of c.args.store.now c.as_str.result.now) c.args.count c.args.given.now _ c.from_residual.result c.in_err-found.ensures c.from_residual.ensures.1)

pub returns : goal.returns
returns c =
    inl (c.in_ok-nearest_rows.ensures ∙ ap (λ found. rows (map told_row found)) c.as_slice.ensures.value
    ∙ nearest-rows (layer_of c.args.store.now c.as_str.result.now) c.args.count c.args.given.now c.in_ok-found.found c.in_ok-found.ensures
    ∙ ap (λ name. rows_of (nearest_rows c.args.count c.args.given.now) (layer_of c.args.store.now name)) c.as_str.ensures)
