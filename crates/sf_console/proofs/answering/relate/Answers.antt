use Rattle.std.proofs.Common.{◌∙◌, ap, inl, subst}
use Rattle.sf_layers.specs.Content.{layer_of}
use Rattle.sf_console.specs.Answers.{related_text, reply_text, told}
use Rattle.sf_console.proofs.QueryLemmas.{IsToldAs, related-refused, related-told}
use Rattle.sf_console.proofs.answering.relate.Goals as goal

pub returns-in_err-matrix : goal.returns-in_err-matrix
returns-in_err-matrix c =
    subst (λ name. IsToldAs (told (related_text c.args.given.now) (layer_of c.args.store.now name) c.args.id) (reply_text c.from_residual.result)) c.as_str.ensures
    (related-refused (layer_of c.args.store.now c.as_str.result.now) c.args.id c.args.given.now _ c.from_residual.result c.in_err-matrix.ensures c.from_residual.ensures.1)

pub returns : goal.returns
returns c =
    inl (related-told (layer_of c.args.store.now c.as_str.result.now) c.args.id c.args.given.now c.in_ok-matrix.matrix c.in_ok-matrix.ensures
    ∙ ap (λ name. told (related_text c.args.given.now) (layer_of c.args.store.now name) c.args.id) c.as_str.ensures)
