use Rattle.std.proofs.Common.{◌∙◌, ap, inl, subst}
use Rattle.sf_layers.specs.Content.{layer_of}
use Rattle.sf_console.specs.Answers.{distant_text, reply_text, told}
use Rattle.sf_console.proofs.QueryLemmas.{IsToldAs, distant-refused, distant-told}
use Rattle.sf_console.proofs.answering.distance.Goals as goal

pub returns-in_err-square : goal.returns-in_err-square
returns-in_err-square c =
    subst (λ name. IsToldAs (told (distant_text c.args.given.now) (layer_of c.args.store.now name) c.args.id) (reply_text c.from_residual.result)) c.as_str.ensures
    (distant-refused (layer_of c.args.store.now c.as_str.result.now) c.args.id c.args.given.now _ c.from_residual.result c.in_err-square.ensures c.from_residual.ensures.1)

pub returns : goal.returns
returns c =
    inl (c.in_ok-distance_line.ensures
    ∙ distant-told (layer_of c.args.store.now c.as_str.result.now) c.args.id c.args.given.now c.in_ok-square.square c.in_ok-square.ensures
    ∙ ap (λ name. told (distant_text c.args.given.now) (layer_of c.args.store.now name) c.args.id) c.as_str.ensures)
