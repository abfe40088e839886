use Rattle.std.proofs.Common.{◌≡◌, ◌∙◌, rules, subst, sym}
use Rattle.sf_layers.specs.Content.{change_at, place_of, with_feature}
use Rattle.sf_layers.specs.WellFormed.{IsWellFormed}
use Rattle.sf_together.specs.Copies.{HasHeadOf}
use Rattle.sf_together.proofs.CallLaws.{at-place_of, copy-fits, copy-free, copy-put}
use Rattle.sf_together.proofs.scratch.show_feature.Goals as goal

pub put_feature-requires-clause-free : goal.put_feature-requires-clause-free
put_feature-requires-clause-free c =
    let part_is : c.unwrap-part.result ≡ place_of c.args.scratch.now c.args.name.now = search rules in
    copy-free c.args.scratch.now c.args.name.now c.unwrap-part.result c.args.id (HasHeadOf c.args.layer.now) part_is c.requires.head (sym c.has_feature.ensures ∙ c.if-has_feature.false)

pub put_feature-requires-clause-fits : goal.put_feature-requires-clause-fits
put_feature-requires-clause-fits c =
    let part_is : c.unwrap-part.result ≡ place_of c.args.scratch.now c.args.name.now = search rules in
    subst (λ f. IsWellFormed (change_at c.unwrap-part.result (with_feature c.args.id f) c.args.scratch.now)) (sym c.in_ok-copy.ensures)
    (copy-fits c.args.layer.now c.args.scratch.now c.unwrap-part.result c.args.id c.args.feature.now c.requires.fine c.requires.of_id c.place.ensures.well_formed
    (at-place_of c.args.scratch.now c.args.name.now c.unwrap-part.result (HasHeadOf c.args.layer.now) part_is c.requires.head))

pub returns : goal.returns
returns c =
    let part_is : c.unwrap-part.result ≡ place_of c.args.scratch.now c.args.name.now = search rules in
    c.in-Ok.ensures.put
    ∙ copy-put c.args.scratch.now c.args.name.now c.unwrap-part.result c.args.id c.in_ok-copy.copy c.args.feature.now part_is c.in_ok-copy.ensures (sym c.has_feature.ensures ∙ c.if-has_feature.false)
