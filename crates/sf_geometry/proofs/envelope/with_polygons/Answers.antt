use Rattle.std.proofs.Common.{refl, ap, ◌∙◌}
use Rattle.std.specs.List.{fold}
use Rattle.std.proofs.lemmas.List.{take_all}
use Rattle.sf_geometry.specs.Envelope.{grown}
use Rattle.sf_geometry.specs.Parts.{joined}
use Rattle.sf_geometry.proofs.ListLaws.{fold-more_twice}
use Rattle.sf_geometry.proofs.envelope.with_polygons.Goals as goal

pub loop-rings-init : goal.loop-rings-init
loop-rings-init c = refl

pub loop-rings-preserved : goal.loop-rings-preserved
loop-rings-preserved c =
    c.with_lists-extent.ensures
    ∙ ap (λ rings. fold grown c.loop-rings.extent (joined rings)) c.as_slice.ensures
    ∙ ap (λ extent. fold grown extent (joined c.rings-item.result)) c.loop-rings.invariant
    ∙ fold-more_twice grown c.args.extent c.args.polygons.now c.loop-rings.rings-index c.rings-item.result c.loop-rings-test.true c.rings-item.is

pub returns : goal.returns
returns c =
    c.loop-rings.invariant
    ∙ ap (λ polygons. fold grown c.args.extent (joined (joined polygons))) (take_all c.loop-rings.rings-index c.args.polygons.now c.loop-rings-test.false)
