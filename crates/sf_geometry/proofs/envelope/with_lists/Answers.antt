use Rattle.std.proofs.Common.{refl, ap, ◌∙◌}
use Rattle.std.specs.List.{fold}
use Rattle.std.proofs.lemmas.List.{take_all}
use Rattle.sf_geometry.specs.Envelope.{grown}
use Rattle.sf_geometry.specs.Parts.{joined}
use Rattle.sf_geometry.proofs.ListLaws.{fold-more}
use Rattle.sf_geometry.proofs.envelope.with_lists.Goals as goal

pub loop-points-init : goal.loop-points-init
loop-points-init c = refl

pub loop-points-preserved : goal.loop-points-preserved
loop-points-preserved c =
    c.with_points-extent.ensures
    ∙ ap (λ points. fold grown c.loop-points.extent points) c.as_slice.ensures
    ∙ ap (λ extent. fold grown extent c.points-item.result) c.loop-points.invariant
    ∙ fold-more grown c.args.extent c.args.lists.now c.loop-points.points-index c.points-item.result c.loop-points-test.true c.points-item.is

pub returns : goal.returns
returns c =
    c.loop-points.invariant
    ∙ ap (λ lists. fold grown c.args.extent (joined lists)) (take_all c.loop-points.points-index c.args.lists.now c.loop-points-test.false)
