use Rattle.std.proofs.Common.{◌∙◌, sym, subst}
use Rattle.sf_geometry.specs.Envelope.{extent_with}
use Rattle.sf_ring_stretches.specs.Exchange.{AreIn}
use Rattle.sf_validity.specs.Beside.{box_of_extent, stood}
use Rattle.sf_validity.proofs.BesideLaws.{more-in, points-in, points-in-more}
use Rattle.sf_validity.proofs.beside.extent_with_gone.Goals as goal

pub returns-in-None-clause-points : goal.returns-in-None-clause-points
returns-in-None-clause-points c = points-in c.args.points.now c.in-Some.extent (sym c.of_points.ensures ∙ c.in-Some.is)

pub returns-in-Some-gone-clause-points : goal.returns-in-Some-gone-clause-points
returns-in-Some-gone-clause-points c =
    subst (λ e. AreIn (box_of_extent e) c.args.points.now) (sym c.with.ensures)
    (points-in-more c.args.points.now c.in-Some.extent c.in-Some-gone.point (sym c.of_points.ensures ∙ c.in-Some.is))

pub returns-in-Some-gone-clause-gone : goal.returns-in-Some-gone-clause-gone
returns-in-Some-gone-clause-gone c =
    subst (λ e. AreIn (box_of_extent e) (stood c.args.gone)) (sym c.with.ensures)
    (subst (λ gone. AreIn (box_of_extent (extent_with c.in-Some.extent c.in-Some-gone.point)) (stood gone)) (sym c.in-Some-gone.is) (more-in c.in-Some.extent c.in-Some-gone.point))
