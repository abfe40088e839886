use Rattle.sf_relate.proofs.OverlapLaws.{crossing_areas_overlap}
use Rattle.sf_relate.proofs.ResultLaws.{answered}
use Rattle.sf_relate.proofs.areas.are_known_to_overlap.Goals as goal

pub returns : goal.returns
returns c =
    let areas = c.are_areas.ensures.areas c.if-not-are_areas.false in
    let valid = c.are_areas.ensures.valid c.if-not-are_areas.false in
    answered c.are_crossed.result (λ told found t. crossing_areas_overlap c.args.a.now c.args.b.now valid.0.valid valid.1.valid areas.0 areas.1 (found t)) c.are_crossed.ensures
