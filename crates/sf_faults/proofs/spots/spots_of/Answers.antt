use Rattle.std.proofs.Common.{ap, sym, ◌∙◌, ◌++◌}
use Rattle.sf_faults.proofs.RingLaws.{part_spots, spots-end, spots-more}
use Rattle.sf_faults.proofs.spots.spots_of.Goals as goal

pub loop-part-preserved : goal.loop-part-preserved
loop-part-preserved c =
    c.in_ok-push_spots.ensures
    ∙ ap (λ xs. xs ++ part_spots (c.loop-part.part, c.as_slice.result.now)) c.loop-part.invariant
    ∙ sym (spots-more c.args.polygons.now c.loop-part.part c.as_slice.result.now c.index-polygons-part.result c.loop-part-test.true c.index-polygons-part.is c.as_slice.ensures)

pub returns : goal.returns
returns c = c.loop-part.invariant ∙ spots-end c.args.polygons.now c.loop-part.part c.loop-part-test.false
