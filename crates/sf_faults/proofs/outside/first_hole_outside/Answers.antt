use Rattle.std.proofs.Common.{sym, ◌∙◌}
use Rattle.std.specs.List.{flat_map}
use Rattle.sf_faults.specs.Candidates.{outside_in}
use Rattle.sf_faults.specs.Orders.{numbered}
use Rattle.sf_faults.proofs.PlaceLaws.{among-none, among-some, first-member, none-all, none-member, numbered-at, numbered-end, numbered-length}
use Rattle.sf_faults.proofs.outside.first_hole_outside.Goals as goal

pub returns-then-is_some : goal.returns-then-is_some
returns-then-is_some c =
    let xs = c.args.polygons.now in
    let i = c.loop-part.part in
    let rings = c.as_slice.result.now in
    among-some (outside_in (i, rings)) (flat_map outside_in (numbered xs)) c.in_ok-place.place (sym c.is_some.ensures ∙ c.if-is_some.true) c.in_ok-place.ensures
    (λ place. first-member outside_in (numbered xs) i (i, rings) place (numbered-length xs i c.loop-part-test.true)
    (numbered-at xs i rings c.index-polygons-part.result c.loop-part-test.true c.index-polygons-part.is c.as_slice.ensures) c.loop-part.invariant)

pub loop-part-preserved : goal.loop-part-preserved
loop-part-preserved c =
    let xs = c.args.polygons.now in
    let i = c.loop-part.part in
    let rings = c.as_slice.result.now in
    none-member outside_in (numbered xs) i (i, rings) (numbered-length xs i c.loop-part-test.true)
    (numbered-at xs i rings c.index-polygons-part.result c.loop-part-test.true c.index-polygons-part.is c.as_slice.ensures) c.loop-part.invariant
    (among-none (outside_in (i, rings)) c.in_ok-place.place (sym c.is_some.ensures ∙ c.if-is_some.false) c.in_ok-place.ensures)

pub returns : goal.returns
returns c = none-all outside_in (numbered c.args.polygons.now) c.loop-part.part (numbered-end c.args.polygons.now c.loop-part.part c.loop-part-test.false) c.loop-part.invariant
