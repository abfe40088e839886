use Rattle.std.proofs.Common.{sym, ◌∙◌}
use Rattle.std.specs.List.{flat_map}
use Rattle.sf_faults.specs.Candidates.{nested_in}
use Rattle.sf_faults.specs.Orders.{numbered}
use Rattle.sf_faults.proofs.PlaceLaws.{among-none, among-some, first-member, none-all, none-member, numbered-at, numbered-end, numbered-length}
use Rattle.sf_faults.proofs.overlapping.first_nested.Goals as goal

pub returns-then-is_some : goal.returns-then-is_some
returns-then-is_some c =
    let xs = c.args.polygons.now in
    let i = c.loop-part.part in
    let rings = c.as_slice.result.now in
    among-some (nested_in (i, rings)) (flat_map nested_in (numbered xs)) c.in_ok-place.place (sym c.is_some.ensures ∙ c.if-is_some.true) c.in_ok-place.ensures
    (λ place. first-member nested_in (numbered xs) i (i, rings) place (numbered-length xs i c.loop-part-test.true)
    (numbered-at xs i rings c.index-polygons-part.result c.loop-part-test.true c.index-polygons-part.is c.as_slice.ensures) c.loop-part.invariant)

pub loop-part-preserved : goal.loop-part-preserved
loop-part-preserved c =
    let xs = c.args.polygons.now in
    let i = c.loop-part.part in
    let rings = c.as_slice.result.now in
    none-member nested_in (numbered xs) i (i, rings) (numbered-length xs i c.loop-part-test.true)
    (numbered-at xs i rings c.index-polygons-part.result c.loop-part-test.true c.index-polygons-part.is c.as_slice.ensures) c.loop-part.invariant
    (among-none (nested_in (i, rings)) c.in_ok-place.place (sym c.is_some.ensures ∙ c.if-is_some.false) c.in_ok-place.ensures)

pub returns : goal.returns
returns c = none-all nested_in (numbered c.args.polygons.now) c.loop-part.part (numbered-end c.args.polygons.now c.loop-part.part c.loop-part-test.false) c.loop-part.invariant
