use Rattle.std.proofs.Common.{arith}
use Rattle.sf_rtree.proofs.Lists.{remove-here, remove-none}
use Rattle.sf_rtree.proofs.list.place_of_id.Goals as goal

pub returns-then-entry-id : goal.returns-then-entry-id
returns-then-entry-id c = (
  c.loop-place-test.true,
  remove-here c.args.id c.args.boxes.now c.loop-place.place _ c.loop-place-test.true c.if-entry-id.true c.loop-place.invariant,
)

pub returns : goal.returns
returns c = remove-none c.args.id c.args.boxes.now c.loop-place.place (omega arith) c.loop-place.invariant
