use Rattle.std.proofs.Common.{arith}
use Rattle.sf_sweep.proofs.GoingLaws.{begun-few, onward-below, onward-few}
use Rattle.sf_sweep.proofs.cutting.hand_window.Goals as goal

pub hand_going-requires-clause-order : goal.hand_going-requires-clause-order
hand_going-requires-clause-order g c =
    let h = c.hand_levels.ensures.handed in
    onward-below _ c.args.came.now c.args.here.now c.hand_levels.new.bench.order.items h.levels c.requires.came c.requires.here h.cut.onward

pub hand_going-requires-clause-few : goal.hand_going-requires-clause-few
hand_going-requires-clause-few g c =
    let h = c.hand_levels.ensures.handed in
    let few = onward-few c.args.came.now c.args.here.now c.hand_levels.new.bench.order.items h.levels h.cut.onward in
    omega (arith, few, begun-few c.args.here.now)

pub hand_going-requires-clause-room : goal.hand_going-requires-clause-room
hand_going-requires-clause-room g c =
    let h = c.hand_levels.ensures.handed in
    let few = onward-few c.args.came.now c.args.here.now c.hand_levels.new.bench.order.items h.levels h.cut.onward in
    let room = c.hand_levels.ensures.room _ _ c.requires.room in
    omega (arith, few, begun-few c.args.here.now, room.cut.parts)

pub returns-clause-room : goal.returns-clause-room
returns-clause-room g c levels edges room = c.hand_going.ensures.room levels edges (c.hand_levels.ensures.room levels edges room)
