use Rattle.std.proofs.Common.{ap, sym, subst, ◌<◌, arith, length}
use Rattle.std.specs.List.{All}
use Rattle.sf_strips.specs.Parts.{levels_of}
use Rattle.sf_sweep.proofs.CutLaws.{room-for}
use Rattle.sf_sweep.proofs.GoingLaws.{begun-few, onward-below, onward-few}
use Rattle.sf_sweep.proofs.cutting.hand_levels.Goals as goal

pub hand_part-requires-clause-onward : goal.hand_part-requires-clause-onward
hand_part-requires-clause-onward g c =
    subst (All (λ e. e.piece < length c.args.groups.now)) (sym c.as_slice-2.ensures.value)
    (onward-below (length c.args.groups.now) c.args.came.now c.args.here.now c.column.new.self.order.items (levels_of c.column.new.self.parts.items)
    c.requires.came c.requires.here c.column.ensures.onward)

pub hand_part-requires-clause-few : goal.hand_part-requires-clause-few
hand_part-requires-clause-few g c =
    let few = onward-few c.args.came.now c.args.here.now c.column.new.self.order.items (levels_of c.column.new.self.parts.items) c.column.ensures.onward in
    omega (arith, few, begun-few c.args.here.now, ap length c.as_slice-2.ensures.value)

pub hand_part-requires-clause-room_above : goal.hand_part-requires-clause-room_above
hand_part-requires-clause-room_above g c =
    let few = onward-few c.args.came.now c.args.here.now c.column.new.self.order.items (levels_of c.column.new.self.parts.items) c.column.ensures.onward in
    room-for c.args.tallies.now.above.items (length c.as_slice-2.result.now) (omega (arith, few, begun-few c.args.here.now, ap length c.as_slice-2.ensures.value)) c.requires.few_above
