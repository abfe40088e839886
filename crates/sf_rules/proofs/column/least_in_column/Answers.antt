use Rattle.std.proofs.Common.{None}
use Rattle.sf_rules.specs.ColumnLooks.{values_of_slot}
use Rattle.sf_rules.proofs.LoopLaws.{flat-more-item}
use Rattle.sf_rules.proofs.column.least_in_column.Goals as goal

pub loop-slot-preserved : goal.loop-slot-preserved
loop-slot-preserved c =
    flat-more-item (values_of_slot c.args.demand.now c.args.column.now) c.args.made.now c.loop-slot.slot-index c.slot-item.result None c.loop-slot.least c.in_ok-least.least c.loop-slot-test.true c.slot-item.is
    c.loop-slot.invariant c.in_ok-least.ensures
