use Rattle.sf_rules.proofs.LeavingLaws.{ids-all, ids-more, ids-none}
use Rattle.sf_rules.proofs.leaving.ids_of.Goals as goal

pub loop-slot-init : goal.loop-slot-init
loop-slot-init c = ids-none c.new-ids.result c.new-ids.ensures.empty

pub loop-slot-preserved : goal.loop-slot-preserved
loop-slot-preserved c =
    ids-more c.loop-slot.ids c.put_id.new.ids c.args.slots.now c.loop-slot.slot-index c.slot-item.result c.loop-slot-test.true c.slot-item.is c.loop-slot.invariant
    c.in_ok-put_id.ensures

pub returns : goal.returns
returns c = ids-all c.loop-slot.ids c.args.slots.now c.loop-slot.slot-index c.loop-slot-test.false c.loop-slot.invariant
