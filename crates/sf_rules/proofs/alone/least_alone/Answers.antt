use Rattle.std.proofs.Common.{◌∙◌, None, ap, flat_map}
use Rattle.sf_rules.specs.Breaks.{least_from}
use Rattle.sf_rules.specs.Looks.{alone_of_leaving, alone_of_slot}
use Rattle.sf_rules.proofs.LoopLaws.{all-gone, both, flat-more-item}
use Rattle.sf_rules.proofs.alone.least_alone.Goals as goal

pub loop-slot-preserved : goal.loop-slot-preserved
loop-slot-preserved c =
    flat-more-item (alone_of_slot c.args.between.now) c.args.made.now c.loop-slot.slot-index c.slot-item.result None c.loop-slot.least c.in_ok-least.least c.loop-slot-test.true c.slot-item.is
    c.loop-slot.invariant c.in_ok-least.ensures

pub loop-slot-2-preserved : goal.loop-slot-2-preserved
loop-slot-2-preserved c =
    flat-more-item (alone_of_leaving c.args.between.now) c.slots-slot-items.result.now c.loop-slot-2.slot-index c.slot-item-in-loop-slot-2.result c.loop-slot.least c.loop-slot-2.least c.in_ok-least-2.least
    c.loop-slot-2-test.true c.slot-item-in-loop-slot-2.is c.loop-slot-2.invariant c.in_ok-least-2.ensures

pub returns : goal.returns
returns c =
    both None c.loop-slot.least c.loop-slot-2.least (flat_map (alone_of_slot c.args.between.now) c.args.made.now) (flat_map (alone_of_leaving c.args.between.now) c.args.between.now.leaving.now)
    (all-gone (alone_of_slot c.args.between.now) c.args.made.now c.loop-slot.slot-index None c.loop-slot.least c.loop-slot-test.false c.loop-slot.invariant)
    (all-gone (alone_of_leaving c.args.between.now) c.slots-slot-items.result.now c.loop-slot-2.slot-index c.loop-slot.least c.loop-slot-2.least c.loop-slot-2-test.false c.loop-slot-2.invariant
    ∙ ap (λ slots. least_from c.loop-slot.least (flat_map (alone_of_leaving c.args.between.now) slots)) c.slots-slot-items.ensures)
