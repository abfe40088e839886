use Rattle.std.proofs.Common.{None, option_copied}
use Rattle.sf_rules.specs.Breaks.{least_from}
use Rattle.sf_rules.specs.Doubles.{doubles_from}
use Rattle.sf_rules.proofs.DoubleLaws.{all-stepped, stepped}
use Rattle.sf_rules.proofs.doubles.least_double.Goals as goal

pub loop-key-preserved : goal.loop-key-preserved
loop-key-preserved c =
    stepped c.args.keys.now c.loop-key.key-index c.key-item.result (option_copied c.loop-key.last) c.loop-key.least c.least_after-least.result (least_from None (doubles_from None c.args.keys.now)) c.loop-key-test.true c.key-item.is
    c.loop-key.invariant c.least_after-least.ensures

pub returns : goal.returns
returns c = all-stepped c.args.keys.now c.loop-key.key-index (option_copied c.loop-key.last) c.loop-key.least (least_from None (doubles_from None c.args.keys.now)) c.loop-key-test.false c.loop-key.invariant
