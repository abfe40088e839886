use Rattle.std.proofs.Common.{arith, rules}
use Rattle.sf_decimals.proofs.Digits.{too_large, further, read_all}
use Rattle.sf_decimals.proofs.reading.read_on.Goals as goal

pub returns-in_default : goal.returns-in_default
returns-in_default c = too_large c.loop-digit.number _ c.loop-digit.digit-index c.args.digits.now (omega (arith, c.loop-digit-test.true)) c.in_default.ensures c.loop-digit.invariant.value

pub loop-digit-preserved : goal.loop-digit-preserved
loop-digit-preserved c = record {
  value = further c.loop-digit.number c.in-Some.more _ c.loop-digit.digit-index c.args.digits.now (omega (arith, c.loop-digit-test.true)) c.in-Some.ensures c.loop-digit.invariant.value;
  small = search rules;
}

pub returns : goal.returns
returns c = read_all c.loop-digit.number _ c.loop-digit.digit-index c.args.digits.now (omega (arith, c.loop-digit-test.false)) c.loop-digit.invariant.small c.loop-digit.invariant.value
