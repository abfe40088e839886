use Rattle.std.proofs.Common.{arith}
use Rattle.std.proofs.lemmas.Nat.Gcd.{IsGcd-from_mod, IsGcd-from_zero}
use Rattle.sf_distance.proofs.TextLaws.{divisor-some}
use Rattle.sf_distance.proofs.writing.common_divisor.Goals as goal

pub loop-y-preserved : goal.loop-y-preserved
loop-y-preserved c g h = c.loop-y.invariant g (IsGcd-from_mod _ _ g h)

pub returns-clause-value : goal.returns-clause-value
returns-clause-value c = c.loop-y.invariant _ (IsGcd-from_zero _ _ (omega arith))

pub returns-clause-some : goal.returns-clause-some
returns-clause-some c = divisor-some c.args.a c.args.b c.loop-y.x c.requires (returns-clause-value c)
