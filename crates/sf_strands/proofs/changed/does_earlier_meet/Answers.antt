use Rattle.std.proofs.Common.{arith, below_more}
use Rattle.sf_valid_rules.specs.Conditions.{Applies, AtPoint}
use Rattle.sf_strands.specs.Pairs.{pair_meets}
use Rattle.sf_strands.proofs.ChangedLaws.{is-found, none-found}
use Rattle.sf_strands.proofs.changed.does_earlier_meet.Goals as goal

pub returns-then-does_pair_meet : goal.returns-then-does_pair_meet
returns-then-does_pair_meet c = is-found (c.loop-earlier.earlier, c.loop-earlier-test.true, c.does_pair_meet.ensures.0 c.if-does_pair_meet.true)

pub loop-earlier-preserved : goal.loop-earlier-preserved
loop-earlier-preserved c =
    below_more (λ m. ¬ (Applies (AtPoint (pair_meets c.args.points.now m c.args.number)))) c.loop-earlier.earlier c.loop-earlier.invariant
    (λ meets. cc (c.does_pair_meet.ensures.1 meets))

pub returns : goal.returns
returns c = none-found (λ meets. c.loop-earlier.invariant meets.0 (omega (arith, meets.1, c.loop-earlier-test.false)) meets.2)
