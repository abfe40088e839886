use Rattle.std.proofs.Common.{arith, below_more}
use Rattle.sf_valid_rules.specs.Conditions.{Applies, AtPoint}
use Rattle.sf_strands.specs.Pairs.{pair_meets}
use Rattle.sf_strands.proofs.PairLaws.{none-found, none-more, pair-found}
use Rattle.sf_strands.proofs.pairs.some_pair_meets.Goals as goal

pub returns-then-does_pair_meet : goal.returns-then-does_pair_meet
returns-then-does_pair_meet c =
    pair-found c.args.points.now c.loop-earlier.earlier c.loop-later.later c.requires c.loop-earlier-test.true (omega arith) (c.does_pair_meet.ensures.0 c.if-does_pair_meet.true)

pub loop-earlier-preserved : goal.loop-earlier-preserved
loop-earlier-preserved c =
    below_more (λ i. ¬ (Applies (AtPoint (pair_meets c.args.points.now i c.loop-later.later)))) c.loop-earlier.earlier c.loop-earlier.invariant
    (λ meets. cc (c.does_pair_meet.ensures.1 meets))

pub loop-later-preserved : goal.loop-later-preserved
loop-later-preserved c = none-more c.args.points.now c.loop-later.later c.loop-later.invariant (λ i h. c.loop-earlier.invariant i (omega arith))

pub returns : goal.returns
returns c = none-found c.args.points.now c.loop-later.later c.requires (omega arith) c.loop-later.invariant
