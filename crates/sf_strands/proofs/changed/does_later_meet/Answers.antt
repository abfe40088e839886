use Rattle.std.proofs.Common.{◌<◌, arith, below_more}
use Rattle.sf_valid_rules.specs.Conditions.{Applies, AtPoint}
use Rattle.sf_strands.specs.Pairs.{pair_meets}
use Rattle.sf_strands.proofs.ChangedLaws.{is-found, none-found}
use Rattle.sf_strands.proofs.changed.does_later_meet.Goals as goal

pub returns-then-does_pair_meet : goal.returns-then-does_pair_meet
returns-then-does_pair_meet c =
    is-found (c.loop-later.later, omega arith, omega arith, c.does_pair_meet.ensures.0 c.if-does_pair_meet.true)

pub loop-later-init : goal.loop-later-init
loop-later-init c = λ m below above. absurd (omega (arith, below, above))

pub loop-later-preserved : goal.loop-later-preserved
loop-later-preserved c =
    below_more (λ m. c.args.number < m → ¬ (Applies (AtPoint (pair_meets c.args.points.now c.args.number m)))) c.loop-later.later c.loop-later.invariant
    (λ above meets. cc (c.does_pair_meet.ensures.1 meets))

pub returns : goal.returns
returns c = none-found (λ meets. c.loop-later.invariant meets.0 (omega (arith, meets.2)) meets.1 meets.3)
