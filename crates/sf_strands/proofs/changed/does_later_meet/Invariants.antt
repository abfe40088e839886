use Rattle.std.proofs.Common.{ℕ, ◌<◌}
use Rattle.sf_valid_rules.specs.Conditions.{Applies, AtPoint}
use Rattle.sf_strands.specs.Pairs.{pair_meets}
use Rattle.sf_strands.proofs.changed.does_later_meet.Given as goal

-- none of the later ones up to here meets the edge
abbrev pub invariant-loop-later : goal.invariant-loop-later
invariant-loop-later l = (m : ℕ) → m < l.later → l.number < m → ¬ (Applies (AtPoint (pair_meets l.points l.number m)))
