use Rattle.std.proofs.Common.{ℕ, ◌<◌}
use Rattle.sf_valid_rules.specs.Conditions.{Applies, AtPoint}
use Rattle.sf_strands.specs.Pairs.{pair_meets}
use Rattle.sf_strands.proofs.pairs.some_pair_meets.Given as goal

-- no pair up to here meets
abbrev pub invariant-loop-later : goal.invariant-loop-later
invariant-loop-later l = (j : ℕ) → j < l.later → (i : ℕ) → i < j → ¬ (Applies (AtPoint (pair_meets l.points i j)))

abbrev pub invariant-loop-earlier : goal.invariant-loop-earlier
invariant-loop-earlier l = (i : ℕ) → i < l.earlier → ¬ (Applies (AtPoint (pair_meets l.points i l.later)))
