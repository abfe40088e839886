use Rattle.std.proofs.Common.{ℕ, ◌<◌}
use Rattle.sf_valid_rules.specs.Conditions.{Applies, AtPoint}
use Rattle.sf_strands.specs.Pairs.{pair_meets}
use Rattle.sf_strands.proofs.changed.does_earlier_meet.Given as goal

-- none up to here meets the edge
abbrev pub invariant-loop-earlier : goal.invariant-loop-earlier
invariant-loop-earlier l = (m : ℕ) → m < l.earlier → ¬ (Applies (AtPoint (pair_meets l.points m l.number)))
