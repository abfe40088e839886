use Rattle.std.proofs.Common.{take}
use Rattle.std.specs.List.{flat_map}
use Rattle.sf_valid_rules.specs.Rules.{ring_rules}
use Rattle.sf_valid_rules.specs.Validity.{NoneApplies}
use Rattle.sf_validity.proofs.checks.check_rings.Given as goal

-- no rule of those that were passed applies
abbrev pub invariant-loop-points : goal.invariant-loop-points
invariant-loop-points l = NoneApplies (flat_map ring_rules (take l.points-index l.rings))
