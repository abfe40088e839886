use Rattle.std.proofs.Common.{take}
use Rattle.std.specs.List.{flat_map}
use Rattle.sf_valid_rules.specs.Rules.{ring_rules}
use Rattle.sf_valid_rules.specs.Validity.{NoneApplies}
use Rattle.sf_validity.proofs.checks.check_polygons.Given as goal

-- no rule of the rings of those that were passed applies
abbrev pub invariant-loop-rings : goal.invariant-loop-rings
invariant-loop-rings l = NoneApplies (flat_map (λ rings. flat_map ring_rules rings) (take l.rings-index l.polygons))
