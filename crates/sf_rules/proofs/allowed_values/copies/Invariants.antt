use Rattle.std.proofs.Common.{◌≡◌, take}
use Rattle.sf_rules.proofs.allowed_values.copies.Given as goal

-- those that were passed are copied
abbrev pub invariant-loop-value : goal.invariant-loop-value
invariant-loop-value l = l.copies.items ≡ take l.value-index l.values
