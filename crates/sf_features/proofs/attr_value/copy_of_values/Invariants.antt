use Rattle.std.proofs.Common.{◌≡◌, take}
use Rattle.sf_features.proofs.attr_value.copy_of_values.Given as goal

-- those that were passed are copied
abbrev pub invariant-loop-number : goal.invariant-loop-number
invariant-loop-number l = l.copy.items ≡ take l.number-index l.values
