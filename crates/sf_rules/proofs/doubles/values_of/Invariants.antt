use Rattle.std.proofs.Common.{◌≡◌, ◌++◌}
use Rattle.sf_rules.specs.Doubles.{keys_in}
use Rattle.sf_rules.proofs.doubles.values_of.Given as goal

-- with those of the features left, all values are there
abbrev pub invariant-loop-id : goal.invariant-loop-id
invariant-loop-id l = l.keys.items ++ keys_in l.number l.id-iterator ≡ keys_in l.number l.layer.features
