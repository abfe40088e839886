use Rattle.std.proofs.Common.{◌≡◌, flat_map}
use Rattle.sf_rules.specs.ColumnLooks.{wrong_of_entry}
use Rattle.sf_rules.specs.Rules.{first_of}
use Rattle.sf_rules.proofs.column.first_wrong_of_all.Given as goal

-- what is first of the features left is first of all
abbrev pub invariant-loop-id : goal.invariant-loop-id
invariant-loop-id l = first_of (flat_map (wrong_of_entry l.demand l.number) l.id-iterator) ≡ first_of (flat_map (wrong_of_entry l.demand l.number) l.layer.features)
