use Rattle.std.proofs.Common.{◌≡◌, None, flat_map, take}
use Rattle.sf_rules.specs.Breaks.{least_from}
use Rattle.sf_rules.specs.ColumnLooks.{values_of_slot}
use Rattle.sf_rules.proofs.column.least_in_column.Given as goal

-- the least of the breaks of the exchanges so far
abbrev pub invariant-loop-slot : goal.invariant-loop-slot
invariant-loop-slot l = l.least ≡ least_from None (flat_map (values_of_slot l.demand l.column) (take l.slot-index l.made))
