use Rattle.std.proofs.Common.{◌≡◌, filter, map, take}
use Rattle.sf_rules.specs.Breaks.{least_from}
use Rattle.sf_rules.specs.ColumnLooks.{double_of, is_other}
use Rattle.sf_rules.proofs.column.least_with.Given as goal

-- the least of the pairs so far
abbrev pub invariant-loop-other : goal.invariant-loop-other
invariant-loop-other l = l.least ≡ least_from l.initial.least (map (double_of l.id) (filter (is_other l.column l.id) (take l.other-index l.others)))
