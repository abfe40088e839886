use Rattle.std.proofs.Common.{◌≡◌, filter, take}
use Rattle.sf_joins.specs.Joins.{are_distinct}
use Rattle.sf_joins.proofs.joining.without.Given as goal

-- those so far that are distinct
abbrev pub invariant-loop-other : goal.invariant-loop-other
invariant-loop-other l = l.others.items ≡ filter (λ other. are_distinct l.one other l.id) (take l.other-index l.ids)
