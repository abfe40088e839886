use Rattle.std.proofs.Common.{◌≡◌, ◌++◌, ℕ, filter, map, take}
use Rattle.sf_joins.specs.Joins.{are_distinct}
use Rattle.sf_joins.proofs.joining.push_pairs.Given as goal

-- the pairs before, and those of the features so far that are distinct
abbrev pub invariant-loop-other : goal.invariant-loop-other
invariant-loop-other l = l.pairs.items ≡ l.initial.pairs.items ++ map (λ (other : ℕ). (l.id, other)) (filter (are_distinct l.one l.id) (take l.other-index l.other-items))
