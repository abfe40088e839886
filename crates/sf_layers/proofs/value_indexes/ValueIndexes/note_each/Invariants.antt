use Rattle.std.proofs.Common.{take}
use Rattle.std.specs.List.{AllByRecursion}
use Rattle.sf_layers.specs.ValueIndexes.{AreKept, IsKnown}
use Rattle.sf_layers.proofs.value_indexes.ValueIndexes.note_each.Given as goal

-- the values so far are known, and no index lost a pair
abbrev pub invariant-loop-number : goal.invariant-loop-number
invariant-loop-number l = AreKept l.initial.self l.self × AllByRecursion (λ entry. IsKnown l.self l.id entry.0 entry.1) (take l.number-index l.values)
