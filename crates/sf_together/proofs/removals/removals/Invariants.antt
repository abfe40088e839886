use Rattle.std.proofs.Common.{◌≡◌, take}
use Rattle.sf_together.specs.Exchanges.{removals_of}
use Rattle.sf_together.proofs.removals.removals.Given as goal

-- the removals of the keys so far
abbrev pub invariant-loop-key : goal.invariant-loop-key
invariant-loop-key l = l.slots.items ≡ removals_of l.store l.scratch (take l.key-index l.keys)
