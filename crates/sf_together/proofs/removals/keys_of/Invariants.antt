use Rattle.std.proofs.Common.{◌≡◌, ◌≤◌, length, take}
use Rattle.sf_together.specs.Exchanges.{keys_in}
use Rattle.sf_together.proofs.removals.keys_of.Given as goal

-- the keys of the layers so far
abbrev pub invariant-loop-part : goal.invariant-loop-part
invariant-loop-part l = (l.keys.items ≡ keys_in l.store (take l.part l.scratch)) × (l.part ≤ length l.scratch)
