use Rattle.std.proofs.Common.{◌≡◌, ◌++◌, length}
use Rattle.sf_together.specs.Exchanges.{AllThere, puts}
use Rattle.sf_together.proofs.slots.put_all.Given as goal

-- what is put, and what is left to put
abbrev pub invariant-loop-left : goal.invariant-loop-left
invariant-loop-left l = (l.slots.items ++ puts l.store l.scratch ≡ puts l.store l.fn.scratch) × (l.left ≡ length l.scratch) × AllThere l.store l.scratch

abbrev pub decreases-loop-left : goal.decreases-loop-left
decreases-loop-left l = l.left
