use Rattle.std.proofs.Common.{◌≡◌}
use Rattle.sf_patches.proofs.patch.reindex.Given as goal

-- no index is seen
abbrev pub invariant-loop-slot : goal.invariant-loop-slot
invariant-loop-slot l = l.store ≡ l.fn.store
