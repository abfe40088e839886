use Rattle.std.proofs.Common.{◌≡◌, ◌++◌, drop, map, take}
use Rattle.sf_sweep.specs.Parities.{as_count}
use Rattle.sf_sweep.proofs.parities.put_counts.Given as goal

-- the first places have parities, and the others their counts
abbrev pub invariant-loop-place : goal.invariant-loop-place
invariant-loop-place l = l.counts ≡ map as_count (take l.place l.odd) ++ drop l.place l.fn.counts
