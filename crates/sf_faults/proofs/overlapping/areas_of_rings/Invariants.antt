use Rattle.std.proofs.Common.{◌≡◌, map, take}
use Rattle.sf_faults.specs.Written.{single_ring}
use Rattle.sf_faults.proofs.overlapping.areas_of_rings.Given as goal

-- those that were passed are there
abbrev pub invariant-loop-ring : goal.invariant-loop-ring
invariant-loop-ring l = l.areas.items ≡ map single_ring (take l.ring-index l.rings)
