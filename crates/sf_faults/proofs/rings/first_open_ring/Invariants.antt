use Rattle.std.proofs.Common.{take}
use Rattle.std.specs.List.{flat_map}
use Rattle.sf_faults.specs.Candidates.{open_ring}
use Rattle.sf_faults.specs.Orders.{placed_rings}
use Rattle.sf_faults.specs.Places.{NoneIsAtFault}
use Rattle.sf_faults.proofs.PlaceLaws.{single}
use Rattle.sf_faults.proofs.rings.first_open_ring.Given as goal

-- none of those that were passed is at fault
abbrev pub invariant-loop-ring : goal.invariant-loop-ring
invariant-loop-ring l = NoneIsAtFault (flat_map (single open_ring) (take l.ring-index (placed_rings l.polygons)))
