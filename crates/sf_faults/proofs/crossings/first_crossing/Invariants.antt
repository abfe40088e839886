use Rattle.std.proofs.Common.{take}
use Rattle.std.specs.List.{flat_map}
use Rattle.sf_faults.specs.Candidates.{crossings_of}
use Rattle.sf_faults.specs.Orders.{placed_rings}
use Rattle.sf_faults.specs.Places.{NoneIsAtFault}
use Rattle.sf_faults.proofs.crossings.first_crossing.Given as goal

-- none of those that were passed is at fault
abbrev pub invariant-loop-ring : goal.invariant-loop-ring
invariant-loop-ring l = NoneIsAtFault (flat_map crossings_of (take l.ring-index (placed_rings l.polygons)))
