use Rattle.std.proofs.Common.{◌≡◌, take}
use Rattle.std.specs.List.{flat_map}
use Rattle.sf_faults.specs.Orders.{numbered}
use Rattle.sf_faults.proofs.RingLaws.{part_spots}
use Rattle.sf_faults.proofs.spots.spots_of.Given as goal

-- those of the parts that were passed are there
abbrev pub invariant-loop-part : goal.invariant-loop-part
invariant-loop-part l = l.found.items ≡ flat_map part_spots (take l.part (numbered l.polygons))
