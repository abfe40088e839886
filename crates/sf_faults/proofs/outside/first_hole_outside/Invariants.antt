use Rattle.std.proofs.Common.{take}
use Rattle.std.specs.List.{flat_map}
use Rattle.sf_faults.specs.Candidates.{outside_in}
use Rattle.sf_faults.specs.Orders.{numbered}
use Rattle.sf_faults.specs.Places.{NoneIsAtFault}
use Rattle.sf_faults.proofs.outside.first_hole_outside.Given as goal

-- none of the parts that were passed is at fault
abbrev pub invariant-loop-part : goal.invariant-loop-part
invariant-loop-part l = NoneIsAtFault (flat_map outside_in (take l.part (numbered l.polygons)))
