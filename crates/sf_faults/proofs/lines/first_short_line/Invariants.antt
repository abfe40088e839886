use Rattle.std.proofs.Common.{take}
use Rattle.std.specs.List.{flat_map}
use Rattle.sf_faults.specs.Candidates.{short_line}
use Rattle.sf_faults.specs.Orders.{numbered}
use Rattle.sf_faults.specs.Places.{NoneIsAtFault}
use Rattle.sf_faults.proofs.PlaceLaws.{single}
use Rattle.sf_faults.proofs.lines.first_short_line.Given as goal

-- none of those that were passed is at fault
abbrev pub invariant-loop-part : goal.invariant-loop-part
invariant-loop-part l = NoneIsAtFault (flat_map (single short_line) (take l.part (numbered l.lines)))
