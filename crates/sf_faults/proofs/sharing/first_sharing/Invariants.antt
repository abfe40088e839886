use Rattle.sf_faults.specs.Candidates.{shared_by}
use Rattle.sf_faults.specs.Orders.{placed_rings}
use Rattle.sf_faults.proofs.PlaceLaws.{NoPair, NoneWith}
use Rattle.sf_faults.proofs.RingLaws.{ring_read}
use Rattle.sf_faults.proofs.sharing.first_sharing.Given as goal

-- no two of the rings that were passed share a piece
abbrev pub invariant-loop-second : goal.invariant-loop-second
invariant-loop-second l = NoPair shared_by (placed_rings l.polygons) l.second

-- nor this one with an earlier one that was passed
abbrev pub invariant-loop-first : goal.invariant-loop-first
invariant-loop-first l = NoneWith shared_by (placed_rings l.polygons) l.second l.first (ring_read l.polygons l.second)
