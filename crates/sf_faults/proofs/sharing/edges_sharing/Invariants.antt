use Rattle.std.proofs.Common.{take}
use Rattle.sf_faults.specs.Candidates.{edges_shared}
use Rattle.sf_faults.specs.Places.{NoneIsAtFault}
use Rattle.std.specs.List.{flat_map}
use Rattle.sf_faults.specs.Written.{edges_shared_by, written}
use Rattle.sf_faults.proofs.PlaceLaws.{single}
use Rattle.sf_faults.proofs.sharing.edges_sharing.Given as goal

-- none of the edges that were passed shares a piece with one of the first ring
abbrev pub invariant-loop-second_edge : goal.invariant-loop-second_edge
invariant-loop-second_edge l = NoneIsAtFault (edges_shared_by l.first l.first_edges l.second (take l.second_edge-index l.second_edges))

-- nor this one with those of the first ring that were passed
abbrev pub invariant-loop-first_edge : goal.invariant-loop-first_edge
invariant-loop-first_edge l =
    NoneIsAtFault (flat_map (single (λ e. edges_shared l.first l.second (written e) (written l.second_edge))) (take l.first_edge-index l.first_edges))
