use Rattle.std.proofs.Common.{◌≡◌, take}
use Rattle.sf_strips.specs.Fronts.{pieces_of}
use Rattle.sf_cells.specs.Groups.{counts}
use Rattle.sf_cells.specs.Hands.{plus}
use Rattle.sf_cells.proofs.tally.add_edges.Given as goal

-- the pieces of the edges so far were added
abbrev pub invariant-loop-edge : goal.invariant-loop-edge
invariant-loop-edge l = l.tally ≡ plus l.fn.tally (counts l.groups (pieces_of (take l.edge-index l.edges)))
