use Rattle.std.proofs.Common.{◌≡◌, ◌++◌, ◌∷◌, drop}
use Rattle.sf_pieces.proofs.PairLaws.{edges_in}
use Rattle.sf_pieces.proofs.grouped_pieces.GroupedPieces.push_edges.Given as goal

-- the edges of what is left, behind the pieces that are there
abbrev pub invariant-loop-to : goal.invariant-loop-to
invariant-loop-to l =
    l.self ++ edges_in l.fn.group (l.from ∷ drop l.to-index l.others)
    ≡ l.initial.self ++ edges_in l.fn.group (l.initial.from ∷ l.others)
