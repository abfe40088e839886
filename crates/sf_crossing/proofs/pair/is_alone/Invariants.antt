use Rattle.std.proofs.Common.{◌≢◌, ℕ, ◌<◌}
use Rattle.sf_geometry.specs.Parts.{edge_of}
use Rattle.sf_edge_tree.specs.Boxes.{edge_at}
use Rattle.sf_crossing.specs.Crossing.{MayHave}
use Rattle.sf_crossing.proofs.pair.is_alone.Given as goal

-- none of the edges gone through has the point, but the one with the number
abbrev pub invariant-loop-other : goal.invariant-loop-other
invariant-loop-other l = (k : ℕ) → k < l.other → k ≢ l.number → ¬ (MayHave (edge_of (edge_at l.edges k)) (edge_of l.line) l.point)
