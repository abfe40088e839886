-- Internal: who wants to trust the program need not read this file.
-- The edges near a box, and how they are gathered from the last one on.
use Rattle.std.specs.Prelude.{◌≡◌, ◌<◌, List, ◌++◌, length, take}
use Rattle.std.specs.List.{filter}
use Rattle.sf_grid.specs.Plane.{Coordinates}
use Rattle.sf_geometry.specs.declared.extent.Extent.{Extent}
use Rattle.sf_geometry.specs.Envelope.{extents_meet}
use Rattle.sf_edge_tree.specs.declared.node.Node.{Node}
use Rattle.sf_edge_tree.specs.Boxes.{extent_of_edge}
use Rattle.sf_edge_tree.specs.Nodes.{AreNodes, end_of}

-- the edges whose boxes share a point with a box, in order
abbrev pub near : Extent → List (Coordinates × Coordinates) → List (Coordinates × Coordinates)
near extent edges = filter (λ edge. extents_meet (extent_of_edge edge) extent) edges

-- those of the edges below some nodes
abbrev pub near_below : List (Coordinates × Coordinates) → Extent → List Node → List (Coordinates × Coordinates)
near_below edges extent nodes = near extent (take (end_of nodes) edges)

-- the nodes before a run; behind the run none of the edges below all these nodes is near
pub record IsLastRun (edges : List (Coordinates × Coordinates)) (nodes : List Node) (extent : Extent) (run : List (Coordinates × Coordinates)) (before : List Node) : Type 0 where
  pub tree : AreNodes edges before
  pub fewer : length before < length nodes
  pub rest : near_below edges extent nodes ≡ near_below edges extent before ++ near extent run
