-- Internal: who wants to trust the program need not read this file.
-- When edges of two lists share a point.
use Rattle.std.specs.Prelude.{ℕ, List, IsTrue}
use Rattle.std.specs.List.{list_any}
use Rattle.sf_grid.specs.Edge.{Edge, IsOnEdge, on_edge}
use Rattle.sf_grid.specs.Plane.{Coordinates, IsPoint, Point}
use Rattle.sf_geometry.specs.Parts.{edge_of}
use Rattle.sf_edge_tree.specs.Boxes.{edge_at}

-- a point that an edge of each list has
pub record ShareOne (es fs : List Edge) : Type 0 where
  pub point : Point
  pub is_point : IsPoint point
  pub on_first : IsTrue (list_any (λ e. on_edge e point) es)
  pub on_second : IsTrue (list_any (λ f. on_edge f point) fs)

-- a point that two edges have, one of each list, by their numbers
pub record AreSharing (es fs : List (Coordinates × Coordinates)) (i j : ℕ) : Type 0 where
  pub point : Point
  pub is_point : IsPoint point
  pub on_first : IsOnEdge (edge_of (edge_at es i)) point
  pub on_second : IsOnEdge (edge_of (edge_at fs j)) point
