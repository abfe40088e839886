-- Internal: who wants to trust the program need not read this file.
-- The points of a list of edges, each given by its ends, which may be one point.
use Rattle.std.specs.Prelude.{Bool, List, IsTrue}
use Rattle.std.specs.List.{list_any}
use Rattle.sf_grid.specs.Plane.{Coordinates, Point}
use Rattle.sf_grid.specs.Edge.{edge_between, on_edge}

-- q is on one of the edges
abbrev pub on_some : List (Coordinates × Coordinates) → Point → Bool
on_some edges q = list_any (λ e. on_edge (edge_between e.0 e.1) q) edges

abbrev pub IsOnSome : List (Coordinates × Coordinates) → Point → Type 0
IsOnSome edges q = IsTrue (on_some edges q)
