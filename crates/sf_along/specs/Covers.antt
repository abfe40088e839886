-- Internal: who wants to trust the program need not read this file.
-- When each edge of one geometry lies in an edge of another, and the ends of edges that lie in none.
use Rattle.std.specs.Prelude.{◌≡◌, ◌⊎◌, Bool, ◌&&◌, List, IsTrue, None, Option, Some, false, not}
use Rattle.std.specs.List.{AllByRecursion, Contains, list_any}
use Rattle.sf_grid.specs.Edge.{Edge as Line, edge_between, on_edge}
use Rattle.sf_grid.specs.Plane.{Coordinates, grid_point}
use Rattle.sf_geometry.specs.declared.geometry.Geometry.{Geometry}
use Rattle.sf_geometry.specs.Parts.{edges_of}
use Rattle.sf_along.specs.declared.run.Run.{Run}

-- ---- edges
-- f has both ends of e, and so all of it
abbrev pub has_edge : Line → Line → Bool
has_edge f e = on_edge f (grid_point e.a) && on_edge f (grid_point e.b)

-- one of them has
abbrev pub lies_in_one : List Line → Line → Bool
lies_in_one fs e = list_any (λ f. has_edge f e) fs

-- each edge of a lies in an edge of b
abbrev pub LieAlong : Geometry → Geometry → Type 0
LieAlong a b = AllByRecursion (λ e. IsTrue (lies_in_one (edges_of b) e)) (edges_of a)

-- the point is an end of an edge of a
pub record IsEnd (a : Geometry) (p : Coordinates) : Type 0 where
  pub edge : Line
  pub of : Contains (edges_of a) edge
  pub at : (edge.a ≡ p) ⊎ (edge.b ≡ p)

-- ---- runs
-- the edge of a run
abbrev pub edge_of_run : Run → Line
edge_of_run r = edge_between r.left r.right

-- r lies in a run of the second geometry
abbrev pub has_cover : List Run → Run → Bool
has_cover runs r = list_any (λ s. not s.is_first && has_edge (edge_of_run s) (edge_of_run r)) runs

-- each run of the first geometry does
abbrev pub AreCovered : List Run → List Run → Type 0
AreCovered runs rs = AllByRecursion (λ r. IsTrue r.is_first → IsTrue (has_cover runs r)) rs

-- the point is the earlier end of a run of the first geometry
pub record IsLeft (runs : List Run) (p : Coordinates) : Type 0 where
  pub run : Run
  pub among : Contains runs run
  pub first : IsTrue run.is_first
  pub at : run.left ≡ p

-- there is a run, and it has all of r
abbrev pub is_in : Option Run → Run → Bool
is_in None r = false
is_in (Some s) r = has_edge (edge_of_run s) (edge_of_run r)
