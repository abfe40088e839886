-- Internal: who wants to trust the program need not read this file.
-- When edges of two lists cross at a point that no other edge of the lists has.
use Rattle.std.specs.Prelude.{◌≤◌, ◌<◌, ◌≢◌, ◌⊎◌, ℕ, Bool, ◌&&◌, ◌||◌, List, pos, int_lt, length, IsTrue}
use Rattle.std.specs.List.{Contains, count_by}
use Rattle.sf_grid.specs.Edge.{Edge, IsOnEdge, cross, on_edge}
use Rattle.sf_grid.specs.Plane.{Coordinates, IsPoint, Point, grid_point}
use Rattle.sf_grid.specs.Sharing.{IsSharing}
use Rattle.sf_grid.specs.declared.meet.Meet.TheVariants.{Along}
use Rattle.sf_geometry.specs.Parts.{edge_of}
use Rattle.sf_edge_tree.specs.Boxes.{edge_at}

-- c and d are on different sides of the line through the ends of e, and not on it
abbrev pub are_parted : Edge → Coordinates → Coordinates → Bool
are_parted e c d =
    (int_lt (cross e.a e.b (grid_point c)) (pos 0) && int_lt (pos 0) (cross e.a e.b (grid_point d)))
    || (int_lt (pos 0) (cross e.a e.b (grid_point c)) && int_lt (cross e.a e.b (grid_point d)) (pos 0))

-- each of the two edges leads from one side of the other to the other side
abbrev pub do_cross : Edge → Edge → Bool
do_cross e f = are_parted e f.a f.b && are_parted f e.a e.b

-- an edge of each list, and the point where they cross, which no other edge of the two lists has
pub record HaveCrossing (es fs : List Edge) : Type 0 where
  pub first : Edge
  pub second : Edge
  pub point : Point
  pub is_point : IsPoint point
  pub of_first : Contains es first
  pub of_second : Contains fs second
  pub on_first : IsOnEdge first point
  pub on_second : IsOnEdge second point
  pub crossing : IsTrue (do_cross first second)
  pub first_alone : count_by (λ e. on_edge e point) es ≤ 1
  pub second_alone : count_by (λ f. on_edge f point) fs ≤ 1

-- ---- by the numbers of edges, which are given by their ends
-- two edges share a piece
abbrev pub RunAlong : Edge → Edge → Type 0
RunAlong e f = (low : Coordinates) × (high : Coordinates) × IsSharing e f (Along low high)

-- an edge has a point of the edge `line`, or runs along it
abbrev pub MayHave : Edge → Edge → Point → Type 0
MayHave e line q = IsOnEdge e q ⊎ RunAlong e line

-- so has none of these edges but the one with the number i
abbrev pub IsAlone : List (Coordinates × Coordinates) → ℕ → Edge → Point → Type 0
IsAlone es i line q = (k : ℕ) → k < length es → k ≢ i → ¬ (MayHave (edge_of (edge_at es k)) line q)

-- two edges, one of each list, have one point in common, where they cross, and no other edge of the lists has it
pub record CrossAlone (es fs : List (Coordinates × Coordinates)) (i j : ℕ) : Type 0 where
  pub point : Point
  pub is_point : IsPoint point
  pub on_first : IsOnEdge (edge_of (edge_at es i)) point
  pub on_second : IsOnEdge (edge_of (edge_at fs j)) point
  pub one : ¬ (RunAlong (edge_of (edge_at es i)) (edge_of (edge_at fs j)))
  pub crossing : IsTrue (do_cross (edge_of (edge_at es i)) (edge_of (edge_at fs j)))
  pub first_alone : IsAlone es i (edge_of (edge_at fs j)) point
  pub second_alone : IsAlone fs j (edge_of (edge_at es i)) point
