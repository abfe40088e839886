-- Internal: who wants to trust the program need not read this file.
-- Points on one side of the line of an edge.
use Rattle.std.specs.Prelude.{ℕ, ◌+◌, ◌≤◌, ◌⊎◌, Bool, List, pos, int_lt, IsTrue}
use Rattle.sf_grid.specs.Plane.{Coordinates, grid_point}
use Rattle.sf_grid.specs.Edge.{cross}
use Rattle.sf_strands.specs.Pairs.{point_of}

-- a point is to the left of the line from one point to another, or to the right of it
abbrev pub is_left : Coordinates → Coordinates → Coordinates → Bool
is_left a b c = int_lt (pos 0) (cross a b (grid_point c))

abbrev pub is_right : Coordinates → Coordinates → Coordinates → Bool
is_right a b c = int_lt (cross a b (grid_point c)) (pos 0)

-- the points with the numbers from one to another, both of them too, pass a test with the ends of an edge
abbrev pub AreAll : (Coordinates → Coordinates → Coordinates → Bool) → List Coordinates → ℕ → ℕ → ℕ → Type 0
AreAll test ps i from to = (k : ℕ) → from ≤ k → k ≤ to → IsTrue (test (point_of ps i) (point_of ps (i + 1)) (point_of ps k))

-- they are all on one side of the edge's line
abbrev pub AreBeside : List Coordinates → ℕ → ℕ → ℕ → Type 0
AreBeside ps i from to = AreAll is_left ps i from to ⊎ AreAll is_right ps i from to
