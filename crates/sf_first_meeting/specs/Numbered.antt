-- Internal: who wants to trust the program need not read this file.
-- The edges of a list of points by their numbers, and which points two of them may share.
use Rattle.std.specs.Prelude.{◌≡◌, ◌≢◌, ℕ, ◌+◌, ◌<◌, ◌⊎◌, List, length, pos, slice_index_or}
use Rattle.sf_grid.specs.Plane.{Coordinates, IsPoint, IsSamePoint, Point, grid_point}
use Rattle.sf_grid.specs.Edge.{Edge, edge_between}
use Rattle.sf_grid.specs.Sharing.{IsOnBoth}

-- the point with the number i, counted from 0
abbrev pub point_of : List Coordinates → ℕ → Coordinates
point_of ps i = slice_index_or ps i (record { x = pos 0; y = pos 0 })

-- the edge from the point with the number i to the next one
abbrev pub edge_at : List Coordinates → ℕ → Edge
edge_at ps i = edge_between (point_of ps i) (point_of ps (i + 1))

-- no two neighbours are equal
abbrev pub HasLengths : List Coordinates → Type 0
HasLengths ps = (i : ℕ) → i + 1 < length ps → point_of ps i ≢ point_of ps (i + 1)

-- the list is closed, by the edge j
abbrev pub IsClosedBy : List Coordinates → ℕ → Type 0
IsClosedBy ps j = (j + 2 ≡ length ps) × (point_of ps 0 ≡ point_of ps (j + 1))

-- two edges are neighbours: one after the other, or the first and the last one of a closed list
abbrev pub AreNeighbours : List Coordinates → ℕ → ℕ → Type 0
AreNeighbours ps i j = (j ≡ i + 1) ⊎ ((i ≡ 0) × IsClosedBy ps j)

-- p is their common vertex as neighbours
abbrev pub IsJoint : List Coordinates → ℕ → ℕ → Point → Type 0
IsJoint ps i j p =
    ((j ≡ i + 1) × IsSamePoint (grid_point (point_of ps j)) p)
    ⊎ ((i ≡ 0) × IsClosedBy ps j × IsSamePoint (grid_point (point_of ps 0)) p)

-- the edges i and j share no point but their common vertex as neighbours
abbrev pub AreApart : List Coordinates → ℕ → ℕ → Type 0
AreApart ps i j = (p : Point) → IsPoint p → IsOnBoth (edge_at ps i) (edge_at ps j) p → IsJoint ps i j p

-- so do any two edges
abbrev pub AllAreApart : List Coordinates → Type 0
AllAreApart ps = (i j : ℕ) → i < j → j + 1 < length ps → AreApart ps i j
