-- Internal: who wants to trust the program need not read this file.
-- Boxes over edges, and how far boxes are apart.
use Rattle.std.specs.Prelude.{ℕ, ◌+◌, ◌*◌, List, ℤ, pos, ◌-ℤ◌, unsigned_abs, Bool, ◌&&◌, IsTrue}
use Rattle.std.specs.Int.{int_max}
use Rattle.sf_grid.specs.Edge.{within}
use Rattle.sf_grid.specs.Fraction.{fraction_le}
use Rattle.sf_grid.specs.Plane.{Coordinates, IsPoint, Point, x_of, y_of}
use Rattle.sf_geometry.specs.declared.extent.Extent.{Extent}
use Rattle.sf_geometry.specs.Envelope.{extent_with}
use Rattle.sf_distance.specs.Mixed.{Mixed, number_of}
use Rattle.sf_distance.specs.Squares.{square_between}
use Rattle.sf_edge_distance.specs.Edges.{IsOnSome}

-- q is in the closed box
abbrev pub in_extent : Extent → Point → Bool
in_extent e q = within e.min_x e.max_x (x_of q) && within e.min_y e.max_y (y_of q)

-- the box has all points of the edges
abbrev pub IsOver : Extent → List (Coordinates × Coordinates) → Type 0
IsOver e edges = (q : Point) → IsPoint q → IsOnSome edges q → IsTrue (in_extent e q)

-- the least box with an edge beside what a box has
abbrev pub with_edge : Extent → Coordinates × Coordinates → Extent
with_edge e edge = extent_with (extent_with e edge.0) edge.1

-- how far the numbers from low to high are apart from those from low' to high'
abbrev pub axis_gap : ℤ → ℤ → ℤ → ℤ → ℤ
axis_gap low high low' high' = int_max (pos 0) (int_max (low' -ℤ high) (low -ℤ high'))

-- the square of how far two boxes are apart, 0 where they share a point
abbrev pub gap_square : Extent → Extent → ℕ
gap_square a b =
    let x : ℕ = unsigned_abs (axis_gap a.min_x a.max_x b.min_x b.max_x) in
    let y : ℕ = unsigned_abs (axis_gap a.min_y a.max_y b.min_y b.max_y) in
    x * x + y * y

-- no point of the one box is nearer to a point of the other than the root of the square
abbrev pub AreApartBy : Extent → Extent → Mixed → Type 0
AreApartBy a b square =
    (p q : Point) → IsPoint p → IsPoint q → IsTrue (in_extent a p) → IsTrue (in_extent b q) → IsTrue (fraction_le (number_of square) (square_between p q))
