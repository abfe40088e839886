-- The square of the distance of a grid point from an edge, as it is computed, and of two edges that share no point.
use Rattle.std.specs.Prelude.{ℤ, pos, ◌+ℤ◌, ◌-ℤ◌, ◌*ℤ◌, int_le, unsigned_abs, if◌then◌else◌}
use Rattle.sf_grid.specs.Fraction.{Fraction, fraction_le, whole}
use Rattle.sf_grid.specs.Plane.{Coordinates, grid_point}
use Rattle.sf_grid.specs.Edge.{Edge, cross}

-- the square of the distance of two grid points
abbrev pub square_of : Coordinates → Coordinates → ℤ
square_of a b = (b.x -ℤ a.x) *ℤ (b.x -ℤ a.x) +ℤ (b.y -ℤ a.y) *ℤ (b.y -ℤ a.y)

-- how far along the edge a point lies, times the edge's length
abbrev pub along : Edge → Coordinates → ℤ
along e p = (e.b.x -ℤ e.a.x) *ℤ (p.x -ℤ e.a.x) +ℤ (e.b.y -ℤ e.a.y) *ℤ (p.y -ℤ e.a.y)

-- the cross product of the edge's direction with the way from its start to a point
abbrev pub cross_at : Edge → Coordinates → ℤ
cross_at e p = (e.b.x -ℤ e.a.x) *ℤ (p.y -ℤ e.a.y) -ℤ (e.b.y -ℤ e.a.y) *ℤ (p.x -ℤ e.a.x)

-- the square of the distance of a grid point from an edge: from its start, its end, or its line
abbrev pub square_to_edge : Edge → Coordinates → Fraction
square_to_edge e p =
    if int_le (along e p) (pos 0)
    then whole (square_of e.a p)
    else
    (if int_le (square_of e.a e.b) (along e p)
    then whole (square_of e.b p)
    else record { num = cross e.a e.b (grid_point p) *ℤ cross e.a e.b (grid_point p); den = unsigned_abs (square_of e.a e.b) })

-- the lesser of two fractions
abbrev pub lesser : Fraction → Fraction → Fraction
lesser a b = if fraction_le a b then a else b

-- the least square of the distance of an end of one of two edges from the other
abbrev pub square_of_ends : Edge → Edge → Fraction
square_of_ends e f =
    lesser (lesser (square_to_edge f e.a) (square_to_edge f e.b)) (lesser (square_to_edge e f.a) (square_to_edge e f.b))
