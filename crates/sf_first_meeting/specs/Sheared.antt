-- Internal: who wants to trust the program need not read this file.
-- The plane sheared, so that points in order by x and then y stand in order by x alone: no edge is vertical then.
use Rattle.std.specs.Prelude.{ℕ, ◌+◌, ℤ, pos, ◌+ℤ◌, ◌*ℤ◌, List}
use Rattle.sf_grid.specs.Plane.{Coordinates, Point}
use Rattle.sf_grid.specs.Edge.{Edge, edge_between}
use Rattle.sf_grid.specs.Sharing.{earlier_of, later_of}
use Rattle.sf_first_meeting.specs.Numbered.{point_of}

-- more than two heights on the grid differ
abbrev pub shear_factor : ℕ
shear_factor = 4294967296

-- the place of a point: its order by x and then y
abbrev pub place : Coordinates → ℤ
place c = c.x *ℤ pos shear_factor +ℤ c.y

abbrev pub sheared : Coordinates → Coordinates
sheared c = record { x = place c; y = c.y }

abbrev pub sheared_point : Point → Point
sheared_point p = record { x = p.x *ℤ pos shear_factor +ℤ p.y; y = p.y; d = p.d }

-- the edge between two points, sheared, from its earlier end
abbrev pub risen : Coordinates → Coordinates → Edge
risen a b = edge_between (sheared (earlier_of a b)) (sheared (later_of a b))

-- the edge with the number i, so
abbrev pub rising : List Coordinates → ℕ → Edge
rising ps i = risen (point_of ps i) (point_of ps (i + 1))
