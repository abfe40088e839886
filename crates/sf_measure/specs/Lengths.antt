-- Lengths: of each edge the root of a square, rounded down to a part of a grid step; of a chain their sum.
use Rattle.std.specs.Prelude.{ℕ, zero, suc, ◌+◌, ◌*◌, ◌^◌, ◌/◌, List, [], ◌∷◌, ◌-ℤ◌, ◌*ℤ◌, ◌+ℤ◌, unsigned_abs, nat_le, if◌then◌else◌}
use Rattle.sf_grid.specs.Edge.{Edge}
use Rattle.sf_geometry.specs.declared.geometry.Geometry.{Geometry}
use Rattle.sf_geometry.specs.Parts.{edges_of}

-- the square root of a number, rounded down, bit by bit from above: r is what is known of it, and so many bits are left
unfoldable pub root_from : ℕ → ℕ → ℕ → ℕ
root_from zero r n = r
root_from (suc bits) r n = if nat_le ((r + 2 ^ bits) * (r + 2 ^ bits)) n then root_from bits (r + 2 ^ bits) n else root_from bits r n

-- of a number below 2^128
abbrev pub root_of : ℕ → ℕ
root_of n = root_from 64 0 n

-- the square of an edge's length, in squared grid steps
abbrev pub length_square : Edge → ℕ
length_square e = unsigned_abs ((e.b.x -ℤ e.a.x) *ℤ (e.b.x -ℤ e.a.x) +ℤ (e.b.y -ℤ e.a.y) *ℤ (e.b.y -ℤ e.a.y))

-- so many parts has a grid step
abbrev pub parts_of_step : ℕ
parts_of_step = 2 ^ 32

-- the length of an edge in such parts, rounded down
abbrev pub parts_of_edge : Edge → ℕ
parts_of_edge e = root_of (length_square e * (parts_of_step * parts_of_step))

-- of some edges together, each rounded down by itself
abbrev pub parts_of_edges : List Edge → ℕ
parts_of_edges [] = 0
parts_of_edges (e ∷ es) = parts_of_edge e + parts_of_edges es

-- the length of a geometry's lines, or of the rings of its polygons, in thousandths of a grid step, rounded down; of points 0
abbrev pub thousandths_of : Geometry → ℕ
thousandths_of geometry = (parts_of_edges (edges_of geometry) * 1000) / parts_of_step
