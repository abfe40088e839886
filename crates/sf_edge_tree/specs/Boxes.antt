-- Internal: who wants to trust the program need not read this file.
-- Boxes of edges, which are given by their ends.
use Rattle.std.specs.Prelude.{ℕ, Bool, ◌&&◌, List, pos, int_le, slice_index_or}
use Rattle.std.specs.Int.{int_max, int_min}
use Rattle.sf_grid.specs.Plane.{Coordinates}
use Rattle.sf_geometry.specs.declared.extent.Extent.{Extent}
use Rattle.sf_geometry.specs.Envelope.{extent_at, extent_with}

-- the box of an edge
abbrev pub extent_of_edge : Coordinates × Coordinates → Extent
extent_of_edge edge = extent_with (extent_at edge.0) edge.1

-- the edge with the number i, counted from 0
abbrev pub edge_at : List (Coordinates × Coordinates) → ℕ → Coordinates × Coordinates
edge_at edges i = slice_index_or edges i (record { x = pos 0; y = pos 0 }, record { x = pos 0; y = pos 0 })

-- its box
abbrev pub extent_at_edge : List (Coordinates × Coordinates) → ℕ → Extent
extent_at_edge edges i = extent_of_edge (edge_at edges i)

-- the first box has all of the second
abbrev pub covers : Extent → Extent → Bool
covers a b =
    (int_le a.min_x b.min_x && int_le b.max_x a.max_x) && (int_le a.min_y b.min_y && int_le b.max_y a.max_y)

-- the least box that has two boxes
abbrev pub joined : Extent → Extent → Extent
joined a b =
    record { min_x = int_min a.min_x b.min_x; min_y = int_min a.min_y b.min_y; max_x = int_max a.max_x b.max_x; max_y = int_max a.max_y b.max_y }
