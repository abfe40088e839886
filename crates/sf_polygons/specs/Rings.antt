-- Internal: who wants to trust the program need not read this file.
-- Rings in groups, as they are handed to a walk.
use Rattle.std.specs.Prelude.{ℕ, ◌+◌, List, map}
use Rattle.std.specs.List.{flat_map, zip}
use Rattle.sf_grid.specs.Plane.{Coordinates}
use Rattle.sf_geometry.specs.Lists.{edges_of}
use Rattle.sf_pieces.specs.Marked.{Marked, marked, piece_of}

-- a ring and the number of its group
abbrev pub GroupedRing : Type 0
GroupedRing = List Coordinates × ℕ

-- the edges of rings, each in its ring's group
abbrev pub edges_in : ℕ → List Coordinates → List Marked
edges_in group ring = marked group (map piece_of (edges_of ring))

abbrev pub pieces_in : List GroupedRing → List Marked
pieces_in rings = flat_map (λ (r : GroupedRing). edges_in r.1 r.0) rings

-- rings, all in one group
abbrev pub grouped : ℕ → List (List Coordinates) → List GroupedRing
grouped group rings = map (λ ring. (ring, group)) rings

-- holes in the groups from 1 on by their colours
abbrev pub holes_in : List (List Coordinates) → List ℕ → List GroupedRing
holes_in holes colours = map (λ (h : GroupedRing). (h.0, h.1 + 1)) (zip holes colours)

-- each polygon's rings in the group of its colour
abbrev pub polygons_in : List (List (List Coordinates)) → List ℕ → List GroupedRing
polygons_in polygons colours = flat_map (λ (p : List (List Coordinates) × ℕ). grouped p.1 p.0) (zip polygons colours)
