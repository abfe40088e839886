-- Internal: who wants to trust the program need not read this file.
-- The edges of a geometry as pairs of grid points, and their boxes.
use Rattle.std.specs.Prelude.{◌≡◌, Bool, List, map}
use Rattle.std.specs.List.{list_any}
use Rattle.sf_grid.specs.Plane.{Coordinates, IsOnGrid}
use Rattle.sf_geometry.specs.declared.extent.Extent.{Extent}
use Rattle.sf_geometry.specs.declared.geometry.Geometry.{Geometry}
use Rattle.sf_geometry.specs.Envelope.{extents_meet}
use Rattle.sf_geometry.specs.Parts.{edge_of, edges_of}
use Rattle.sf_edge_tree.specs.Meeting.{ends_of_edge, extent_of_edge}

-- the pairs are the ends of the geometry's edges, in order
abbrev pub AreEdgesOf : Geometry → List (Coordinates × Coordinates) → Type 0
AreEdgesOf geometry pairs = map edge_of pairs ≡ edges_of geometry

-- those of the geometry's edges, in order
abbrev pub pairs_of : Geometry → List (Coordinates × Coordinates)
pairs_of geometry = map ends_of_edge (edges_of geometry)

-- both ends are on the grid
abbrev pub AreOnGrid : Coordinates × Coordinates → Type 0
AreOnGrid pair = IsOnGrid pair.0 × IsOnGrid pair.1

-- the box of one of the edges shares a point with the box
abbrev pub is_box_met : Extent → List (Coordinates × Coordinates) → Bool
is_box_met extent pairs = list_any (λ pair. extents_meet (extent_of_edge pair) extent) pairs
