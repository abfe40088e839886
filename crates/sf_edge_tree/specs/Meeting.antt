-- Internal: who wants to trust the program need not read this file.
-- Of some edges those whose boxes share a point with a box.
use Rattle.std.specs.Prelude.{List, map, IsTrue}
use Rattle.std.specs.List.{filter}
use Rattle.sf_grid.specs.Edge.{Edge}
use Rattle.sf_grid.specs.Plane.{Coordinates}
use Rattle.sf_geometry.specs.declared.extent.Extent.{Extent}
use Rattle.sf_geometry.specs.Envelope.{extents_meet}
-- the box of an edge, by its ends
pub use Rattle.sf_edge_tree.specs.Boxes.{extent_of_edge}

-- the ends of an edge
abbrev pub ends_of_edge : Edge → Coordinates × Coordinates
ends_of_edge e = (e.a, e.b)

-- of some edges those whose boxes share a point with a box, by their ends, in order
abbrev pub ends_meeting : Extent → List Edge → List (Coordinates × Coordinates)
ends_meeting box es = filter (λ pair. extents_meet (extent_of_edge pair) box) (map ends_of_edge es)

-- the box of an edge shares a point with a box, and the edge passes
abbrev pub Meets : Extent → (Edge → Type 0) → Edge → Type 0
Meets box Passes e = IsTrue (extents_meet (extent_of_edge (e.a, e.b)) box) × Passes e
