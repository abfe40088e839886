-- Internal: who wants to trust the program need not read this file.
-- The edges of one geometry that are near another one: whose box shares a point with the box of that one's points.
use Rattle.std.specs.Prelude.{List, [], None, Option, Some, fold}
use Rattle.sf_grid.specs.Plane.{Coordinates}
use Rattle.sf_geometry.specs.declared.extent.Extent.{Extent}
use Rattle.sf_geometry.specs.declared.geometry.Geometry.{Geometry}
use Rattle.sf_geometry.specs.Envelope.{grown}
use Rattle.sf_geometry.specs.Parts.{edges_of, points_of}
use Rattle.sf_edge_tree.specs.Meeting.{ends_meeting}

-- those whose boxes share a point with a box, by their ends, in order; with no box none
abbrev pub edges_near : Option Extent → Geometry → List (Coordinates × Coordinates)
edges_near None a = []
edges_near (Some box) a = ends_meeting box (edges_of a)

-- those of a near b, which has a box where it has points
abbrev pub near_edges : Geometry → Geometry → List (Coordinates × Coordinates)
near_edges a b = edges_near (fold grown None (points_of b)) a
