-- What of a geometry can be nearest to something outside it: its points, and the edges of its lines and rings. A point stands for an edge
-- whose ends are one point.
use Rattle.std.specs.Prelude.{◌≡◌, ◌<◌, Bool, List, [], ◌∷◌, length, map, IsTrue}
use Rattle.std.specs.List.{list_any}
use Rattle.sf_grid.specs.Plane.{Coordinates, Point as PlanePoint}
use Rattle.sf_grid.specs.Edge.{Edge, edge_between, on_edge}
use Rattle.sf_geometry.specs.declared.geometry.Geometry.{Geometry}
use Rattle.sf_geometry.specs.declared.geometry.Geometry.TheVariants.{Point, MultiPoint}
use Rattle.sf_geometry.specs.Parts.{edge_of, edges_of}

-- an edge from a point to itself
abbrev pub dot_at : Coordinates → Edge
dot_at p = edge_between p p

abbrev pub segments_of : Geometry → List Edge
segments_of (Point p) = dot_at p ∷ []
segments_of (MultiPoint ps) = map dot_at ps
segments_of geometry = edges_of geometry

-- q is on one of them
abbrev pub on_segments : Geometry → PlanePoint → Bool
on_segments geometry q = list_any (λ e. on_edge e q) (segments_of geometry)

abbrev pub IsOnSegments : Geometry → PlanePoint → Type 0
IsOnSegments geometry q = IsTrue (on_segments geometry q)

-- pairs of points, one at least, that are the ends of the segments of a geometry
pub record AreListed (geometry : Geometry) (pairs : List (Coordinates × Coordinates)) : Type 0 where
  pub are : map edge_of pairs ≡ segments_of geometry
  pub some : 0 < length pairs
