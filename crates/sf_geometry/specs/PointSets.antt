-- The point sets of a geometry: which points of the plane are in its interior, its boundary and its exterior.
use Rattle.std.specs.Prelude.{Bool, false, ◌&&◌, ◌||◌, not, List, [], ◌∷◌, count_by}
use Rattle.std.specs.List.{list_any}
use Rattle.sf_grid.specs.Plane.{Coordinates, Point as PlanePoint, grid_point, same_point}
use Rattle.sf_grid.specs.Edge.{on_edge}
use Rattle.sf_grid.specs.EvenOdd.{edges_above, is_odd}
use Rattle.sf_geometry.specs.declared.geometry.Geometry.{Geometry}
use Rattle.sf_geometry.specs.declared.geometry.Geometry.TheVariants.{Point, LineString, Polygon, MultiPoint, MultiLineString, MultiPolygon}
use Rattle.sf_geometry.specs.Lists.{edges_of, ends_of}

-- q is one of the grid points
abbrev pub is_among : List Coordinates → PlanePoint → Bool
is_among ps q = list_any (λ p. same_point (grid_point p) q) ps

-- q is on an edge of a line or ring
abbrev pub on_line : List Coordinates → PlanePoint → Bool
on_line ps q = list_any (λ e. on_edge e q) (edges_of ps)

-- q is inside a ring: on none of its edges, and an odd number of them is above it
abbrev pub in_ring : List Coordinates → PlanePoint → Bool
in_ring ring q = not (on_line ring q) && is_odd (edges_above q (edges_of ring))

-- q is on or inside a ring
abbrev pub within_ring : List Coordinates → PlanePoint → Bool
within_ring ring q = on_line ring q || in_ring ring q

-- q is inside a polygon: inside its shell, and neither on nor inside a hole
abbrev pub in_polygon : List (List Coordinates) → PlanePoint → Bool
in_polygon [] q = false
in_polygon (shell ∷ holes) q = in_ring shell q && not (list_any (λ hole. within_ring hole q) holes)

-- q is on an edge of a ring of a polygon
abbrev pub on_polygon : List (List Coordinates) → PlanePoint → Bool
on_polygon rings q = list_any (λ ring. on_line ring q) rings

-- q is in the boundary; of lines, it is an end of an odd number of them that aren't closed
abbrev pub in_boundary : Geometry → PlanePoint → Bool
in_boundary (Point p) q = false
in_boundary (LineString ps) q = is_among (ends_of ps) q
in_boundary (Polygon rings) q = on_polygon rings q
in_boundary (MultiPoint ps) q = false
in_boundary (MultiLineString lines) q = is_odd (count_by (λ ps. is_among (ends_of ps) q) lines)
in_boundary (MultiPolygon polygons) q = list_any (λ rings. on_polygon rings q) polygons

-- q is in the interior
abbrev pub in_interior : Geometry → PlanePoint → Bool
in_interior (Point p) q = same_point (grid_point p) q
in_interior (LineString ps) q = on_line ps q && not (in_boundary (LineString ps) q)
in_interior (Polygon rings) q = in_polygon rings q
in_interior (MultiPoint ps) q = is_among ps q
in_interior (MultiLineString lines) q = list_any (λ ps. on_line ps q) lines && not (in_boundary (MultiLineString lines) q)
in_interior (MultiPolygon polygons) q = list_any (λ rings. in_polygon rings q) polygons

-- q is in the exterior: in neither
abbrev pub in_exterior : Geometry → PlanePoint → Bool
in_exterior geometry q = not (in_interior geometry q) && not (in_boundary geometry q)
