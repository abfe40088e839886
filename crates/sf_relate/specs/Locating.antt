-- Internal: who wants to trust the program need not read this file.
-- Where a point lies in a geometry, by tests on its edges and ends.
use Rattle.std.specs.Prelude.{Bool, List, if◌then◌else◌}
use Rattle.std.specs.List.{count_by, flat_map, list_any}
use Rattle.sf_grid.specs.Plane.{Coordinates, Point as PlanePoint, grid_point, same_point}
use Rattle.sf_grid.specs.Edge.{Edge, on_edge}
use Rattle.sf_grid.specs.EvenOdd.{edges_above, is_odd}
use Rattle.sf_geometry.specs.declared.geometry.Geometry.{Geometry}
use Rattle.sf_geometry.specs.declared.geometry.Geometry.TheVariants.{Point, LineString, Polygon, MultiPoint, MultiLineString, MultiPolygon}
use Rattle.sf_geometry.specs.Lists.{edges_of as edges_of_list, ends_of}
use Rattle.sf_geometry.specs.Parts.{joined}
use Rattle.sf_geometry.specs.PointSets.{is_among, on_line}
use Rattle.sf_relate.specs.declared.place.Place.{Place}
use Rattle.sf_relate.specs.declared.place.Place.TheVariants.{Interior, Boundary, Exterior}

-- the place in points: whether one of them is there
abbrev pub point_place : Bool → Place
point_place there = if there then Interior else Exterior

-- the place in lines: whether one of them is there, and whether an odd number of them ends there
abbrev pub line_place : Bool → Bool → Place
line_place on end = if end then Boundary else (if on then Interior else Exterior)

-- the place in an area: whether one of its edges is there, and whether an odd number of them is above
abbrev pub area_place : Bool → Bool → Place
area_place on odd = if on then Boundary else (if odd then Interior else Exterior)

-- the place of q in lines
abbrev pub lines_place : List (List Coordinates) → PlanePoint → Place
lines_place lines q = line_place (list_any (λ ps. on_line ps q) lines) (is_odd (count_by (λ ps. is_among (ends_of ps) q) lines))

-- the place of q in the area that these edges bound
abbrev pub edges_place : List Edge → PlanePoint → Place
edges_place es q = area_place (list_any (λ e. on_edge e q) es) (is_odd (edges_above q es))

-- the place of q in a geometry
abbrev pub place_by_tests : Geometry → PlanePoint → Place
place_by_tests (Point p) q = point_place (same_point (grid_point p) q)
place_by_tests (MultiPoint ps) q = point_place (is_among ps q)
place_by_tests (LineString ps) q = line_place (on_line ps q) (is_among (ends_of ps) q)
place_by_tests (MultiLineString lines) q = lines_place lines q
place_by_tests (Polygon rings) q = edges_place (flat_map edges_of_list rings) q
place_by_tests (MultiPolygon polygons) q = edges_place (flat_map edges_of_list (joined polygons)) q

-- the place in what just one of two areas has
abbrev pub in_one_alone : Place → Place → Place
in_one_alone Boundary p = Boundary
in_one_alone Exterior p = p
in_one_alone Interior Interior = Exterior
in_one_alone Interior Boundary = Boundary
in_one_alone Interior Exterior = Interior
