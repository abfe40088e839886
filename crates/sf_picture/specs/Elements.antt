-- Beside the headline, which says nothing of pictures.
-- The elements of features: each a path through the points of its geometry, in their order.
use Rattle.std.specs.Prelude.{ℕ, ◌-ℤ◌, List, [], ◌∷◌, ◌++◌, codes, decimal, flat_map}
use Rattle.std.specs.Fmt.{signed_decimal}
use Rattle.sf_grid.specs.Plane.{Coordinates}
use Rattle.sf_geometry.specs.declared.geometry.Geometry.{Geometry}
use Rattle.sf_geometry.specs.declared.geometry.Geometry.TheVariants as shapes
use Rattle.sf_geometry.specs.declared.kind.Kind.{Kind}
use Rattle.sf_geometry.specs.declared.kind.Kind.TheVariants as kinds
use Rattle.sf_geometry.specs.Kinds.{kind_of}
use Rattle.sf_features.specs.Features.{FeatureContent}
use Rattle.sf_picture.specs.declared.view.View.{View}

-- x and y of a point less those of the map's corner, the upper left one
abbrev pub place_text : View → Coordinates → List ℕ
place_text view p = signed_decimal (p.x -ℤ view.left) ++ (codes " " ++ signed_decimal (p.y -ℤ view.top))

-- a point: a line of no length, which round ends make a dot
abbrev pub dot : View → Coordinates → List ℕ
dot view p = codes "M" ++ place_text view p ++ codes "h0"

-- a point further on a line
abbrev pub line_to : View → Coordinates → List ℕ
line_to view p = codes "L" ++ place_text view p

-- a line through points
abbrev pub line_path : View → List Coordinates → List ℕ
line_path view [] = []
line_path view (p ∷ ps) = codes "M" ++ place_text view p ++ flat_map (line_to view) ps

-- a ring: a line that is closed
abbrev pub ring_path : View → List Coordinates → List ℕ
ring_path view ps = line_path view ps ++ codes "Z"

-- the rings of a polygon, which the even-odd rule fills
abbrev pub polygon_path : View → List (List Coordinates) → List ℕ
polygon_path view rings = flat_map (ring_path view) rings

-- the path of a geometry
abbrev pub path_of : View → Geometry → List ℕ
path_of view (shapes.Point p) = dot view p
path_of view (shapes.LineString ps) = line_path view ps
path_of view (shapes.Polygon rings) = polygon_path view rings
path_of view (shapes.MultiPoint ps) = flat_map (dot view) ps
path_of view (shapes.MultiLineString lines) = flat_map (line_path view) lines
path_of view (shapes.MultiPolygon polygons) = flat_map (polygon_path view) polygons

-- the class of the geometries of a kind
abbrev pub class_of : Kind → List ℕ
class_of kinds.Point = codes "point"
class_of kinds.LineString = codes "linestring"
class_of kinds.Polygon = codes "polygon"
class_of kinds.MultiPoint = codes "multipoint"
class_of kinds.MultiLineString = codes "multilinestring"
class_of kinds.MultiPolygon = codes "multipolygon"

-- the front of the element of a feature of the layer of a name: its identifier and its classes
abbrev pub element_head : List ℕ → ℕ → List ℕ → List ℕ
element_head name id class = codes "<path id='" ++ (name ++ (codes "-" ++ (decimal id ++ (codes "' class='feature " ++ (class ++ codes "' d='")))))

-- the element, with its path
abbrev pub element : View → List ℕ → ℕ × FeatureContent → List ℕ
element view name entry = element_head name entry.0 (class_of (kind_of entry.1.geometry)) ++ path_of view entry.1.geometry ++ codes "'/>\n"
