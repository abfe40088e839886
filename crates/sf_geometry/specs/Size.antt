-- How large a geometry may be: no list is empty, and its points are at most 65,536.
use Rattle.std.specs.Prelude.{ℕ, ◌≤◌, Bool, false, ◌||◌, ◌==◌, List, Option, Some, None, length, nat_le, if◌then◌else◌, IsFalse}
use Rattle.std.specs.List.{list_any}
use Rattle.sf_geometry.specs.declared.geometry.Geometry.{Geometry}
use Rattle.sf_geometry.specs.declared.geometry.Geometry.TheVariants.{Point, LineString, Polygon, MultiPoint, MultiLineString, MultiPolygon}
use Rattle.sf_geometry.specs.declared.refusal.Refusal.{Refusal}
use Rattle.sf_geometry.specs.declared.refusal.Refusal.TheVariants.{Empty, TooManyVertices}
use Rattle.sf_geometry.specs.Parts.{points_of}

-- how many points a geometry has at most, repeats and closing points counted
abbrev pub points_max : ℕ
points_max = 65536

abbrev pub is_empty : {X : Type 0} → List X → Bool
is_empty xs = length xs == 0

-- the list, or a list in it, is empty
abbrev pub has_empty : {X : Type 0} → List (List X) → Bool
has_empty xss = is_empty xss || list_any is_empty xss

-- a list of the geometry is empty
abbrev pub has_empty_list : Geometry → Bool
has_empty_list (Point p) = false
has_empty_list (LineString ps) = is_empty ps
has_empty_list (Polygon rings) = has_empty rings
has_empty_list (MultiPoint ps) = is_empty ps
has_empty_list (MultiLineString lines) = has_empty lines
has_empty_list (MultiPolygon polygons) = is_empty polygons || list_any has_empty polygons

-- how many points it has
abbrev pub point_count : Geometry → ℕ
point_count geometry = length (points_of geometry)

-- it is sized: no list is empty, and its points aren't too many
pub record IsSized (geometry : Geometry) : Type 0 where
  pub filled : IsFalse (has_empty_list geometry)
  pub few : point_count geometry ≤ points_max

-- why it isn't sized
abbrev pub size_fault : Geometry → Option Refusal
size_fault geometry =
    if has_empty_list geometry then Some Empty
    else (if nat_le (point_count geometry) points_max then None else Some TooManyVertices)
