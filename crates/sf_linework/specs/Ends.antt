-- Internal: who wants to trust the program need not read this file.
-- What the ends of lines show of a matrix: they are all that the boundary of lines has, so its row is known by their places.
use Rattle.std.specs.Prelude.{◌≡◌, Bool, true, false, IsTrue, List, [], ◌∷◌, ◌&&◌, ◌||◌, if◌then◌else◌}
use Rattle.std.specs.List.{list_any}
use Rattle.sf_grid.specs.Plane.{Coordinates, grid_point}
use Rattle.sf_geometry.specs.declared.geometry.Geometry.{Geometry}
use Rattle.sf_geometry.specs.declared.geometry.Geometry.TheVariants.{LineString, MultiLineString}
use Rattle.sf_geometry.specs.Parts.{ends_of}
use Rattle.sf_geometry.specs.PointSets.{in_boundary, in_exterior, in_interior}
use Rattle.sf_known.specs.declared.known.Known.{Known}
use Rattle.sf_known.specs.Known.{Holds, known_by_both, nothing_known}
use Rattle.sf_known.specs.Transposed.{known_transposed}
use Rattle.sf_plane.specs.declared.dim.Dim.{Dim}
use Rattle.sf_plane.specs.declared.dim.Dim.TheVariants.{Nothing, Two, Zero}
use Rattle.sf_relate.specs.declared.place.Place.{Place}
use Rattle.sf_relate.specs.declared.place.Place.TheVariants.{Boundary, Exterior, Interior}
use Rattle.sf_relate.specs.Matrices.{both, matrix_of}
use Rattle.sf_relate.specs.Places.{is_place}
use Rattle.sf_valid_rules.specs.Validity.{IsValid}
use Rattle.sf_linework.specs.declared.ends.Seen.{Seen}

-- ---- what is known
-- a LineString or a MultiLineString
abbrev pub is_lines : Geometry → Bool
is_lines (LineString points) = true
is_lines (MultiLineString lines) = true
is_lines geometry = false

-- of a matrix the row of the first geometry's boundary, and nothing else
abbrev pub boundary_row : List Dim → Known
boundary_row (ii ∷ ib ∷ ie ∷ bi ∷ bb ∷ be ∷ rest) =
    record {
      least = Nothing ∷ Nothing ∷ Nothing ∷ bi ∷ bb ∷ be ∷ Nothing ∷ Nothing ∷ Nothing ∷ [];
      most = Two ∷ Two ∷ Two ∷ bi ∷ bb ∷ be ∷ Two ∷ Two ∷ Two ∷ [];
      contact = false;
    }
boundary_row entries = nothing_known

-- what the ends of the first geometry show, where it is of lines
abbrev pub known_by_own_ends : Geometry → Geometry → Known
known_by_own_ends a b = if is_lines a then boundary_row (matrix_of a b) else nothing_known

-- what the ends of lines show of the matrix of two geometries: of each of the two that is of lines all that its boundary has
abbrev pub known_by_ends : Geometry → Geometry → Known
known_by_ends a b =
    known_by_both (known_by_own_ends a b) (if is_lines b then known_transposed (boundary_row (matrix_of b a)) else nothing_known)

-- ---- in which places of another geometry ends were seen
abbrev pub none_seen : Seen
none_seen = record { interior = false; boundary = false; exterior = false }

abbrev pub seen_at : Place → Seen
seen_at p = record { interior = is_place Interior p; boundary = is_place Boundary p; exterior = is_place Exterior p }

abbrev pub seen_or : Seen → Seen → Seen
seen_or s t =
    record { interior = s.interior || t.interior; boundary = s.boundary || t.boundary; exterior = s.exterior || t.exterior }

-- in all
abbrev pub is_all : Seen → Bool
is_all s = s.interior && s.boundary && s.exterior

-- the points that are of the boundary of lines
abbrev pub seen_ends : Geometry → Geometry → List Coordinates → Seen
seen_ends lines other ps =
    record {
      interior = list_any (λ p. both (in_boundary lines) (in_interior other) (grid_point p)) ps;
      boundary = list_any (λ p. both (in_boundary lines) (in_boundary other) (grid_point p)) ps;
      exterior = list_any (λ p. both (in_boundary lines) (in_exterior other) (grid_point p)) ps;
    }

-- the dimension of ends, if there are some
abbrev pub if_seen : Bool → Dim
if_seen seen = if seen then Zero else Nothing

-- what is known of the row of a boundary that has a point just in these places, and no length
abbrev pub known_of_seen : Seen → Known
known_of_seen s =
    record {
      least = Nothing ∷ Nothing ∷ Nothing ∷ if_seen s.interior ∷ if_seen s.boundary ∷ if_seen s.exterior ∷ Nothing ∷ Nothing ∷ Nothing ∷ [];
      most = Two ∷ Two ∷ Two ∷ if_seen s.interior ∷ if_seen s.boundary ∷ if_seen s.exterior ∷ Two ∷ Two ∷ Two ∷ [];
      contact = false;
    }

-- ---- the law
-- the ends of valid lines tell the row of their boundary, and what they tell of two geometries holds
pub record EndsTell (a b : Geometry) : Type 0 where
  pub row : IsTrue (is_lines a) → known_of_seen (seen_ends a b (ends_of a)) ≡ boundary_row (matrix_of a b)
  pub holds : Holds (known_by_ends a b) (matrix_of a b)

abbrev pub EndsAreKnown : Type 0
EndsAreKnown = (a b : Geometry) → IsValid a → IsValid b → EndsTell a b
