-- Internal: who wants to trust the program need not read this file.
-- What it shows of the matrix of two lines, or of a line and an area, that each edge of one lies in an edge of the other, and where
-- edges of one end in the other.
use Rattle.std.specs.Prelude.{◌≡◌, ◌⊎◌, ◌∷◌, [], Bool, true, false, IsTrue, List, if◌then◌else◌}
use Rattle.std.specs.List.{list_any}
use Rattle.sf_along.specs.Covers.{IsEnd, LieAlong}
use Rattle.sf_geometry.specs.declared.geometry.Geometry.{Geometry}
use Rattle.sf_geometry.specs.PointSets.{in_boundary, in_exterior, in_interior}
use Rattle.sf_grid.specs.Plane.{Coordinates, grid_point}
use Rattle.sf_known.specs.declared.known.Known.{Known}
use Rattle.sf_known.specs.Known.{Holds, nothing_known}
use Rattle.sf_plane.specs.declared.dim.Dim.{Dim}
use Rattle.sf_plane.specs.declared.dim.Dim.TheVariants.{Nothing, One, Two}
use Rattle.sf_relate.specs.declared.shape.Shape.{Shape}
use Rattle.sf_relate.specs.declared.shape.Shape.TheVariants.{Areas, Lines}
use Rattle.sf_relate.specs.Matrices.{matrix_of}
use Rattle.sf_relate.specs.Places.{shape_of}
use Rattle.sf_valid_rules.specs.Validity.{IsValid}
use Rattle.sf_linework.specs.declared.ends.Seen.{Seen}

-- two lines, or a line and an area
abbrev pub have_cover : Shape → Shape → Bool
have_cover Lines Lines = true
have_cover Lines Areas = true
have_cover Areas Lines = true
have_cover _ _ = false

-- ---- each edge of the first one lies in an edge of the second
abbrev pub bounds : List Dim → List Dim → Known
bounds least most = record { least = least; most = most; contact = false }

abbrev pub known_of_covered : Shape → Shape → Known
-- nothing of the first line is off the second one, and a length of its interior is in that one's
known_of_covered Lines Lines =
    bounds (One ∷ Nothing ∷ Nothing ∷ Nothing ∷ Nothing ∷ Nothing ∷ Nothing ∷ Nothing ∷ Nothing ∷ [])
    (Two ∷ Two ∷ Nothing ∷ Two ∷ Two ∷ Nothing ∷ Two ∷ Two ∷ Two ∷ [])
-- all of the line is in the area's border
known_of_covered Lines Areas =
    bounds (Nothing ∷ One ∷ Nothing ∷ Nothing ∷ Nothing ∷ Nothing ∷ Nothing ∷ Nothing ∷ Nothing ∷ [])
    (Nothing ∷ Two ∷ Nothing ∷ Nothing ∷ Two ∷ Nothing ∷ Two ∷ Two ∷ Two ∷ [])
-- nothing of the border is off the line
known_of_covered Areas Lines =
    bounds (Nothing ∷ Nothing ∷ Nothing ∷ Nothing ∷ Nothing ∷ Nothing ∷ Nothing ∷ Nothing ∷ Nothing ∷ [])
    (Two ∷ Two ∷ Two ∷ Two ∷ Two ∷ Nothing ∷ Two ∷ Two ∷ Two ∷ [])
known_of_covered _ _ = nothing_known

-- ---- where edges of the first one end
pub record HasEndOff (a b : Geometry) : Type 0 where
  pub point : Coordinates
  pub end : IsEnd a point
  pub off : IsTrue (in_exterior b (grid_point point))

pub record HasEndIn (a b : Geometry) : Type 0 where
  pub point : Coordinates
  pub end : IsEnd a point
  pub inside : IsTrue (in_interior b (grid_point point))

-- in these places of the second one an edge of the first ends
pub record EndsAreSeen (a b : Geometry) (s : Seen) : Type 0 where
  pub interior : IsTrue s.interior → HasEndIn a b
  pub exterior : IsTrue s.exterior → HasEndOff a b

-- in which places of a geometry edges start
abbrev pub seen_starts : Geometry → List (Coordinates × Coordinates) → Seen
seen_starts other es =
    record {
      interior = list_any (λ e. in_interior other (grid_point e.0)) es;
      boundary = list_any (λ e. in_boundary other (grid_point e.0)) es;
      exterior = list_any (λ e. in_exterior other (grid_point e.0)) es;
    }

-- a length, if an end was seen
abbrev pub if_long : Bool → Dim
if_long seen = if seen then One else Nothing

-- beside such an end, a length of the first one is off the other lines, or in the area or outside of it
abbrev pub known_of_ends_at : Shape → Shape → Seen → Known
known_of_ends_at Lines Lines s =
    bounds (Nothing ∷ Nothing ∷ if_long s.exterior ∷ Nothing ∷ Nothing ∷ Nothing ∷ Nothing ∷ Nothing ∷ Nothing ∷ [])
    (Two ∷ Two ∷ Two ∷ Two ∷ Two ∷ Two ∷ Two ∷ Two ∷ Two ∷ [])
known_of_ends_at Lines Areas s =
    bounds (if_long s.interior ∷ Nothing ∷ if_long s.exterior ∷ Nothing ∷ Nothing ∷ Nothing ∷ Nothing ∷ Nothing ∷ Nothing ∷ [])
    (Two ∷ Two ∷ Two ∷ Two ∷ Two ∷ Two ∷ Two ∷ Two ∷ Two ∷ [])
known_of_ends_at Areas Lines s =
    bounds (Nothing ∷ Nothing ∷ Nothing ∷ Nothing ∷ Nothing ∷ if_long s.exterior ∷ Nothing ∷ Nothing ∷ Nothing ∷ [])
    (Two ∷ Two ∷ Two ∷ Two ∷ Two ∷ Two ∷ Two ∷ Two ∷ Two ∷ [])
known_of_ends_at _ _ s = nothing_known

-- ---- what is known is one of the two
abbrev pub IsKnownByCover : Geometry → Geometry → Known → Type 0
IsKnownByCover a b known =
    ((known ≡ known_of_covered (shape_of a) (shape_of b)) × LieAlong a b)
    ⊎ ((s : Seen) × (known ≡ known_of_ends_at (shape_of a) (shape_of b) s) × EndsAreSeen a b s)

-- ---- the laws, of valid geometries
pub record CoverShows (a b : Geometry) : Type 0 where
  pub whole : LieAlong a b → Holds (known_of_covered (shape_of a) (shape_of b)) (matrix_of a b)
  pub ends : (s : Seen) → EndsAreSeen a b s → Holds (known_of_ends_at (shape_of a) (shape_of b) s) (matrix_of a b)

abbrev pub CoverIsKnown : Type 0
CoverIsKnown = (a b : Geometry) → IsValid a → IsValid b → CoverShows a b
