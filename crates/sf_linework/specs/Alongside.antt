-- Internal: who wants to trust the program need not read this file.
-- What edges that run along one another show of the matrix of two lines, or of a line and an area, and what it shows that none do.
use Rattle.std.specs.Prelude.{◌≡◌, ◌↔◌, Bool, IsTrue, Option, None, Some, false, replicate, slice_set, ℕ, if◌then◌else◌}
use Rattle.sf_along.specs.Along.{RunAlong}
use Rattle.sf_geometry.specs.declared.geometry.Geometry.{Geometry}
use Rattle.sf_known.specs.declared.known.Known.{Known}
use Rattle.sf_known.specs.Known.{Holds, at_most, no_entries, nothing_known}
use Rattle.sf_plane.specs.declared.dim.Dim.TheVariants.{One, Two, Zero}
use Rattle.sf_relate.specs.declared.shape.Shape.{Shape}
use Rattle.sf_relate.specs.declared.shape.Shape.TheVariants.{Areas, Lines}
use Rattle.sf_relate.specs.Matrices.{matrix_of}
use Rattle.sf_relate.specs.Places.{shape_of}
use Rattle.sf_valid_rules.specs.Validity.{IsValid}

-- whether an entry has a length is decided
abbrev pub known_of_length : ℕ → Bool → Known
known_of_length entry along =
    if along then record { least = slice_set no_entries entry One; most = replicate 9 Two; contact = false }
    else at_most (slice_set (replicate 9 Two) entry Zero)

-- of two lines it is that of the interiors, of a line and an area that of the line's interior and the area's boundary
abbrev pub entry_alongside : Shape → Shape → Option ℕ
entry_alongside Lines Lines = Some 0
entry_alongside Lines Areas = Some 1
entry_alongside Areas Lines = Some 3
entry_alongside _ _ = None

-- what is so known of the matrix
abbrev pub known_alongside : Shape → Shape → Bool → Known
known_alongside Lines Lines along = known_of_length 0 along
known_alongside Lines Areas along = known_of_length 1 along
known_alongside Areas Lines along = known_of_length 3 along
known_alongside _ _ along = nothing_known

-- that holds of valid geometries
abbrev pub AlongsideIsKnown : Type 0
AlongsideIsKnown =
    (a b : Geometry) (along : Bool) → IsValid a → IsValid b → (IsTrue along ↔ RunAlong a b)
    → Holds (known_alongside (shape_of a) (shape_of b) along) (matrix_of a b)

-- what is known is that, by whether edges run along one another
pub record IsKnownAlong (a b : Geometry) (known : Known) : Type 0 where
  pub along : Bool
  pub told : IsTrue along ↔ RunAlong a b
  pub same : known ≡ known_alongside (shape_of a) (shape_of b) along
