-- Internal: who wants to trust the program need not read this file.
-- What a geometry leaves of a wider one: points a length of lines, and lines the width of an area; and an area beside both.
use Rattle.std.specs.Prelude.{Bool, true, false, Option, None, Some, slice_set, ℕ}
use Rattle.sf_known.specs.declared.known.Known.{Known}
use Rattle.sf_known.specs.Known.{no_entries, nothing_known}
use Rattle.sf_plane.specs.declared.dim.Dim.{Dim}
use Rattle.sf_plane.specs.declared.dim.Dim.TheVariants.{One, Two}
use Rattle.sf_relate.specs.declared.shape.Shape.{Shape}
use Rattle.sf_relate.specs.declared.shape.Shape.TheVariants.{Areas, Lines, Points}

-- one of the two is lines
abbrev pub has_lines : Shape → Shape → Bool
has_lines Lines _ = true
has_lines _ Lines = true
has_lines _ _ = false

-- the entry of the interior of the wider one and the exterior of the other, and what is left of it; of two lines no more is said
-- than what the exteriors share
abbrev pub entry_beside : Shape → Shape → Option (ℕ × Dim)
entry_beside Points Lines = Some (6, One)
entry_beside Lines Points = Some (2, One)
entry_beside Lines Areas = Some (6, Two)
entry_beside Areas Lines = Some (2, Two)
entry_beside Lines Lines = Some (8, Two)
entry_beside _ _ = None

-- an entry has at least this, and that of the exteriors an area
abbrev pub known_of_rest : ℕ → Dim → Known
known_of_rest entry rest = record nothing_known { least = slice_set (slice_set no_entries entry rest) 8 Two }

-- what is so known of the matrix
abbrev pub known_beside : Shape → Shape → Known
known_beside Points Lines = known_of_rest 6 One
known_beside Lines Points = known_of_rest 2 One
known_beside Lines Areas = known_of_rest 6 Two
known_beside Areas Lines = known_of_rest 2 Two
known_beside Lines Lines = known_of_rest 8 Two
known_beside _ _ = nothing_known
