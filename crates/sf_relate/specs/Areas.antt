-- Internal: who wants to trust the program need not read this file.
-- The matrix of two areas, told before all their cells were handed out, or with no cells at all: once each entry has the most
-- that areas allow, but that of the two boundaries, of which it is known that they share a point.
use Rattle.std.specs.Prelude.{◌≡◌, Bool, false, true, List, [], ◌∷◌, slice_set, if◌then◌else◌}
use Rattle.sf_crossing.specs.Crossing.{HaveCrossing}
use Rattle.sf_geometry.specs.declared.geometry.Geometry.{Geometry}
use Rattle.sf_geometry.specs.Parts.{edges_of}
use Rattle.sf_known.specs.declared.known.Known.{Known}
use Rattle.sf_plane.specs.declared.dim.Dim.{Dim}
use Rattle.sf_plane.specs.declared.dim.Dim.TheVariants as dims
use Rattle.sf_relate.specs.declared.shape.Shape.TheVariants.{Areas}
use Rattle.sf_relate.specs.Matrices.{matrix_of}
use Rattle.sf_relate.specs.Places.{shape_of}
use Rattle.sf_valid_rules.specs.Validity.{IsValid}

-- the most that each entry can have of two areas; that of the boundaries by whether these share a piece
abbrev pub overlapping_entries : Bool → List Dim
overlapping_entries along =
    dims.Two ∷ dims.One ∷ dims.Two
    ∷ dims.One ∷ (if along then dims.One else dims.Zero) ∷ dims.One
    ∷ dims.Two ∷ dims.One ∷ dims.Two ∷ []

-- what is known of areas that overlap: all but whether their boundaries share a piece
abbrev pub known_overlapping : Known
known_overlapping = record { least = overlapping_entries false; most = overlapping_entries true; contact = false }

-- these entries, with that of the boundaries by whether they share a piece
abbrev pub with_boundaries : List Dim → Bool → List Dim
with_boundaries entries along = slice_set entries 4 (if along then dims.One else dims.Zero)

-- the matrix has these entries
pub record Overlap (a b : Geometry) : Type 0 where
  pub along : Bool
  pub matrix : matrix_of a b ≡ overlapping_entries along

-- valid areas overlap of which edges cross at a point that no other edge of the two has
abbrev pub CrossingAreasOverlap : Type 0
CrossingAreasOverlap =
    (a b : Geometry) → IsValid a → IsValid b → shape_of a ≡ Areas → shape_of b ≡ Areas → HaveCrossing (edges_of a) (edges_of b) → Overlap a b
