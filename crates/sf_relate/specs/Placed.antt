-- Internal: who wants to trust the program need not read this file.
-- What is known of the matrix of a Point, by its place in the other geometry.
use Rattle.std.specs.Prelude.{[], ◌∷◌, false, slice_set}
use Rattle.sf_grid.specs.Plane.{Coordinates, grid_point}
use Rattle.sf_geometry.specs.declared.geometry.Geometry.{Geometry}
use Rattle.sf_geometry.specs.declared.geometry.Geometry.TheVariants.{Point}
use Rattle.sf_plane.specs.declared.dim.Dim.TheVariants.{Nothing, Zero, Two}
use Rattle.sf_valid_rules.specs.Validity.{IsValid}
use Rattle.sf_known.specs.declared.known.Known.{Known}
use Rattle.sf_known.specs.Known.{Holds, no_entries}
use Rattle.sf_relate.specs.declared.place.Place.{Place}
use Rattle.sf_relate.specs.Matrices.{matrix_of}
use Rattle.sf_relate.specs.Places.{IsPlaceOf, row_of}

-- of the Point's interior and boundary the place is filled by it alone
abbrev pub known_of_place : Place → Known
known_of_place place =
    record {
      least = slice_set no_entries (row_of place) Zero;
      most = slice_set (Nothing ∷ Nothing ∷ Nothing ∷ Nothing ∷ Nothing ∷ Nothing ∷ Two ∷ Two ∷ Two ∷ []) (row_of place) Zero;
      contact = false;
    }

-- that holds of a valid Point with the place in a valid geometry
abbrev pub PlacesAreKnown : Type 0
PlacesAreKnown =
    (p : Coordinates) (b : Geometry) (place : Place) → IsValid (Point p) → IsValid b → IsPlaceOf b (grid_point p) place → Holds (known_of_place place) (matrix_of (Point p) b)
