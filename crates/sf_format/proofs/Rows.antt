-- Binary geometries of stored features can be written and read.
use Rattle.std.proofs.Common.{◌≡◌, ◌≤◌, List, [], ◌∷◌, None, Ok, length, arith}
use Rattle.std.specs.List.{AllByRecursion}
use Rattle.std.specs.Map.{values_of}
use Rattle.sf_geometry.specs.declared.geometry.Geometry.{Geometry}
use Rattle.sf_valid_rules.specs.Verdicts.{first_fault}
use Rattle.sf_valid_rules.specs.Validity.{IsValid}
use Rattle.sf_valid_rules.proofs.FirstLaws.{first_fault-over_plane}
use Rattle.sf_valid_rules.proofs.VerdictLaws.{verdict-one}
use Rattle.sf_geometry.specs.Parts.{points_of}
use Rattle.sf_wkb.specs.declared.grid.Grid.{Grid}
use Rattle.sf_wkb.specs.declared.grid.Grid.TheVariants.{Bits31}
use Rattle.sf_wkb.specs.Words.{IsIn}
use Rattle.sf_wkb.specs.Grammar.{read_in, canonical as canonical_wkb}
use Rattle.sf_wkb.proofs.Lengths.{canonical_bytes_are_few}
use Rattle.sf_wkb.proofs.RoundTrip.{on_wide, round_trip_in}
use Rattle.sf_layers.specs.Content.{Content, LayerContent}
use Rattle.sf_layers.specs.WellFormed.{IsFeature, IsLayer, IsWellFormed}
use Rattle.sf_format.specs.Format.{RowReading, row_max}
use Rattle.sf_format.specs.Laws.{AreIn}

-- the canonical bytes of a geometry may stand in a file and are read as it, and it has no fault
pub record IsRow (row : RowReading) (g : Geometry) : Type 0 where
  pub read : row (canonical_wkb g) ≡ Ok g
  pub valid : first_fault g ≡ None
  pub short : length (canonical_wkb g) ≤ row_max

-- a valid geometry whose points are on a grid can be written and read on it
row-in : (grid : Grid) (g : Geometry) → IsValid g → AllByRecursion (IsIn grid) (points_of g) → IsRow (read_in grid) g
row-in grid g valid on =
    let few = canonical_bytes_are_few g valid.sized in
    record {
      read = round_trip_in grid g valid.sized on;
      valid = verdict-one g (first_fault g) None (first_fault-over_plane g valid.sized) valid;
      short = omega (arith, few);
    }

-- the geometries of a layer's features can be written and read
abbrev pub HasRows : RowReading → LayerContent → Type 0
HasRows row l = AllByRecursion (λ f. IsRow row f.geometry) (values_of l.features)

all_two : {X : Type 0} (P Q R : X → Type 0) → ((x : X) → P x → Q x → R x) → (xs : List X) → AllByRecursion P xs → AllByRecursion Q xs → AllByRecursion R xs
all_two P Q R so [] first second = tt
all_two P Q R so (x ∷ xs) first second = (so x first.0 second.0, all_two P Q R so xs first.1 second.1)

-- those of a well-formed content can
pub wide-rows : (content : Content) → IsWellFormed content → AllByRecursion (HasRows (read_in Bits31)) (values_of content)
wide-rows content is =
    all_two IsLayer IsLayer (HasRows (read_in Bits31))
    (λ l fits same. all_two (IsFeature l.kind l.columns) (IsFeature l.kind l.columns) (λ f. IsRow (read_in Bits31) f.geometry)
    (λ f good same. row-in Bits31 f.geometry good.valid (on_wide (points_of f.geometry) good.on_grid)) (values_of l.features) fits.features fits.features)
    (values_of content) is.layers is.layers

-- on one of the grids those of a content whose points are on it can
pub narrow-rows : (grid : Grid) (content : Content) → IsWellFormed content → AreIn grid content → AllByRecursion (HasRows (read_in grid)) (values_of content)
narrow-rows grid content is narrow =
    all_two IsLayer (λ l. AllByRecursion (λ f. AllByRecursion (IsIn grid) (points_of f.geometry)) (values_of l.features)) (HasRows (read_in grid))
    (λ l fits few. all_two (IsFeature l.kind l.columns) (λ f. AllByRecursion (IsIn grid) (points_of f.geometry)) (λ f. IsRow (read_in grid) f.geometry)
    (λ f good on. row-in grid f.geometry good.valid on) (values_of l.features) fits.features few)
    (values_of content) is.layers narrow
