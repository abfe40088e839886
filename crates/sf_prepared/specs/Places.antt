-- Internal: who wants to trust the program need not read this file.
-- Where all points of a box lie in a valid geometry of which no edge has a point of the box.
use Rattle.std.specs.Prelude.{◌≡◌, ℤ, pos, int_lt, List, IsTrue}
use Rattle.std.specs.List.{AllByRecursion}
use Rattle.sf_grid.specs.Edge.{Edge as Line, cross}
use Rattle.sf_grid.specs.Plane.{Coordinates, IsPoint, Point as PlanePoint, grid_point}
use Rattle.sf_geometry.specs.declared.extent.Extent.{Extent}
use Rattle.sf_geometry.specs.declared.geometry.Geometry.{Geometry}
use Rattle.sf_geometry.specs.Envelope.{envelope_of}
use Rattle.sf_geometry.specs.Parts.{edges_of}
use Rattle.sf_interiors.specs.Paths.{IsOffBox}
use Rattle.sf_valid_rules.specs.Validity.{IsValid}
use Rattle.sf_validity.specs.Beside.{box_of_extent}
use Rattle.sf_relate.specs.Contact.{is_in}
use Rattle.sf_relate.specs.declared.place.Place.TheVariants.{Exterior, Interior}
use Rattle.sf_relate.specs.declared.shape.Shape.TheVariants.{Areas, Lines}
use Rattle.sf_relate.specs.Places.{IsPlaceOf, shape_of}
use Rattle.sf_relate.specs.ByKinds.{IsWithin, ShareNone}

-- no edge has a point of the box
abbrev pub AreClear : Extent → List Line → Type 0
AreClear extent es = AllByRecursion (IsOffBox (box_of_extent extent)) es

-- the place is to the left of the way from a to b
abbrev pub IsLeft : Coordinates → Coordinates → ℤ → ℤ → Type 0
IsLeft a b x y = IsTrue (int_lt (pos 0) (cross a b (grid_point (record { x = x; y = y }))))

-- all corners of the box are
abbrev pub IsBoxLeft : Coordinates → Coordinates → Extent → Type 0
IsBoxLeft a b extent =
    (IsLeft a b extent.min_x extent.min_y × IsLeft a b extent.min_x extent.max_y)
    × (IsLeft a b extent.max_x extent.min_y × IsLeft a b extent.max_x extent.max_y)

-- of an area no edge of which has a point of a geometry's box: with one point of the geometry all of it is in the interior
abbrev pub WithinByPoint : Type 0
WithinByPoint =
    (a b : Geometry) (p : PlanePoint) → IsValid a → IsValid b → shape_of b ≡ Areas → AreClear (envelope_of a) (edges_of b)
    → IsPoint p → IsTrue (is_in a p) → IsPlaceOf b p Interior → IsWithin a b

-- or in the exterior
abbrev pub ApartByPoint : Type 0
ApartByPoint =
    (a b : Geometry) (p : PlanePoint) → IsValid a → IsValid b → shape_of b ≡ Areas → AreClear (envelope_of a) (edges_of b)
    → IsPoint p → IsTrue (is_in a p) → IsPlaceOf b p Exterior → ShareNone a b

-- lines that have no point of the box share none with what lies in it
abbrev pub ApartFromLines : Type 0
ApartFromLines = (a b : Geometry) → IsValid a → IsValid b → shape_of b ≡ Lines → AreClear (envelope_of a) (edges_of b) → ShareNone a b
