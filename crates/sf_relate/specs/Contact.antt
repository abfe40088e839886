-- Internal: who wants to trust the program need not read this file.
-- When two geometries share a point: what is known of their matrix without one.
use Rattle.std.specs.Prelude.{◌≡◌, ◌↔◌, Bool, false, ◌||◌, not, List, [], ◌∷◌, map, IsTrue, IsFalse, Option, Some, None}
use Rattle.sf_grid.specs.Plane.{Coordinates, IsPoint, Point as PlanePoint, grid_point}
use Rattle.sf_geometry.specs.declared.geometry.Geometry.{Geometry}
use Rattle.sf_geometry.specs.declared.geometry.Geometry.TheVariants.{Point}
use Rattle.sf_geometry.specs.declared.extent.Extent.{Extent}
use Rattle.sf_geometry.specs.Envelope.{envelope_of, extents_meet}
use Rattle.sf_geometry.specs.Parts.{HasClosedRings}
use Rattle.sf_geometry.specs.PointSets.{in_boundary, in_exterior, in_interior}
use Rattle.sf_geometry.specs.Vertices.{vertex_of}
use Rattle.sf_plane.specs.declared.dim.Dim.{Dim}
use Rattle.sf_plane.specs.Boxes.{in_box}
use Rattle.sf_valid_rules.specs.Validity.{IsValid}
use Rattle.sf_validity.specs.Beside.{box_of_extent}
use Rattle.sf_known.specs.declared.predicate.Predicate.TheVariants.{Disjoint, Intersects}
use Rattle.sf_relate.specs.Matrices.{matrix_of}
use Rattle.sf_known.specs.Patterns.{has_contact, is_filled}
use Rattle.sf_known.specs.Predicates.{holds}

-- q is in the interior or the boundary
abbrev pub is_in : Geometry → PlanePoint → Bool
is_in a q = in_interior a q || in_boundary a q

-- a point that both have
pub record SharePoint (a b : Geometry) : Type 0 where
  pub q : PlanePoint
  pub is_point : IsPoint q
  pub in_first : IsTrue (is_in a q)
  pub in_second : IsTrue (is_in b q)

-- contact is a shared point; intersects is contact, disjoint is none
pub record ContactIsShared (a b : Geometry) : Type 0 where
  pub shared : IsTrue (has_contact (matrix_of a b)) ↔ SharePoint a b
  pub intersects : (d e : Dim) → holds Intersects d e (matrix_of a b) ≡ has_contact (matrix_of a b)
  pub disjoint : (d e : Dim) → holds Disjoint d e (matrix_of a b) ≡ not (has_contact (matrix_of a b))

-- the point is in an envelope, as a box of the plane
abbrev pub in_extent : Extent → PlanePoint → Bool
in_extent e q = in_box (box_of_extent e) q

-- what is in a geometry with closed rings is in its envelope
abbrev pub LiesInBox : Type 0
LiesInBox =
    (a : Geometry) (q : PlanePoint) → HasClosedRings a → IsPoint q → IsTrue (is_in a q) → IsTrue (in_extent (envelope_of a) q)

-- so where two envelopes share no point there is no contact
abbrev pub ApartHasNoContact : Type 0
ApartHasNoContact =
    (a b : Geometry) → HasClosedRings a → HasClosedRings b → IsFalse (extents_meet (envelope_of a) (envelope_of b)) → IsFalse (has_contact (matrix_of a b))

-- a Point has contact just where it is in the other geometry
abbrev pub PointHasContact : Type 0
PointHasContact = (p : Coordinates) (b : Geometry) → has_contact (matrix_of (Point p) b) ≡ is_in b (grid_point p)

-- of nine entries the first two rows, those of the interior and the boundary of the first geometry
abbrev pub own_rows : {X : Type 0} → List X → List X
own_rows (ii ∷ ib ∷ ie ∷ bi ∷ bb ∷ be ∷ rest) = ii ∷ ib ∷ ie ∷ bi ∷ bb ∷ be ∷ []
own_rows xs = []

-- of a Point these rows are filled at the one place that the Point has in the other geometry
abbrev pub PointFillsItsPlace : Type 0
PointFillsItsPlace =
    (p : Coordinates) (b : Geometry) → map is_filled (own_rows (matrix_of (Point p) b))
    ≡ in_interior b (grid_point p) ∷ in_boundary b (grid_point p) ∷ in_exterior b (grid_point p) ∷ false ∷ false ∷ false ∷ []

-- there is such a point, and b has it
abbrev pub has_point : Geometry → Option Coordinates → Bool
has_point b None = false
has_point b (Some p) = is_in b (grid_point p)

-- b has the first point of a
abbrev pub has_first_point_in : Geometry → Geometry → Bool
has_first_point_in a b = has_point b (vertex_of a 0 0 0)

-- a valid geometry has its own first point
abbrev pub FirstPointIsIn : Type 0
FirstPointIsIn = (a : Geometry) (p : Coordinates) → IsValid a → vertex_of a 0 0 0 ≡ Some p → IsTrue (is_in a (grid_point p))
