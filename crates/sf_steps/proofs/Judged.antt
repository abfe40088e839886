-- What the checks of a geometry tell of it over the plane.
use Rattle.std.proofs.Common.{◌≡◌, ◌++◌, Bool, true, false, List, [], ◌∷◌, None, Some, nat_le, arith, refl, subst}
use borrow.Author.Tests.{leb-true}
use Rattle.std.specs.List.{AllByRecursion}
use Rattle.sf_geometry.specs.declared.geometry.Geometry.{Geometry}
use Rattle.sf_geometry.specs.declared.geometry.Geometry.TheVariants.{Point, LineString, Polygon, MultiPoint, MultiLineString, MultiPolygon}
use Rattle.sf_geometry.specs.Parts.{joined}
use Rattle.sf_geometry.specs.Size.{IsSized, has_empty_list, point_count, points_max, size_fault}
use Rattle.sf_geometry.proofs.BackLaws.{HasRings, IsRing}
use Rattle.sf_valid_rules.specs.declared.fault.Fault.{Fault}
use Rattle.sf_valid_rules.specs.Validity.{IsFirstFault, IsValid, IsVerdict}
use Rattle.sf_valid_rules.specs.Verdicts.{first_fault}
use Rattle.sf_valid_rules.proofs.FirstLaws.{first_fault-over_plane}
use Rattle.sf_valid_rules.proofs.VerdictLaws.{verdict-one}
use Rattle.sf_validity.proofs.ValidLaws.{valid-rings}
use Rattle.sf_steps.proofs.VerticesBack.{HasWholeRings}

-- a geometry without a fault of its size is sized
pub sized : (geometry : Geometry) → size_fault geometry ≡ None → IsSized geometry
sized geometry h = by_empty (has_empty_list geometry) refl
  where
    by_few : (t : Bool) → has_empty_list geometry ≡ false → nat_le (point_count geometry) points_max ≡ t → IsSized geometry
    by_few true filled few = record { filled = filled; few = leb-true (point_count geometry) points_max few }
    by_few false filled few = absurd (grind (arith, filled, few, h))

    by_empty : (t : Bool) → has_empty_list geometry ≡ t → IsSized geometry
    by_empty true empty = absurd (grind (arith, empty, h))
    by_empty false filled = by_few (nat_le (point_count geometry) points_max) filled refl

-- and one that is sized is valid just where nothing is found
pub valid : (geometry : Geometry) → IsSized geometry → first_fault geometry ≡ None → IsValid geometry
valid geometry is_sized none = subst (IsVerdict geometry) none (first_fault-over_plane geometry is_sized)

pub no_fault : (geometry : Geometry) → IsValid geometry → first_fault geometry ≡ None
no_fault geometry is_valid = verdict-one geometry (first_fault geometry) None (first_fault-over_plane geometry is_valid.sized) is_valid

pub its_fault : (geometry : Geometry) (fault : Fault) → IsSized geometry → IsFirstFault geometry fault → first_fault geometry ≡ Some fault
its_fault geometry fault is_sized first = verdict-one geometry (first_fault geometry) (Some fault) (first_fault-over_plane geometry is_sized) first

pub is_first : (geometry : Geometry) (fault : Fault) → IsSized geometry → first_fault geometry ≡ Some fault → IsFirstFault geometry fault
is_first geometry fault is_sized found = subst (IsVerdict geometry) found (first_fault-over_plane geometry is_sized)

-- a sized geometry has no fault of its size
pub no_size_fault : (geometry : Geometry) → IsSized geometry → size_fault geometry ≡ None
no_size_fault geometry is = grind (arith, is.filled, is.few)

-- ---- its rings

all-left : {X : Type 0} (P : X → Type 0) (xs ys : List X) → AllByRecursion P (xs ++ ys) → AllByRecursion P xs
all-left P [] ys all = tt
all-left P (x ∷ xs) ys all = (all.0, all-left P xs ys all.1)

all-right : {X : Type 0} (P : X → Type 0) (xs ys : List X) → AllByRecursion P (xs ++ ys) → AllByRecursion P ys
all-right P [] ys all = all
all-right P (x ∷ xs) ys all = all-right P xs ys all.1

all-parted : {X : Type 0} (P : X → Type 0) (xss : List (List X)) → AllByRecursion P (joined xss) → AllByRecursion (AllByRecursion P) xss
all-parted P [] all = tt
all-parted P (xs ∷ xss) all = (all-left P xs (joined xss) all, all-parted P xss (all-right P xs (joined xss) all))

whole : (geometry : Geometry) → HasRings geometry → HasWholeRings geometry
whole (Point p) h = tt
whole (LineString ps) h = tt
whole (Polygon rings) h = all-left IsRing rings [] h
whole (MultiPoint ps) h = tt
whole (MultiLineString lines) h = tt
whole (MultiPolygon polygons) h = all-parted IsRing polygons h

-- each ring of a valid geometry is its vertices and the first of them again
pub whole-rings : (geometry : Geometry) → IsValid geometry → HasWholeRings geometry
whole-rings geometry is = whole geometry (valid-rings geometry is)
