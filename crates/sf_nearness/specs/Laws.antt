-- Beside the headline, which says nothing of distances.
-- The distance of valid geometries that share no point is that of their segments.
use Rattle.std.specs.Prelude.{IsTrue}
use Rattle.sf_grid.specs.Fraction.{Fraction, fraction_eq}
use Rattle.sf_grid.specs.Plane.{IsPoint, Point}
use Rattle.sf_geometry.specs.declared.geometry.Geometry.{Geometry}
use Rattle.sf_geometry.specs.PointSets.{in_exterior}
use Rattle.sf_valid_rules.specs.Validity.{IsValid}
use Rattle.sf_relate.specs.ByKinds.{ShareNone}
use Rattle.sf_distance.specs.Squares.{IsLeastSquare, IsWithin}
use Rattle.sf_nearness.specs.Least.{least_square_of}
use Rattle.sf_nearness.specs.Leaving.{IsPassed}
use Rattle.sf_nearness.specs.Segments.{IsOnSegments, segments_of}
use Rattle.sf_nearness.specs.Sets.{IsOf}

-- of a point in a valid geometry and one outside, a point on a segment is no farther from the second one than the first is
abbrev pub LeavesBySegments : Type 0
LeavesBySegments =
    (a : Geometry) (p q : Point) → IsValid a → IsPoint p → IsPoint q → IsOf a p → IsTrue (in_exterior a q) → IsPassed (segments_of a) p q

-- so the least square between the segments of two is that between them, where they share no point
abbrev pub DistanceIsOfSegments : Type 0
DistanceIsOfSegments =
    (a b : Geometry) (square : Fraction) → IsValid a → IsValid b → ShareNone a b → IsLeastSquare (IsOnSegments a) (IsOnSegments b) square
    → IsLeastSquare (IsOf a) (IsOf b) square

-- and some points of theirs are so near only where points of segments are
abbrev pub NearnessIsOfSegments : Type 0
NearnessIsOfSegments =
    (a b : Geometry) (bound : Fraction) → IsValid a → IsValid b → ShareNone a b → IsWithin (IsOf a) (IsOf b) bound
    → IsWithin (IsOnSegments a) (IsOnSegments b) bound

-- the square that is computed of two is the least over all points of the plane
abbrev pub ComputedIsLeast : Type 0
ComputedIsLeast = (a b : Geometry) → IsValid a → IsValid b → IsLeastSquare (IsOf a) (IsOf b) (least_square_of a b)

-- and no other number is
abbrev pub LeastIsOne : Type 0
LeastIsOne =
    (a b : Geometry) (s t : Fraction) → IsLeastSquare (IsOf a) (IsOf b) s → IsLeastSquare (IsOf a) (IsOf b) t → IsTrue (fraction_eq s t)
