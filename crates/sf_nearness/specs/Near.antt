-- Internal: who wants to trust the program need not read this file.
-- When the segments of two geometries show how near they are.
use Rattle.std.specs.Prelude.{IsTrue}
use Rattle.sf_grid.specs.Fraction.{fraction_le}
use Rattle.sf_grid.specs.Plane.{IsPoint, Point}
use Rattle.sf_geometry.specs.declared.geometry.Geometry.{Geometry}
use Rattle.sf_distance.specs.Squares.{square_between}
use Rattle.sf_nearness.specs.Segments.{IsOnSegments}
use Rattle.sf_nearness.specs.Sets.{IsOf}

-- points on segments of both that are no farther apart than p and q
pub record AreAsNear (a b : Geometry) (p q : Point) : Type 0 where
  pub first : Point
  pub second : Point
  pub first_is_point : IsPoint first
  pub second_is_point : IsPoint second
  pub on_first : IsOnSegments a first
  pub on_second : IsOnSegments b second
  pub nearer : IsTrue (fraction_le (square_between first second) (square_between p q))

-- such are there of any two points of the geometries
abbrev pub IsBySegments : Geometry → Geometry → Type 0
IsBySegments a b = (p q : Point) → IsPoint p → IsPoint q → IsOf a p → IsOf b q → AreAsNear a b p q
