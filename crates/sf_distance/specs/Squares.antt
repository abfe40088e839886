-- The square of the distance between two points of the plane, and when it is the least between two sets of points (6.1.2.4, Distance).
use Rattle.std.specs.Prelude.{◌*◌, pos, ◌+ℤ◌, ◌-ℤ◌, ◌*ℤ◌, IsTrue}
use Rattle.sf_grid.specs.Fraction.{Fraction, IsFraction, fraction_eq, fraction_le}
use Rattle.sf_grid.specs.Plane.{IsPoint, Point}

-- the square of the distance between two points, over the square of their common denominator
abbrev pub square_between : Point → Point → Fraction
square_between p q =
    record {
      num =
          (p.x *ℤ pos q.d -ℤ q.x *ℤ pos p.d) *ℤ (p.x *ℤ pos q.d -ℤ q.x *ℤ pos p.d)
          +ℤ (p.y *ℤ pos q.d -ℤ q.y *ℤ pos p.d) *ℤ (p.y *ℤ pos q.d -ℤ q.y *ℤ pos p.d);
      den = (p.d * q.d) * (p.d * q.d);
    }

-- two points, one of each set, the square of whose distance is the fraction
pub record IsReached (First Second : Point → Type 0) (square : Fraction) : Type 0 where
  pub first : Point
  pub second : Point
  pub first_is_point : IsPoint first
  pub second_is_point : IsPoint second
  pub in_first : First first
  pub in_second : Second second
  pub reached : IsTrue (fraction_eq (square_between first second) square)

-- the fraction is the square of the least distance between two sets of points of the plane: two points are so far apart, and no two
-- are nearer
pub record IsLeastSquare (First Second : Point → Type 0) (square : Fraction) : Type 0 where
  pub is_number : IsFraction square
  pub reached : IsReached First Second square
  pub least : (p q : Point) → IsPoint p → IsPoint q → First p → Second q → IsTrue (fraction_le square (square_between p q))

-- two points, one of each set, are no farther apart than the root of the bound
pub record IsWithin (First Second : Point → Type 0) (bound : Fraction) : Type 0 where
  pub first : Point
  pub second : Point
  pub first_is_point : IsPoint first
  pub second_is_point : IsPoint second
  pub in_first : First first
  pub in_second : Second second
  pub near : IsTrue (fraction_le (square_between first second) bound)
