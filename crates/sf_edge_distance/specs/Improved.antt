-- Internal: who wants to trust the program need not read this file.
-- The lesser of a square that is known and the least square of the distance of two sets.
use Rattle.std.specs.Prelude.{◌≡◌, ◌⊎◌, IsTrue}
use Rattle.sf_grid.specs.Fraction.{Fraction, IsFraction, fraction_le}
use Rattle.sf_grid.specs.Plane.{IsPoint, Point}
use Rattle.sf_distance.specs.Squares.{IsReached, square_between}

-- the better square is at most the known one and those of all points of the sets, and is one of these
pub record IsImproved (First Second : Point → Type 0) (known better : Fraction) : Type 0 where
  pub is_number : IsFraction better
  pub at_most : IsTrue (fraction_le better known)
  pub least : (p q : Point) → IsPoint p → IsPoint q → First p → Second q → IsTrue (fraction_le better (square_between p q))
  pub reached : (better ≡ known) ⊎ IsReached First Second better
