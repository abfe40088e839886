-- Internal: who wants to trust the program need not read this file.
-- Who goes from a point inside closed chains straight to one outside passes one of their edges, and is there no farther from the end.
use Rattle.std.specs.Prelude.{◌≢◌, List, IsTrue}
use Rattle.std.specs.List.{AllByRecursion, list_any}
use Rattle.sf_grid.specs.Fraction.{fraction_le}
use Rattle.sf_grid.specs.Plane.{IsPoint, Point}
use Rattle.sf_grid.specs.Edge.{Edge as Line, on_edge}
use Rattle.sf_plane.specs.Boxes.{IsClosedChain}
use Rattle.sf_interiors.specs.Paths.{parity}
use Rattle.sf_distance.specs.Squares.{square_between}

-- a point on one of the edges that is no farther from q than p is
pub record IsPassed (es : List Line) (p q : Point) : Type 0 where
  pub point : Point
  pub is_point : IsPoint point
  pub on_chain : IsTrue (list_any (λ e. on_edge e point) es)
  pub nearer : IsTrue (fraction_le (square_between point q) (square_between p q))

-- so it is of any two points of which an odd number of edges is above the one and an even number above the other
abbrev pub LeavingPasses : Type 0
LeavingPasses =
    (es : List Line) (p q : Point) → IsClosedChain es → AllByRecursion (λ e. e.a ≢ e.b) es → IsPoint p → IsPoint q
    → parity es p ≢ parity es q → IsPassed es p q
