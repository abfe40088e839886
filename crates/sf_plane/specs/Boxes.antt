-- Internal: who wants to trust the program need not read this file.
-- Boxes: a closed box that has the ends of a ring's edges has all points on the ring or inside it.
use Rattle.std.specs.Prelude.{◌≡◌, int_le, Bool, ◌&&◌, IsTrue, ℤ, List, [], ◌∷◌}
use Rattle.std.specs.Int.{int_max, int_min}
use Rattle.std.specs.List.{All}
use Rattle.sf_grid.specs.Plane.{Coordinates, IsPoint, Point, grid_point, x_of, y_of}
use Rattle.sf_grid.specs.Edge.{Edge as Line, IsOnEdge, within}
use Rattle.sf_grid.specs.EvenOdd.{edges_above, is_odd}

-- a closed box with sides along the axes
pub record Box : Type 0 where
  pub min_x : ℤ
  pub min_y : ℤ
  pub max_x : ℤ
  pub max_y : ℤ

-- the point is in the box
abbrev pub in_box : Box → Point → Bool
in_box box p = within box.min_x box.max_x (x_of p) && within box.min_y box.max_y (y_of p)

-- both ends of the edge are in the box
abbrev pub HasEnds : Box → Line → Type 0
HasEnds box e = IsTrue (in_box box (grid_point e.a)) × IsTrue (in_box box (grid_point e.b))

-- the edges lead from a to b, each beginning where the one before it ends
abbrev pub IsChain : Coordinates → List Line → Coordinates → Type 0
IsChain a [] b = a ≡ b
IsChain a (e ∷ es) b = (e.a ≡ a) × IsChain e.b es b

-- the edges lead back to where they begin
abbrev pub IsClosedChain : List Line → Type 0
IsClosedChain es = (a : Coordinates) × IsChain a es a

-- a point on an edge is in each box that has its ends
abbrev pub EdgeIsInBox : Type 0
EdgeIsInBox = (box : Box) (e : Line) (p : Point) → HasEnds box e → IsPoint p → IsOnEdge e p → IsTrue (in_box box p)

-- a point with an odd number of a closed chain's edges above it is in each box that has their ends
abbrev pub RingIsInBox : Type 0
RingIsInBox =
    (box : Box) (es : List Line) (p : Point) → IsClosedChain es → All (HasEnds box) es → IsPoint p → IsTrue (is_odd (edges_above p es))
    → IsTrue (in_box box p)

-- two closed boxes share a point
abbrev pub boxes_meet : Box → Box → Bool
boxes_meet a b =
    int_le (int_max a.min_x b.min_x) (int_min a.max_x b.max_x)
    && int_le (int_max a.min_y b.min_y) (int_min a.max_y b.max_y)

-- boxes that have a point of the plane in common meet
abbrev pub CommonPointMeets : Type 0
CommonPointMeets = (a b : Box) (p : Point) → IsPoint p → IsTrue (in_box a p) → IsTrue (in_box b p) → IsTrue (boxes_meet a b)
