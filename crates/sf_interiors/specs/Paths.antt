-- Internal: who wants to trust the program need not read this file.
-- Along a path that meets no edge of closed chains, the parity of the edges above stays.
use Rattle.std.specs.Prelude.{◌≡◌, Bool, List, IsTrue}
use Rattle.std.specs.List.{AllByRecursion}
use Rattle.sf_grid.specs.Plane.{Coordinates, IsPoint, Point, grid_point}
use Rattle.sf_grid.specs.Edge.{Edge as Line, IsOnEdge}
use Rattle.sf_grid.specs.EvenOdd.{edges_above, is_odd}
use Rattle.sf_plane.specs.Boxes.{Box, IsChain, IsClosedChain, in_box}

-- whether an odd number of the edges is above the point
abbrev pub parity : List Line → Point → Bool
parity es p = is_odd (edges_above p es)

-- no point of the plane is on both edges
abbrev pub AreApart : Line → Line → Type 0
AreApart e f = (p : Point) → IsPoint p → IsOnEdge e p → IsOnEdge f p → ⊥

-- no point of the plane is on edges of both lists
abbrev pub ListsAreApart : List Line → List Line → Type 0
ListsAreApart es fs = AllByRecursion (λ f. AllByRecursion (λ e. AreApart e f) es) fs

-- all points of an edge that meets no edge of a closed chain have one parity
abbrev pub EdgeHasOneParity : Type 0
EdgeHasOneParity =
    (es : List Line) (f : Line) (p q : Point) → IsClosedChain es → AllByRecursion (λ e. AreApart e f) es → IsPoint p → IsPoint q
    → IsOnEdge f p → IsOnEdge f q → parity es p ≡ parity es q

-- so have the ends of a chain of such edges
abbrev pub ChainHasOneParity : Type 0
ChainHasOneParity =
    (es fs : List Line) (a b : Coordinates) → IsClosedChain es → ListsAreApart es fs → IsChain a fs b
    → parity es (grid_point a) ≡ parity es (grid_point b)

-- no edge has a point of the box
abbrev pub IsOffBox : Box → Line → Type 0
IsOffBox box e = (p : Point) → IsPoint p → IsTrue (in_box box p) → IsOnEdge e p → ⊥

-- all points of a closed box that no edge of a closed chain meets have one parity
abbrev pub BoxHasOneParity : Type 0
BoxHasOneParity =
    (es : List Line) (box : Box) (p q : Point) → IsClosedChain es → AllByRecursion (IsOffBox box) es → IsPoint p → IsPoint q
    → IsTrue (in_box box p) → IsTrue (in_box box q) → parity es p ≡ parity es q
