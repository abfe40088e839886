-- Laws of the sums that areas and lengths are made of.
use Rattle.std.specs.Prelude.{◌≡◌, ℕ, ◌+◌, ◌*◌, ◌^◌, ◌<◌, ◌≤◌, List, [], ◌∷◌, ◌++◌, map, ℤ, pos, ◌+ℤ◌, ◌-ℤ◌, ◌*ℤ◌}
use Rattle.sf_grid.specs.Edge.{Edge}
use Rattle.sf_grid.specs.Plane.{Coordinates}
use Rattle.sf_measure.specs.Areas.{shoelace}
use Rattle.sf_measure.specs.Lengths.{length_square, parts_of_edge, parts_of_step}

abbrev pub at : ℤ → ℤ → Coordinates
at x y = record { x = x; y = y }

-- a point moved by a vector
abbrev pub moved : ℤ → ℤ → Coordinates → Coordinates
moved dx dy p = record { x = p.x +ℤ dx; y = p.y +ℤ dy }

-- twice the area of a rectangle is twice its width times its height
abbrev pub RectanglesAreSides : Type 0
RectanglesAreSides = (x y width height : ℤ) →
    shoelace (at x y ∷ at (x +ℤ width) y ∷ at (x +ℤ width) (y +ℤ height) ∷ at x (y +ℤ height) ∷ at x y ∷ []) ≡ pos 2 *ℤ (width *ℤ height)

-- of a triangle it is the base times the height, here of one with a base along the grid
abbrev pub TrianglesAreHalves : Type 0
TrianglesAreHalves = (x y base height apex : ℤ) →
    shoelace (at x y ∷ at (x +ℤ base) y ∷ at (x +ℤ apex) (y +ℤ height) ∷ at x y ∷ []) ≡ base *ℤ height

-- a ring that is moved keeps its area
abbrev pub MovedIsAlike : Type 0
MovedIsAlike = (dx dy : ℤ) (p : Coordinates) (qs : List Coordinates) →
    shoelace (map (moved dx dy) (p ∷ qs ++ p ∷ [])) ≡ shoelace (p ∷ qs ++ p ∷ [])

-- a ring that begins at another of its points keeps its area
abbrev pub StartIsFree : Type 0
StartIsFree = (p x : Coordinates) (qs rs : List Coordinates) →
    shoelace (p ∷ qs ++ (x ∷ rs ++ p ∷ [])) ≡ shoelace (x ∷ rs ++ (p ∷ qs ++ x ∷ []))

-- a ring that is cut from one of its points to another falls into two whose areas add up to its own
abbrev pub CutAddsUp : Type 0
CutAddsUp = (p x : Coordinates) (qs rs : List Coordinates) →
    shoelace (p ∷ qs ++ (x ∷ rs ++ p ∷ [])) ≡ shoelace (p ∷ qs ++ x ∷ p ∷ []) +ℤ shoelace (x ∷ rs ++ p ∷ x ∷ [])

-- the sum of the trapezoids between the steps of a ring and the axis, each twice, those below steps to the left counted up
abbrev pub trapezoids_from : Coordinates → List Coordinates → ℤ
trapezoids_from p [] = pos 0
trapezoids_from p (q ∷ qs) = (p.x -ℤ q.x) *ℤ (p.y +ℤ q.y) +ℤ trapezoids_from q qs

abbrev pub AreaIsOfTrapezoids : Type 0
AreaIsOfTrapezoids = (p : Coordinates) (qs : List Coordinates) → shoelace (p ∷ qs ++ p ∷ []) ≡ trapezoids_from p (qs ++ p ∷ [])

-- the other way round it is the same with the other sign
abbrev pub TurnedIsNegative : Type 0
TurnedIsNegative = (p q r : Coordinates) → shoelace (p ∷ q ∷ r ∷ p ∷ []) ≡ pos 0 -ℤ shoelace (p ∷ r ∷ q ∷ p ∷ [])

-- r is the square root of n, rounded down to a whole number
pub record IsRoot (n r : ℕ) : Type 0 where
  pub below : r * r ≤ n
  pub above : n < (r + 1) * (r + 1)

-- the length of an edge of the grid in parts of a step is the root of its square, rounded down: it is too short by less than one part
abbrev pub EdgesAreRoundedDown : Type 0
EdgesAreRoundedDown = (e : Edge) → length_square e < 2 ^ 64 → IsRoot (length_square e * (parts_of_step * parts_of_step)) (parts_of_edge e)
