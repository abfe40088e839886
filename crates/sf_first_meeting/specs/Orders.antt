-- Internal: who wants to trust the program need not read this file.
-- Edges that go on behind a place, in order from the lowest.
use Rattle.std.specs.Prelude.{◌≡◌, ℕ, ◌<◌, ◌⊎◌, ℤ, pos, ◌*ℤ◌, ◌≤ℤ◌, ◌<ℤ◌, List, [], ◌∷◌}
use Rattle.std.specs.declared.cmp.Ordering.TheVariants.{Less}
use Rattle.sf_grid.specs.Fraction.{Fraction, IsFraction}
use Rattle.sf_grid.specs.Plane.{Coordinates, IsPoint, Point}
use Rattle.sf_grid.specs.Edge.{Edge, height_cmp}
use Rattle.sf_grid.specs.Sharing.{IsOnBoth}

-- i is one of the numbers
abbrev pub Among : ℕ → List ℕ → Type 0
Among i [] = ⊥
Among i (j ∷ js) = (i ≡ j) ⊎ Among i js

-- a relation holds between each number and the next one
abbrev pub LinkedFrom : (ℕ → ℕ → Type 0) → ℕ → List ℕ → Type 0
LinkedFrom R i [] = Unit {0}
LinkedFrom R i (j ∷ js) = R i j × LinkedFrom R j js

abbrev pub Linked : (ℕ → ℕ → Type 0) → List ℕ → Type 0
Linked R [] = Unit {0}
Linked R (i ∷ is) = LinkedFrom R i is

-- a relation holds between the last number of a list and the first one of another
abbrev pub SeamFrom : (ℕ → ℕ → Type 0) → ℕ → List ℕ → Type 0
SeamFrom R i [] = Unit {0}
SeamFrom R i (j ∷ js) = R i j

abbrev pub Seam : (ℕ → ℕ → Type 0) → List ℕ → List ℕ → Type 0
Seam R [] js = Unit {0}
Seam R (i ∷ []) js = SeamFrom R i js
Seam R (i ∷ k ∷ is) js = Seam R (k ∷ is) js

-- a fact holds of the last number, or of the first one
abbrev pub AtLast : (ℕ → Type 0) → List ℕ → Type 0
AtLast P [] = Unit {0}
AtLast P (i ∷ []) = P i
AtLast P (i ∷ k ∷ is) = AtLast P (k ∷ is)

abbrev pub AtFirst : (ℕ → Type 0) → List ℕ → Type 0
AtFirst P [] = Unit {0}
AtFirst P (i ∷ is) = P i

-- the place z is strictly behind x and strictly before y
pub record IsWithin (x y : ℤ) (z : Fraction) : Type 0 where
  pub is : IsFraction z
  pub past : (x *ℤ pos z.den) <ℤ z.num
  pub before : z.num <ℤ (y *ℤ pos z.den)

-- two edges that rise from left to right go on behind the place x, the first one below the second until one of them ends
pub record IsBelow (e f : Edge) (x : ℤ) : Type 0 where
  pub first_begun : e.a.x ≤ℤ x
  pub second_begun : f.a.x ≤ℤ x
  pub first_goes : x <ℤ e.b.x
  pub second_goes : x <ℤ f.b.x
  pub lower : (z : Fraction) → IsWithin x e.b.x z → IsWithin x f.b.x z → height_cmp e f z ≡ Less

-- p is an end of the edge
abbrev pub IsEnd : Edge → Point → Type 0
IsEnd e p = ((p.x ≡ e.a.x *ℤ pos p.d) × (p.y ≡ e.a.y *ℤ pos p.d)) ⊎ ((p.x ≡ e.b.x *ℤ pos p.d) × (p.y ≡ e.b.y *ℤ pos p.d))

-- two edges share ends alone
abbrev pub ShareEnds : Edge → Edge → Type 0
ShareEnds e f = (p : Point) → IsPoint p → IsOnBoth e f p → IsEnd e p × IsEnd f p
