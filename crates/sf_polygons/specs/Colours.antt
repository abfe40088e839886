-- Internal: who wants to trust the program need not read this file.
-- Colours: numbers for boxes, so that those with one number share no point.
use Rattle.std.specs.Prelude.{◌≡◌, ℕ, ◌+◌, ◌≤◌, Bool, false, cond, List, [], ◌∷◌, length, Option, Some, None, is_some}
use Rattle.std.specs.List.{AllByRecursion, fold, zip}
use Rattle.sf_grid.specs.Plane.{Coordinates}
use Rattle.sf_geometry.specs.declared.extent.Extent.{Extent}
use Rattle.sf_geometry.specs.Envelope.{extents_meet, grown}

-- the least box that has these points, where there are any
abbrev pub box_of : List Coordinates → Option Extent
box_of ps = fold grown None ps

-- both boxes are there, and share a point
abbrev pub do_meet : Option Extent → Option Extent → Bool
do_meet None b = false
do_meet (Some a) None = false
do_meet (Some a) (Some b) = extents_meet a b

-- a box and its colour
abbrev pub Coloured : Type 0
Coloured = Option Extent × ℕ

-- two of one colour share no point
abbrev pub AreApart : List Coloured → Type 0
AreApart [] = Unit {0}
AreApart (c ∷ cs) = AllByRecursion (λ (d : Coloured). c.1 ≡ d.1 → do_meet c.0 d.0 ≡ false) cs × AreApart cs

-- each colour is at most how many boxes are there before its own, n before the first
abbrev pub AreFew : ℕ → List Coloured → Type 0
AreFew n [] = Unit {0}
AreFew n (c ∷ cs) = (c.1 ≤ n) × AreFew (n + cond (is_some c.0) 1 0) cs

-- colours for boxes
pub record IsColouring (boxes : List (Option Extent)) (colours : List ℕ) : Type 0 where
  pub one_each : length colours ≡ length boxes
  pub few : AreFew 0 (zip boxes colours)
  pub apart : AreApart (zip boxes colours)
