-- Internal: who wants to trust the program need not read this file.
-- A sweep over the places of the vertices: what it knows at a place, and what it looks at to come to the next one.
use Rattle.std.specs.Prelude.{◌≡◌, ◌≢◌, ℕ, ◌+◌, ◌<◌, ℤ, pos, ◌*ℤ◌, ◌≤ℤ◌, ◌<ℤ◌, List, ◌++◌, length}
use Rattle.sf_grid.specs.Plane.{Coordinates, IsPoint, Point, grid_point}
use Rattle.sf_grid.specs.Edge.{cross}
use Rattle.sf_grid.specs.Sharing.{IsOnBoth}
use Rattle.sf_first_meeting.specs.Sheared.{place, rising, sheared}
use Rattle.sf_first_meeting.specs.Orders.{Among, AtFirst, AtLast, IsBelow, IsEnd, Linked, Seam, ShareEnds}

-- at the place x: the edges that go on behind it stand in order, and up to it no two edges share more than ends
pub record Stands (ps : List Coordinates) (active : List ℕ) (x : ℤ) : Type 0 where
  pub going : (i : ℕ) → Among i active → (i + 1 < length ps) × ((rising ps i).a.x ≤ℤ x) × (x <ℤ (rising ps i).b.x)
  pub all : (i : ℕ) → i + 1 < length ps → (rising ps i).a.x ≤ℤ x → x <ℤ (rising ps i).b.x → Among i active
  pub order : Linked (λ i j. IsBelow (rising ps i) (rising ps j) x) active
  pub past : (i j : ℕ) → i + 1 < length ps → j + 1 < length ps → i ≢ j → (p : Point) → IsPoint p → IsOnBoth (rising ps i) (rising ps j) p
      → p.x ≤ℤ (x *ℤ pos p.d) → IsEnd (rising ps i) p × IsEnd (rising ps j) p

-- a point is above an edge, or below it
abbrev pub IsUnder : List Coordinates → Coordinates → ℕ → Type 0
IsUnder ps at i = pos 0 <ℤ cross (rising ps i).a (rising ps i).b (grid_point (sheared at))

abbrev pub IsOver : List Coordinates → Coordinates → ℕ → Type 0
IsOver ps at i = cross (rising ps i).a (rising ps i).b (grid_point (sheared at)) <ℤ pos 0

-- two edges share ends alone
abbrev pub ArePlain : List Coordinates → ℕ → ℕ → Type 0
ArePlain ps i j = ShareEnds (rising ps i) (rising ps j)

-- and the second one turns left of the first one
abbrev pub AreFanned : List Coordinates → ℕ → ℕ → Type 0
AreFanned ps i j = ArePlain ps i j × (pos 0 <ℤ cross (rising ps i).a (rising ps i).b (grid_point (rising ps j).b))

-- the next vertex behind the place x: which edges end and begin there, which are below and above it, and that new neighbours
-- share ends alone
pub record Event (ps : List Coordinates) (x : ℤ) (at : Coordinates) (below ending beginning above : List ℕ) : Type 0 where
  pub rises : (i : ℕ) → i + 1 < length ps → (rising ps i).a.x <ℤ (rising ps i).b.x
  pub ahead : x <ℤ place at
  pub next_begin : (i : ℕ) → i + 1 < length ps → x <ℤ (rising ps i).a.x → place at ≤ℤ (rising ps i).a.x
  pub next_end : (i : ℕ) → i + 1 < length ps → x <ℤ (rising ps i).b.x → place at ≤ℤ (rising ps i).b.x
  pub ending_is : (i : ℕ) → Among i ending → (rising ps i).b ≡ sheared at
  pub ending_all : (i : ℕ) → i + 1 < length ps → (rising ps i).b.x ≡ place at → Among i ending
  pub beginning_is : (i : ℕ) → Among i beginning → (i + 1 < length ps) × ((rising ps i).a ≡ sheared at)
  pub beginning_all : (i : ℕ) → i + 1 < length ps → (rising ps i).a.x ≡ place at → Among i beginning
  pub under : AtLast (IsUnder ps at) below
  pub over : AtFirst (IsOver ps at) above
  pub fan : Linked (AreFanned ps) beginning
  pub lower_seam : Seam (ArePlain ps) below (beginning ++ above)
  pub upper_seam : Seam (ArePlain ps) beginning above
