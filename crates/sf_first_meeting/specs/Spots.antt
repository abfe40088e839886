-- Internal: who wants to trust the program need not read this file.
-- The edges at a vertex: which of them end and begin there.
use Rattle.std.specs.Prelude.{◌≡◌, ℕ, ◌+◌, ◌-◌, ◌<◌, ◌≤◌, ◌⊎◌, ℤ, pos, ◌<ℤ◌, List, [], ◌∷◌, ◌++◌, length, take, drop, Option, Some, None, slice_get}
use Rattle.sf_grid.specs.Plane.{Coordinates, grid_point}
use Rattle.sf_grid.specs.Edge.{cross}
use Rattle.sf_first_meeting.specs.declared.spot.Spot.{Spot}
use Rattle.sf_first_meeting.specs.declared.spot.Spot.TheVariants.{Begins, Closes, Ends, Opens, Passes}
use Rattle.sf_first_meeting.specs.Numbered.{IsClosedBy, point_of}
use Rattle.sf_first_meeting.specs.Sheared.{rising, sheared}
use Rattle.sf_first_meeting.specs.Orders.{Among, AtFirst, AtLast, Linked, Seam}
use Rattle.sf_first_meeting.specs.Sweeps.{ArePlain, IsOver, IsUnder}

-- the edges that end, and that begin
abbrev pub ending_of : Spot → List ℕ
ending_of (Opens lower upper) = []
ending_of (Passes before after) = before ∷ []
ending_of (Closes first second) = first ∷ second ∷ []
ending_of (Begins edge) = []
ending_of (Ends edge) = edge ∷ []

abbrev pub beginning_of : Spot → List ℕ
beginning_of (Opens lower upper) = lower ∷ upper ∷ []
beginning_of (Passes before after) = after ∷ []
beginning_of (Closes first second) = []
beginning_of (Begins edge) = edge ∷ []
beginning_of (Ends edge) = []

-- the edge i leads to the vertex n
abbrev pub LeadsTo : List Coordinates → ℕ → ℕ → Type 0
LeadsTo ps n i = (i + 1 ≡ n) ⊎ ((n ≡ 0) × IsClosedBy ps i)

-- it leads to it, or from it
abbrev pub IsAtVertex : List Coordinates → ℕ → ℕ → Type 0
IsAtVertex ps n i = (i ≡ n) ⊎ LeadsTo ps n i

-- these are the edges at the vertex n
pub record AreAtVertex (ps : List Coordinates) (n : ℕ) (edges : List ℕ) : Type 0 where
  pub are : (i : ℕ) → Among i edges → (i + 1 < length ps) × IsAtVertex ps n i
  pub all : (i : ℕ) → i + 1 < length ps → IsAtVertex ps n i → Among i edges

-- the edge i ends at the vertex n, or begins there
abbrev pub EndsAt : List Coordinates → ℕ → ℕ → Type 0
EndsAt ps n i = (rising ps i).b ≡ sheared (point_of ps n)

abbrev pub BeginsAt : List Coordinates → ℕ → ℕ → Type 0
BeginsAt ps n i = (rising ps i).a ≡ sheared (point_of ps n)

-- the right end of the edge j is to the left of the edge i
abbrev pub IsLeftOf : List Coordinates → ℕ → ℕ → Type 0
IsLeftOf ps i j = pos 0 <ℤ cross (rising ps i).a (rising ps i).b (grid_point (rising ps j).b)

-- the edges at the vertex n
pub record IsSpot (ps : List Coordinates) (n : ℕ) (spot : Spot) : Type 0 where
  pub edges : List ℕ
  pub known : AreAtVertex ps n edges
  pub ending : (i : ℕ) → Among i (ending_of spot) → Among i edges × EndsAt ps n i
  pub beginning : (i : ℕ) → Among i (beginning_of spot) → Among i edges × BeginsAt ps n i
  pub either : (i : ℕ) → Among i edges → Among i (ending_of spot) ⊎ Among i (beginning_of spot)
  pub fan : Linked (IsLeftOf ps) (beginning_of spot)

-- the same numbers
abbrev pub HasSame : List ℕ → List ℕ → Type 0
HasSame xs ys = ((i : ℕ) → Among i xs → Among i ys) × ((i : ℕ) → Among i ys → Among i xs)

-- a relation between numbers, where both are there
abbrev pub Between : (ℕ → ℕ → Type 0) → Option ℕ → Option ℕ → Type 0
Between R None j = Unit {0}
Between R (Some i) None = Unit {0}
Between R (Some i) (Some j) = R i j

-- a relation along some numbers, from the last one below them to the first one above them
abbrev pub Along : (ℕ → ℕ → Type 0) → Option ℕ → List ℕ → Option ℕ → Type 0
Along R low [] high = Between R low high
Along R low (i ∷ is) high = Between R low (Some i) × Along R (Some i) is high

-- what is tested at a vertex
pub record IsTested (ps : List Coordinates) (at : Coordinates) (below ending above : List ℕ) (spot : Spot) : Type 0 where
  pub same : HasSame ending (ending_of spot)
  pub under : AtLast (IsUnder ps at) below
  pub over : AtFirst (IsOver ps at) above
  pub plain : Along (ArePlain ps) (slice_get below (length below - 1)) (beginning_of spot) (slice_get above 0)

-- the edges at the vertex n stand from a place on in the order
pub record IsFound (ps : List Coordinates) (active : List ℕ) (n : ℕ) (from : ℕ) (spot : Spot) : Type 0 where
  pub within : from + length (ending_of spot) ≤ length active
  pub is_spot : IsSpot ps n spot
  pub tested : IsTested ps (point_of ps n) (take from active) (take (length (ending_of spot)) (drop from active))
      (drop (length (ending_of spot)) (drop from active)) spot
