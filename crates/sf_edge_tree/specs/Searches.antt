-- Internal: who wants to trust the program need not read this file.
-- What is searched for among edges, and what the answers of a search mean.
use Rattle.std.specs.Prelude.{ℕ, ◌<◌, ◌≤◌, List, length, IsTrue}
use Rattle.sf_grid.specs.Plane.{Coordinates}
use Rattle.sf_geometry.specs.declared.extent.Extent.{Extent}
use Rattle.sf_geometry.specs.Envelope.{extents_meet}
use Rattle.sf_edge_tree.specs.declared.outcome.Outcome.{Outcome}
use Rattle.sf_edge_tree.specs.declared.outcome.Outcome.TheVariants.{Absent, Found, GaveUp}
use Rattle.sf_edge_tree.specs.Boxes.{extent_at_edge}

-- an edge with a number from `from` on and below `to`, whose box shares a point with a box, passes
pub record HasNear (edges : List (Coordinates × Coordinates)) (extent : Extent) (from to : ℕ) (Passes : ℕ → Type 0) : Type 0 where
  pub edge : ℕ
  pub behind : from ≤ edge
  pub before : edge < to
  pub near : IsTrue (extents_meet (extent_at_edge edges edge) extent)
  pub passes : Passes edge

-- an edge of the first list and one of the second, of pairs that may be asked about, whose boxes share a point, pass together
pub record HasPair (edges others : List (Coordinates × Coordinates)) (IsAsked Passes : ℕ → ℕ → Type 0) : Type 0 where
  pub first : ℕ
  pub second : ℕ
  pub asked : IsAsked first second
  pub near : IsTrue (extents_meet (extent_at_edge others second) (extent_at_edge edges first))
  pub passes : Passes first second

-- the numbers of two edges of one list, the one before the other
abbrev pub AreTwoOf : List (Coordinates × Coordinates) → ℕ → ℕ → Type 0
AreTwoOf edges first second = (first < second) × (second < length edges)

-- the numbers of an edge of each of two lists
abbrev pub AreOneOfEach : List (Coordinates × Coordinates) → List (Coordinates × Coordinates) → ℕ → ℕ → Type 0
AreOneOfEach edges others first second = (first < length edges) × (second < length others)

-- what an answer says of the fact that is searched for: where the search gave up, nothing
abbrev pub Answers : Type 0 → Outcome → Type 0
Answers Fact Found = Fact
Answers Fact Absent = ¬ Fact
Answers Fact GaveUp = Unit {0}
