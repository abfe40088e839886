-- Internal: who wants to trust the program need not read this file.
-- The parts of a column, from the top: edges that stand alone, many at once, and the other levels one by one.
use Rattle.std.specs.Prelude.{◌≡◌, ℕ, zero, suc, ◌+◌, Bool, true, false, ◌&&◌, not, List, [], ◌∷◌, ◌++◌, drop, length, Option, if◌then◌else◌}
use Rattle.std.specs.Ordering.{is_lt}
use Rattle.sf_grid.specs.Fraction.{Fraction}
use Rattle.sf_grid.specs.Plane.{grid_point}
use Rattle.sf_strips.specs.declared.active.Active.{Active}
use Rattle.sf_strips.specs.declared.contact.Contact.{Contact}
use Rattle.sf_strips.specs.declared.level.Level.{Level}
use Rattle.sf_strips.specs.declared.part.Part.{Part}
use Rattle.sf_strips.specs.declared.part.Part.TheVariants.{Alone, Together}
use Rattle.sf_strips.specs.declared.vertex.Vertex.{Vertex}
use Rattle.sf_strips.specs.Fronts.{touches}
use Rattle.sf_strips.specs.Levels.{IsOnward}
use Rattle.sf_strips.specs.Slanted.{side_of}

-- the level of one edge that goes on alone
abbrev pub alone_level : Level
alone_level = record { edges = 1; vertices = 0; onward = 1 }

-- so many of them before other levels
abbrev pub alone_levels : ℕ → List Level → List Level
alone_levels zero ls = ls
alone_levels (suc n) ls = alone_level ∷ alone_levels n ls

-- the levels of parts
abbrev pub levels_of : List Part → List Level
levels_of [] = []
levels_of (Alone n ∷ ps) = alone_levels n (levels_of ps)
levels_of (Together l ∷ ps) = l ∷ levels_of ps

-- the first contact touches
abbrev pub touches_first : Option Fraction → List Contact → Bool
touches_first column [] = false
touches_first column (c ∷ cs) = touches column c

-- the edge is above the first vertex, where there is one
abbrev pub is_over : List Vertex → Active → Bool
is_over [] a = true
is_over (v ∷ vs) a = is_lt (side_of a.edge.left a.edge.right (grid_point v.at))

-- the edge is the only thing at its height, where it is the first one of what is left
abbrev pub stands_alone : Option Fraction → Active → List Contact → List Vertex → Bool
stands_alone column a cs vs = not (touches_first column cs) && is_over vs a

-- how many edges from the first one on stand alone
abbrev pub alone_count : Option Fraction → List Active → List Contact → List Vertex → ℕ
alone_count column [] cs vs = 0
alone_count column (a ∷ es) cs vs =
    if stands_alone column a cs vs then 1 + alone_count column es (drop 1 cs) vs else 0

-- a level is put behind the parts, and what goes on from it behind the order
pub record HasLevel (run : List Active) (group : List Vertex) (parts parts' : List Part) (order order' : List Active) : Type 0 where
  pub segment : List Active
  pub onward : IsOnward run group segment
  pub behind : parts' ≡ parts ++ Together (record { edges = length run; vertices = length group; onward = length segment }) ∷ []
  pub order_behind : order' ≡ order ++ segment
