-- Internal: who wants to trust the program need not read this file.
-- One edge of a line or ring, by its number, against all the others.
use Rattle.std.specs.Prelude.{ℕ, ◌+◌, ◌<◌, Bool, ◌&&◌, ◌||◌, List, length, nat_lt}
use Rattle.std.specs.List.{enumerate_from, list_any}
use Rattle.sf_grid.specs.Plane.{Coordinates, Point}
use Rattle.sf_geometry.specs.Lists.{edges_of}
use Rattle.sf_valid_rules.specs.Conditions.{Applies, AtPoint}
use Rattle.sf_strands.specs.Pairs.{pair_meets}

-- two edges share p, whichever comes first, and p isn't their common vertex as neighbours
abbrev pub either_meets : List Coordinates → ℕ → ℕ → Point → Bool
either_meets ps n m p = (nat_lt m n && pair_meets ps m n p) || (nat_lt n m && pair_meets ps n m p)

-- the edge with the number n and another one share p, and p isn't their common vertex as neighbours
abbrev pub edge_meets : List Coordinates → ℕ → Point → Bool
edge_meets ps n p = list_any (λ f. either_meets ps n f.0 p) (enumerate_from 0 (edges_of ps))

-- the other one comes earlier
abbrev pub MeetsEarlier : List Coordinates → ℕ → Type 0
MeetsEarlier ps n = (m : ℕ) × (m < n) × Applies (AtPoint (pair_meets ps m n))

-- the other one comes later
abbrev pub MeetsLater : List Coordinates → ℕ → Type 0
MeetsLater ps n = (m : ℕ) × (n < m) × (m + 1 < length ps) × Applies (AtPoint (pair_meets ps n m))
