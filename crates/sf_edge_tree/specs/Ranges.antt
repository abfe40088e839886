-- Internal: who wants to trust the program need not read this file.
-- Pairs of edges of which the second has a number in a range.
use Rattle.std.specs.Prelude.{ℕ, ◌<◌, ◌≤◌}

-- the second number is from `from` on and below `to`
abbrev pub InRange : (ℕ → ℕ → Type 0) → ℕ → ℕ → ℕ → ℕ → Type 0
InRange IsAsked from to first second = IsAsked first second × (from ≤ second) × (second < to)

-- the first number is less than the second
abbrev pub IsEarlier : ℕ → ℕ → Type 0
IsEarlier first second = first < second

-- the first number is below n
abbrev pub IsBelow : ℕ → ℕ → ℕ → Type 0
IsBelow n first second = first < n

-- both numbers are in a range, the first one before the second
abbrev pub AreWithin : ℕ → ℕ → ℕ → ℕ → Type 0
AreWithin from to first second = (from ≤ first) × (first < second) × (second < to)
