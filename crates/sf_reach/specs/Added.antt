-- Internal: who wants to trust the program need not read this file.
-- Identifiers that were added behind others.
use Rattle.std.specs.Prelude.{◌≡◌, ◌⊎◌, ℕ, List, ◌++◌, Contains}

-- the old ones keep their places, all that belong are there, and no others were added
pub record AreAdded (Belongs : ℕ → Type 0) (old new : List ℕ) : Type 0 where
  pub more : List ℕ
  pub behind : new ≡ old ++ more
  pub all : (id : ℕ) → Belongs id → Contains new id
  pub only : (id : ℕ) → Contains new id → Contains old id ⊎ Belongs id
