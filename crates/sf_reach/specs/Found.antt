-- Internal: who wants to trust the program need not read this file.
-- Identifiers that were found: in the order in which they were, as a set, and rising.
use Rattle.std.specs.Prelude.{◌≡◌, ◌↔◌, ℕ, List, Contains, nat_eq}
use Rattle.std.specs.BTreeSet.{BTreeSet, contains}
use Rattle.std.specs.List.{IsDistinct, list_any}
use Rattle.std.specs.List.Sorted.{IsStrictlySortedBy}
use Rattle.std.specs.Ordering.{nat_cmp}

-- each stands there once, and the set has just them
pub record IsSetOf (ids : BTreeSet ℕ) (order : List ℕ) : Type 0 where
  pub once : IsDistinct nat_eq order
  pub same : (id : ℕ) → contains nat_cmp ids id ≡ list_any (nat_eq id) order

-- just them, rising
pub record AreRising (order ids : List ℕ) : Type 0 where
  pub rising : IsStrictlySortedBy nat_cmp ids
  pub just : (id : ℕ) → Contains ids id ↔ Contains order id
