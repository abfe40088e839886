-- Where no element that passes a test comes after one that fails it, the elements from the front on that pass are all that do.
use Rattle.std.proofs.Common.{◌≡◌, ℕ, ◌<◌, ◌≤◌, length, slice_index_or, Bool, true, false, List, inl, inr, arith}
use Rattle.std.specs.List.{prefix_len}
use Rattle.std.specs.List.Sorted.{IsPartitionPoint, IsPartitionedBy}
use Rattle.std.proofs.lemmas.Bool.{both_ways, cases_Bool}
use Rattle.std.proofs.lemmas.List.Sums.{prefix_len_passes, prefix_len_stops}

pub prefix-parts : {X : Type 0} (test : X → Bool) (xs : List X) → IsPartitionedBy test xs → IsPartitionPoint (λ x. test x ≡ true) (λ x. test x ≡ false) xs (prefix_len test xs)
prefix-parts {X} test xs falls = (λ k d low high. prefix_len_passes test xs k d high, stops)
  where
    stops : (k : ℕ) (d : X) → prefix_len test xs ≤ k → k < length xs → test (slice_index_or xs k d) ≡ false
    stops k d low high =
        elim (cases_Bool (test (slice_index_or xs k d))) [
          | inr fails ↦ fails
          | inl passes ↦ absurd (both_ways _ (prefix_len_stops test xs d (omega (arith, low, high))) (falls (prefix_len test xs) k d low high passes))
        ]
