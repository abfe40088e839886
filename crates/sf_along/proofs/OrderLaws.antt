-- Sorted runs are in order.
use Rattle.std.proofs.Common.{◌≡◌, refl, ap, sym, ◌∙◌, ℕ, suc, ◌+◌, ◌<◌, ◌≤◌, ℤ, arith, false, List, [], ◌∷◌, length, get_or}
use Rattle.std.specs.Cmp.{IsStrictWeakOrder, IsTotalOrder, on_total, then_total}
use Rattle.std.specs.List.{All}
use Rattle.std.specs.List.Sorted.{IsSortedBy, IsSortedByKey}
use Rattle.std.specs.declared.cmp.Ordering.{Ordering}
use Rattle.std.specs.declared.cmp.Ordering.TheVariants.{Less, Equal, Greater}
use Rattle.std.specs.Ordering.{int_cmp, is_lt, ordering_then}
use Rattle.std.proofs.lemmas.Cmp.{int_cmp_total}
use Rattle.std.proofs.lemmas.List.Elements.{recursion_from_All, All-head, All-tail}
use Rattle.std.proofs.lemmas.List.Sorted.{ranks_by, sorted_far}
use Rattle.sf_along.specs.declared.run.Run.{Run}
use Rattle.sf_along.specs.Runs.{AreInOrder, IsRun, key_of, run_before, run_cmp}

by-order : IsTotalOrder run_cmp
by-order =
    then_total (on_total (λ (r : Run). r.slope) int_cmp_total)
    (then_total (on_total (λ (r : Run). r.height) int_cmp_total)
    (then_total (on_total (λ (r : Run). r.left.x) int_cmp_total) (on_total (λ (r : Run). r.left.y) int_cmp_total)))

runs_ranked : IsStrictWeakOrder run_before
runs_ranked = ranks_by by-order (λ r. r)

-- no run comes before one that stands ahead of it
abbrev AreRising : List Run → Type 0
AreRising runs = (i j : ℕ) (d : Run) → i ≤ j → j < length runs → run_before (get_or runs j d) (get_or runs i d) ≡ false

from-rising : (runs : List Run) → All IsRun runs → AreRising runs → AreInOrder runs
from-rising [] h up = tt
from-rising (r ∷ rs) h up = (
  All-head IsRun r rs h,
  recursion_from_All (λ s. run_before s r ≡ false) rs (λ k d l. up 0 (suc k) d (omega arith) (omega arith)),
  from-rising rs (All-tail IsRun r rs h) (λ i j d l m. up (suc i) (suc j) d (omega arith) (omega arith)),
)

pub in-order : (runs : List Run) → All IsRun runs → IsSortedBy run_before runs → AreInOrder runs
in-order runs h up = from-rising runs h (sorted_far run_before runs_ranked runs up)

-- ---- runs that are sorted by their keys
then-joined : (a b c : Ordering) → ordering_then (ordering_then a b) c ≡ ordering_then a (ordering_then b c)
then-joined Less b c = refl
then-joined Equal b c = refl
then-joined Greater b c = refl

-- the order of keys, as tuples have it
abbrev pub tuple_cmp : ℤ × ℤ × ℤ × ℤ → ℤ × ℤ × ℤ × ℤ → Ordering
tuple_cmp k l = ordering_then (ordering_then (ordering_then (int_cmp k.0 l.0) (int_cmp k.1 l.1)) (int_cmp k.2 l.2)) (int_cmp k.3 l.3)

same-order : (r s : Run) → tuple_cmp (key_of r) (key_of s) ≡ run_cmp r s
same-order r s =
    then-joined (ordering_then (int_cmp r.slope s.slope) (int_cmp r.height s.height)) (int_cmp r.left.x s.left.x) (int_cmp r.left.y s.left.y)
    ∙ then-joined (int_cmp r.slope s.slope) (int_cmp r.height s.height) (ordering_then (int_cmp r.left.x s.left.x) (int_cmp r.left.y s.left.y))

pub sorted-by_keys : (runs : List Run) → IsSortedByKey key_of tuple_cmp runs → IsSortedBy run_before runs
sorted-by_keys runs up k d l m = ap is_lt (sym (same-order (get_or runs (k + 1) d) (get_or runs k d))) ∙ up k d l m
