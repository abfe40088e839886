-- What turns say of the sides on which points are.
use Rattle.std.proofs.Common.{◌≡◌, ℤ, pos, arith, true, false, ◌&&◌, ◌||◌}
use Rattle.std.specs.Prelude.{int_lt}
use Rattle.std.specs.Ordering.{int_cmp}
use Rattle.std.proofs.lemmas.Bool.{and_left, and_right, false_from_ne_true, or_from}
use Rattle.std.proofs.lemmas.Int.{ints}
use Rattle.sf_grid.specs.declared.turn.Turn.TheVariants.{Left, Right}
use Rattle.sf_grid.specs.Sharing.{turn_by}

-- points that are to the left, and not to the right
not-right : (s : ℤ) → turn_by (int_cmp (pos 0) s) ≡ Left → int_lt s (pos 0) ≡ false
not-right s h = grind (arith, ints)

is-right : (t : ℤ) → int_lt t (pos 0) ≡ true → turn_by (int_cmp (pos 0) t) ≡ Right
is-right t h = grind (arith, ints)

pub left-alone : (s t : ℤ) → turn_by (int_cmp (pos 0) s) ≡ Left → (turn_by (int_cmp (pos 0) t) ≡ Right → ⊥) →
    (int_lt s (pos 0) && int_lt (pos 0) t || int_lt (pos 0) s && int_lt t (pos 0)) ≡ false
left-alone s t h n =
    or_from _ _
    (and_left (int_lt s (pos 0)) (int_lt (pos 0) t) (not-right s h))
    (and_right (int_lt (pos 0) s) (int_lt t (pos 0)) (false_from_ne_true (int_lt t (pos 0)) (λ k. n (is-right t k))))
