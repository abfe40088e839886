-- The root that is found bit by bit is the root rounded down, and no other number is.
use Rattle.std.proofs.Common.{◌≡◌, ◌⊎◌, inl, inr, refl, ap, subst, ◌∙◌, ℕ, zero, suc, ◌+◌, ◌*◌, ◌^◌, ◌<◌, ◌≤◌, arith, Bool, true, false}
use Rattle.std.specs.Prelude.{nat_le, if◌then◌else◌}
use Rattle.std.proofs.lemmas.Bool.Decides.{nat_tests}
use Rattle.std.proofs.lemmas.Nat.{mul-le}
use Rattle.std.proofs.Math.Nat.{pow-suc}
use Rattle.sf_grid.specs.Bounds.{cross_bound}
use Rattle.sf_grid.specs.Edge.{Edge}
use Rattle.sf_measure.specs.Laws.{IsRoot}
use Rattle.sf_measure.specs.Lengths.{length_square, parts_of_edge, parts_of_step, root_from, root_of}

le_from : (n m : ℕ) → nat_le n m ≡ true → n ≤ m
le_from n m h = grind (arith, nat_tests)

above_from : (n m : ℕ) → nat_le n m ≡ false → m < n
above_from n m h = grind (arith, nat_tests)

-- the greatest number with so many bits is twice that with one bit less
halved : (r n bits : ℕ) → n < (r + 2 ^ suc bits) * (r + 2 ^ suc bits) → n < ((r + 2 ^ bits) + 2 ^ bits) * ((r + 2 ^ bits) + 2 ^ bits)
halved r n bits h =
    let twice : r + 2 ^ suc bits ≡ (r + 2 ^ bits) + 2 ^ bits = omega (arith, pow-suc 2 bits) in
    subst (λ m. n < m * m) twice h

pub root-found : (bits r n : ℕ) → r * r ≤ n → n < (r + 2 ^ bits) * (r + 2 ^ bits) → IsRoot n (root_from bits r n)
unfolding root_from
root-found zero r n low high = record { below = low; above = high }
root-found (suc bits) r n low high =
    by (nat_le ((r + 2 ^ bits) * (r + 2 ^ bits)) n) refl (λ low. root-found bits (r + 2 ^ bits) n low (halved r n bits high)) (λ high. root-found bits r n low high)
  where
    by : (b : Bool) → nat_le ((r + 2 ^ bits) * (r + 2 ^ bits)) n ≡ b
        → ((r + 2 ^ bits) * (r + 2 ^ bits) ≤ n → IsRoot n (root_from bits (r + 2 ^ bits) n)) → (n < (r + 2 ^ bits) * (r + 2 ^ bits) → IsRoot n (root_from bits r n))
        → IsRoot n (if b then root_from bits (r + 2 ^ bits) n else root_from bits r n)
    by true is upper lower = upper (le_from ((r + 2 ^ bits) * (r + 2 ^ bits)) n is)
    by false is upper lower = lower (above_from ((r + 2 ^ bits) * (r + 2 ^ bits)) n is)

-- of a number below 2^128
pub root-is : (n : ℕ) → n < 2 ^ 128 → IsRoot n (root_of n)
root-is n small = root-found 64 0 n (omega arith) (omega (arith, small))

order : (r s : ℕ) → (s ≤ r) ⊎ (r + 1 ≤ s)
order r zero = inl (omega arith)
order zero (suc s) = inr (omega arith)
order (suc r) (suc s) = further (order r s)
  where
    further : (s ≤ r) ⊎ (r + 1 ≤ s) → (suc s ≤ suc r) ⊎ (suc r + 1 ≤ suc s)
    further (inl h) = inl (omega (arith, h))
    further (inr h) = inr (omega (arith, h))

no_less : (n r s : ℕ) → n < (r + 1) * (r + 1) → s * s ≤ n → s ≤ r
no_less n r s above below = by (order r s)
  where
    by : (s ≤ r) ⊎ (r + 1 ≤ s) → s ≤ r
    by (inl h) = h
    by (inr h) = let squares : (r + 1) * (r + 1) ≤ s * s = mul-le (r + 1) (r + 1) s s h h in absurd (omega (arith, squares, above, below))

-- there is but one root
pub root-one : (n r s : ℕ) → IsRoot n r → IsRoot n s → r ≡ s
root-one n r s is other = omega (arith, no_less n r s is.above other.below, no_less n s r other.above is.below)

-- the root of an edge's square is its length in parts
pub edge-root : (e : Edge) (square r : ℕ) → square ≡ length_square e → square ≤ cross_bound
    → r * r ≤ square * (parts_of_step * parts_of_step) → square * (parts_of_step * parts_of_step) < (r + 1) * (r + 1) → r ≡ parts_of_edge e
edge-root e square r is small below above =
    root-one (square * (parts_of_step * parts_of_step)) r (root_of (square * (parts_of_step * parts_of_step))) (record { below = below; above = above })
    (root-is (square * (parts_of_step * parts_of_step)) (omega (arith, small)))
    ∙ ap (λ n. root_of (n * (parts_of_step * parts_of_step))) is
