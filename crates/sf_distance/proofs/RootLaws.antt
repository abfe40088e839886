-- A power of two above the root of a number, by how many bits the number has.
use Rattle.std.proofs.Common.{◌≡◌, ℕ, suc, zero, sym, subst, ◌+◌, ◌-◌, ◌*◌, ◌/◌, ◌%◌, ◌^◌, ◌<◌, ◌≤◌, arith, inl, inr}
use Rattle.std.proofs.lemmas.Bool.{cases_lt}
use Rattle.std.proofs.lemmas.Nat.{leading_length, pow-add}
use Rattle.std.proofs.lemmas.Grind.{pow_more}
use Rattle.std.proofs.Math.Nat.{pow-le-pow_right}
use lib.Count.{count_leading_zeros}

-- h bits are half of those of n, rounded up
pub record IsHalf (n h : ℕ) : Type 0 where
  pub few : h ≤ 63
  pub above : n < 2 ^ h * 2 ^ h
  pub half : 2 ^ h / 2 * (2 ^ h / 2) ≤ n

above_from : (n m h : ℕ) → n < 2 ^ m → m ≤ h + h → n < 2 ^ h * 2 ^ h
above_from n m h l k =
    let more : 2 ^ m ≤ 2 ^ (h + h) = pow-le-pow_right (omega arith) k in
    subst (λ z. n < z) (pow-add 2 h h) (omega (arith, more))

halved : (h : ℕ) → 2 ^ (h + 1) / 2 ≡ 2 ^ h
halved h = omega (arith, pow_more 2 h)

half_of : (n m h : ℕ) → 2 ^ m ≤ 2 * n + 1 → h + h + 1 ≤ m → 2 ^ h * 2 ^ h ≤ n
half_of n m h l k =
    let more : 2 ^ (h + h + 1) ≤ 2 ^ m = pow-le-pow_right (omega arith) k in
    let twice : 2 ^ (h + h + 1) ≡ 2 ^ (h + h) * 2 = pow_more 2 (h + h) in
    subst (λ z. z ≤ n) (pow-add 2 h h) (omega (arith, more, twice))

half_from : (n m h : ℕ) → 2 ^ m ≤ 2 * n + 1 → h + h ≤ m + 1 → 2 ^ h / 2 * (2 ^ h / 2) ≤ n
half_from n m zero l k = omega arith
half_from n m (suc h) l k =
    let is : suc h ≡ h + 1 = omega arith in
    subst (λ j. 2 ^ j / 2 * (2 ^ j / 2) ≤ n) (sym is) (subst (λ z. z * z ≤ n) (sym (halved h)) (half_of n m h l (omega arith)))

few_bits : (n m : ℕ) → n < 2 ^ 126 → 2 ^ m ≤ 2 * n + 1 → m ≤ 126
few_bits n m small l =
    elim (cases_lt 126 m) [
      | inr h ↦ h
      | inl h ↦ let more : 2 ^ 127 ≤ 2 ^ m = pow-le-pow_right (omega arith) h in absurd (omega (arith, more))
    ]

pub is_half : (n : ℕ) → n < 2 ^ 126 → IsHalf n ((128 - count_leading_zeros 128 n + 1) / 2)
is_half n small =
    let length = leading_length 128 n (omega arith) in
    let m = length.0 in
    let bits : 128 - count_leading_zeros 128 n ≡ m = omega (arith, length.1) in
    subst (λ (b : ℕ). IsHalf n ((b + 1) / 2)) (sym bits)
    (record {
      few = omega (arith, few_bits n m small length.3);
      above = above_from n m ((m + 1) / 2) length.2 (omega arith);
      half = half_from n m ((m + 1) / 2) length.3 (omega arith);
    })

-- 1, shifted by so many bits
pub shifted : (h : ℕ) → h ≤ 63 → 1 * 2 ^ h % 18446744073709551616 ≡ 2 ^ h
shifted h few =
    let small : 2 ^ h ≤ 2 ^ 63 = pow-le-pow_right (omega arith) few in
    omega (arith, small)
