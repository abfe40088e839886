-- Members cut into parts of 4 to 8.
use Rattle.std.specs.Prelude.{◌≡◌, ℕ, ◌+◌, ◌-◌, ◌*◌, ◌/◌, ◌%◌, ◌<◌, ◌≤◌}
use Rattle.std.specs.Int.{div_ceil}
use Rattle.std.proofs.Common.{arith, sym, subst, zero, suc, inl, inr}
use Rattle.std.proofs.Math.Nat.{div-le_of_le-mul, le-div_iff_mul-le, mul-le-mul_left, suc-mul}
use Rattle.std.proofs.lemmas.Bool.{cases_lt}
use Rattle.sf_rtree.specs.Levels.{CanPart, IsPart}

few-left : (p q r n : ℕ) → suc p * q + r ≡ n → r ≤ p → n ≤ 8 * suc p → n - q ≤ 8 * p
few-left p q r n is low few = elim (cases_lt q 8) [
  | inl h ↦ (let b : q ≤ 7 = omega arith in omega (arith, is, low, suc-mul p q, mul-le-mul_left p b))
  | inr h ↦ omega (arith, h, few)
]

left : (p q r n : ℕ) → suc p * q + r ≡ n → r ≤ p → 4 ≤ q → n ≤ 8 * suc p → CanPart p (n - q)
left p q r n is low enough few =
    record { enough = omega (arith, is, suc-mul p q, mul-le-mul_left p enough); few = few-left p q r n is low few }

pub part-size : (n p : ℕ) → 1 ≤ p → CanPart p n → IsPart (n / p)
part-size n p some can =
    record { enough = (le-div_iff_mul-le some).1 can.enough; few = div-le_of_le-mul p (omega (arith, can.few)) }

pub part-left : (n p m : ℕ) → 1 ≤ p → CanPart p n → m ≡ n - n / p → CanPart (p - 1) m
part-left n zero m some can is = absurd (omega (arith, some))
part-left n (suc p) m some can is =
    let e : p ≡ suc p - 1 = omega arith in
    let size = part-size n (suc p) some can in
    let whole : suc p * (n / suc p) + n % suc p ≡ n = omega arith in
    let low : n % suc p ≤ p = omega arith in
    subst (CanPart (suc p - 1)) (sym is) (subst (λ k. CanPart k (n - n / suc p)) e (left p (n / suc p) (n % suc p) n whole low size.enough can.few))

-- one part for each 8 members, or fewer in the last
pub record IsCount (n p : ℕ) : Type 0 where
  pub some : 2 ≤ p
  pub fewer : p < n
  pub can : CanPart p n

pub count : (n p : ℕ) → 8 < n → p ≡ div_ceil n 8 → IsCount n p
count n p many is = record {
  some = omega arith;
  fewer = omega arith;
  can = record { enough = omega arith; few = omega arith };
}
