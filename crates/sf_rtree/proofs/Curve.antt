-- Places on the curve, digit by digit.
use Rattle.std.specs.Prelude.{◌≡◌, ℕ, ◌+◌, ◌-◌, ◌*◌, ◌/◌, ◌%◌, ◌^◌, ◌<◌, ◌≤◌}
use Rattle.std.proofs.Common.{refl, ap, sym, ◌∙◌, arith, add-one, zero, suc, subst}
use Rattle.std.proofs.Math.Nat.{div-div-eq-div-mul, pow-suc, pow-le-pow_right}
use Rattle.sf_rtree.specs.Boxed.{interleaved}

pub interleaved-below : (n x y : ℕ) → interleaved n x y < 4 ^ n
unfolding interleaved
interleaved-below zero x y = omega arith
interleaved-below (suc n) x y =
    omega (arith, pow-suc 4 n, interleaved-below n (x / 2) (y / 2))

-- one digit fewer is left, half the number
pub next-digit : (x k : ℕ) → k < 32 → x / 2 ^ (31 - k) / 2 ≡ x / 2 ^ (32 - k)
next-digit x k h =
    let e : suc (31 - k) ≡ 32 - k = omega arith in
    div-div-eq-div-mul x (2 ^ (31 - k)) 2 ∙ ap (λ p. x / p) (sym (pow-suc 2 (31 - k)) ∙ ap (λ n. 2 ^ n) e)

more-digits : (n x y : ℕ) → interleaved (suc n) x y ≡ interleaved n (x / 2) (y / 2) * 4 + y % 2 * 2 + x % 2
unfolding interleaved
more-digits n x y = refl

with_digits : (x y k place : ℕ) → k < 32 → place ≡ interleaved k (x / 2 ^ (32 - k)) (y / 2 ^ (32 - k))
    → place * 4 + ((y / 2 ^ (31 - k)) % 2 * 2 + (x / 2 ^ (31 - k)) % 2) ≡ interleaved (k + 1) (x / 2 ^ (31 - k)) (y / 2 ^ (31 - k))
with_digits x y k place h is =
    let u = x / 2 ^ (31 - k) in
    let v = y / 2 ^ (31 - k) in
    let e : place ≡ interleaved k (u / 2) (v / 2) =
    is ∙ ap (λ m. interleaved k m (y / 2 ^ (32 - k))) (sym (next-digit x k h)) ∙ ap (λ m. interleaved k (u / 2) m) (sym (next-digit y k h)) in
    omega (arith, e, more-digits k u v, ap (λ n. interleaved n u v) (add-one k))

pub interleaved-step : (x y k place : ℕ) → k < 32 → place ≡ interleaved k (x / 2 ^ (32 - k)) (y / 2 ^ (32 - k))
    → place * 4 + ((y / 2 ^ (31 - k)) % 2 * 2 + (x / 2 ^ (31 - k)) % 2) ≡ interleaved (k + 1) (x / 2 ^ (32 - (k + 1))) (y / 2 ^ (32 - (k + 1)))
interleaved-step x y k place h is =
    let s : 31 - k ≡ 32 - (k + 1) = omega arith in
    subst (λ n. place * 4 + ((y / 2 ^ (31 - k)) % 2 * 2 + (x / 2 ^ (31 - k)) % 2) ≡ interleaved (k + 1) (x / 2 ^ n) (y / 2 ^ n)) s
    (with_digits x y k place h is)

pub interleaved-fits : (n x y place : ℕ) → n < 32 → place ≡ interleaved n x y → place * 4 + 3 < 2 ^ 64
interleaved-fits n x y place h is =
    let p : 4 ^ n ≤ 4 ^ 31 = pow-le-pow_right {n = 4} (omega arith) {i = n} {j = 31} (omega arith) in
    omega (arith, is, interleaved-below n x y, p)
