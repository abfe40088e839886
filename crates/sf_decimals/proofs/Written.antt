-- Digits put behind a text one by one.
use Rattle.std.proofs.Common.{◌≡◌, ℕ, zero, suc, ◌+◌, ◌-◌, ◌*◌, ◌/◌, ◌%◌, ◌^◌, ◌<◌, ◌≤◌, List, [], ◌∷◌, ◌++◌, sym, ap, subst, ◌∙◌, arith, append_assoc}
use Rattle.std.specs.Fmt.{decimal}
use Rattle.std.proofs.Math.Nat.{pow-suc}
use Rattle.std.proofs.lemmas.Fmt.{decimal_digit}
use Rattle.std.proofs.lemmas.List.{append-nil}
use Rattle.std.proofs.lemmas.Nat.{mod_below, div_below}
use Rattle.sf_decimals.specs.Decimals.{padded}
use Rattle.sf_decimals.proofs.Digits.{pow_some}

one_digit : (n k : ℕ) → n < 10 ^ suc k → decimal (n / 10 ^ k) ≡ (48 + n / 10 ^ k) ∷ []
one_digit n k h =
    let within : n < 10 ^ k * 10 = subst (λ (x : ℕ). n < x) (pow-suc 10 k) h in
    decimal_digit (n / 10 ^ k) (div_below n (10 ^ k) 10 (pow_some k) (omega (arith, within)))

step_at : (before new start : List ℕ) (k n unit : ℕ) → n < 10 ^ suc k → unit ≡ 10 ^ k → new ≡ before ++ decimal (n / unit) → before ++ padded (suc k) n ≡ start → new ++ padded k (n % unit) ≡ start
step_at before new start k n unit small is pushed so_far =
    ap (λ t. t ++ padded k (n % unit)) pushed
    ∙ ap (λ u. (before ++ decimal (n / u)) ++ padded k (n % u)) is
    ∙ ap (λ ds. (before ++ ds) ++ padded k (n % 10 ^ k)) (one_digit n k small)
    ∙ append_assoc before ((48 + n / 10 ^ k) ∷ []) (padded k (n % 10 ^ k))
    ∙ so_far

-- one digit further
pub step : (before new start : List ℕ) (left n unit : ℕ) → 0 < left → n < 10 ^ left → unit ≡ 10 ^ (left - 1) → new ≡ before ++ decimal (n / unit) → before ++ padded left n ≡ start → new ++ padded (left - 1) (n % unit) ≡ start
step before new start zero n unit some small is pushed so_far = absurd (omega (arith, some))
step before new start (suc k) n unit some small is pushed so_far =
    let at : suc k - 1 ≡ k = omega arith in
    ap (λ j. new ++ padded j (n % unit)) at ∙ step_at before new start k n unit small (is ∙ ap (λ j. 10 ^ j) at) pushed so_far

pub step_small : (left n unit : ℕ) → unit ≡ 10 ^ (left - 1) → n % unit < 10 ^ (left - 1)
step_small left n unit is = subst (λ (u : ℕ). n % u < 10 ^ (left - 1)) (sym is) (mod_below n (10 ^ (left - 1)) (pow_some (left - 1)))

pub last_step : (new start : List ℕ) (left n : ℕ) → left ≤ 0 → new ++ padded left n ≡ start → new ≡ start
last_step new start zero n h is = sym (append-nil new) ∙ is
last_step new start (suc k) n h is = absurd (omega (arith, h))
