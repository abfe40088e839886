-- Parities of counts to which the same is added.
use Rattle.std.proofs.Common.{◌≡◌, refl, ap, ◌∙◌, ℕ, ◌+◌, ◌%◌, ◌≤◌, arith, Bool, true, false, ◌&&◌, List, [], ◌∷◌}
use Rattle.std.specs.Prelude.{nat_eq}
use Rattle.sf_cells.specs.Hands.{plus}
use Rattle.sf_classes.specs.Classes.{odds}
use Rattle.sf_grid.specs.EvenOdd.{is_odd}

same-rest : (a b : ℕ) → a ≤ 1 → b ≤ 1 → nat_eq a 1 ≡ nat_eq b 1 → a ≡ b
same-rest a b h k e = grind (arith)

odd-sum : (m n k : ℕ) → is_odd m ≡ is_odd n → is_odd (m + k) ≡ is_odd (n + k)
odd-sum m n k h =
    ap (λ r. nat_eq r 1) (sums m n k (same-rest (m % 2) (n % 2) (below m) (below n) h))
  where
    below : (m : ℕ) → m % 2 ≤ 1
    below m = omega arith

    sums : (m n k : ℕ) → m % 2 ≡ n % 2 → (m + k) % 2 ≡ (n + k) % 2
    sums m n k h = omega arith

and-sum : (a : Bool) (m n k : ℕ) → (a && is_odd m) ≡ (a && is_odd n) → (a && is_odd (m + k)) ≡ (a && is_odd (n + k))
and-sum true m n k h = odd-sum m n k h
and-sum false m n k h = refl

pub odds-plus : (areal : List Bool) (ms ns ks : List ℕ) → odds areal ms ≡ odds areal ns → odds areal (plus ms ks) ≡ odds areal (plus ns ks)
odds-plus [] ms ns ks h = refl
odds-plus (a ∷ areal) [] [] ks h = refl
odds-plus (a ∷ areal) [] (n ∷ ns) ks h = cc
odds-plus (a ∷ areal) (m ∷ ms) [] ks h = cc
odds-plus (a ∷ areal) (m ∷ ms) (n ∷ ns) [] h = h
odds-plus (a ∷ areal) (m ∷ ms) (n ∷ ns) (k ∷ ks) h =
    let first : (a && is_odd m) ≡ (a && is_odd n) = cc in
    let later : odds areal ms ≡ odds areal ns = cc in
    ap (λ b. b ∷ odds areal (plus ms ks)) (and-sum a m n k first)
    ∙ ap (λ bs. (a && is_odd (n + k)) ∷ bs) (odds-plus areal ms ns ks later)
