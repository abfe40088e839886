-- Lines that pass a point: two of them, or one twice, and not all ending there, by how many strands and ends there are.
use Rattle.std.proofs.Common.{◌≡◌, ℕ, zero, suc, ◌+◌, ◌≤◌, ◌<◌, Bool, true, false, ◌&&◌, ◌||◌, not, List, [], ◌∷◌, refl, ap, sym, ◌∙◌, arith, nat_le, nat_lt}
use Rattle.std.proofs.Common.{◌⊎◌, inl, inr}
use Rattle.std.specs.List.{list_any}
use Rattle.std.proofs.Math.Bool.{and-true}
use Rattle.std.proofs.lemmas.Bool.{and_from, and_parts, or_cases, or_left, or_right}
use Rattle.sf_grid.proofs.CallerLemmas.{same_tests}
use Rattle.sf_valid_rules.specs.Conditions.{any_two}
use Rattle.sf_strands.proofs.ChainLaws.{bit, le-test, test-le}
use Rattle.sf_strands.proofs.NumberedLaws.{any-same}

-- a line at a point: how many strands of it are there, and whether it ends there
pub record Pass : Type 0 where
  pub strands : ℕ
  pub ends : Bool

-- an end is a strand
abbrev pub ArePasses : List Pass → Type 0
ArePasses [] = Unit {0}
ArePasses (x ∷ xs) = (bit x.ends ≤ x.strands) × ArePasses xs

abbrev pub all_strands : List Pass → ℕ
all_strands [] = 0
all_strands (x ∷ xs) = x.strands + all_strands xs

abbrev pub all_ends : List Pass → ℕ
all_ends [] = 0
all_ends (x ∷ xs) = bit x.ends + all_ends xs

abbrev pub passes_twice : Pass → Bool
passes_twice x = nat_le 2 x.strands

abbrev pub is_there : Pass → Bool
is_there x = nat_le 1 x.strands

abbrev pub meet_loose : Pass → Pass → Bool
meet_loose x y = is_there x && is_there y && not (x.ends && y.ends)

-- ---- tests of numbers
pub lt-test : (m n : ℕ) → m < n → nat_lt m n ≡ true
lt-test m n h = grind (arith)

pub test-lt : (m n : ℕ) → nat_lt m n ≡ true → m < n
test-lt m n h = grind (arith)

bit-le : (b : Bool) → bit b ≤ 1
bit-le true = omega arith
bit-le false = omega arith

-- ---- sums over lines
ends-le : (xs : List Pass) → ArePasses xs → all_ends xs ≤ all_strands xs
ends-le [] h = omega arith
ends-le (x ∷ xs) h = omega (arith, h.0, ends-le xs h.1)

any-there : (xs : List Pass) → list_any is_there xs ≡ nat_le 1 (all_strands xs)
any-there [] = refl
any-there (x ∷ xs) = ap (λ t. is_there x || t) (any-there xs) ∙ by x.strands (all_strands xs)
  where
    by : (m n : ℕ) → (nat_le 1 m || nat_le 1 n) ≡ nat_le 1 (m + n)
    by m n = same_tests _ _ (λ h. from (or_cases _ _ h)) back
      where
        from : (nat_le 1 m ≡ true) ⊎ (nat_le 1 n ≡ true) → nat_le 1 (m + n) ≡ true
        from (inl k) = le-test 1 (m + n) (omega (arith, test-le 1 m k))
        from (inr k) = le-test 1 (m + n) (omega (arith, test-le 1 n k))

        back : nat_le 1 (m + n) ≡ true → (nat_le 1 m || nat_le 1 n) ≡ true
        back h = split m n (test-le 1 (m + n) h)
          where
            split : (m n : ℕ) → 1 ≤ m + n → (nat_le 1 m || nat_le 1 n) ≡ true
            split zero n k = or_right (nat_le 1 zero) (nat_le 1 n) (le-test 1 n (omega (arith, k)))
            split (suc m) n k = or_left (nat_le 1 (suc m)) (nat_le 1 n) (le-test 1 (suc m) (omega arith))

-- a line is there that doesn't end there, or one twice, just where there are more strands than ends
abbrev is_loose : Pass → Bool
is_loose x = is_there x && not x.ends

abbrev AnyLoose : List Pass → Type 0
AnyLoose xs = (list_any is_loose xs || list_any passes_twice xs) ≡ nat_lt (all_ends xs) (all_strands xs)

loose-step : (x : Pass) (xs : List Pass) → bit x.ends ≤ x.strands → all_ends xs ≤ all_strands xs → AnyLoose xs → AnyLoose (x ∷ xs)
loose-step x xs own few later = same_tests _ _ (λ t. there (or_cases _ _ t)) back
  where
    by_later : (list_any is_loose xs || list_any passes_twice xs) ≡ true → nat_lt (all_ends (x ∷ xs)) (all_strands (x ∷ xs)) ≡ true
    by_later t = lt-test _ _ (omega (arith, own, test-lt (all_ends xs) (all_strands xs) (sym later ∙ t)))

    by_loose : (e : Bool) → (nat_le 1 x.strands && not e) ≡ true → bit e + all_ends xs < x.strands + all_strands xs
    by_loose true t = absurd (both (nat_le 1 x.strands) t)
      where
        both : (b : Bool) → (b && false) ≡ true → ⊥
        both true k = cc
        both false k = cc
    by_loose false t = omega (arith, few, test-le 1 x.strands ((and_parts _ _ t).0))

    there : (list_any is_loose (x ∷ xs) ≡ true) ⊎ (list_any passes_twice (x ∷ xs) ≡ true) → nat_lt (all_ends (x ∷ xs)) (all_strands (x ∷ xs)) ≡ true
    there (inl t) = loose (or_cases _ _ t)
      where
        loose : (is_loose x ≡ true) ⊎ (list_any is_loose xs ≡ true) → nat_lt (all_ends (x ∷ xs)) (all_strands (x ∷ xs)) ≡ true
        loose (inl k) = lt-test _ _ (by_loose x.ends k)
        loose (inr k) = by_later (or_left _ _ k)
    there (inr t) = twice (or_cases _ _ t)
      where
        twice : (passes_twice x ≡ true) ⊎ (list_any passes_twice xs ≡ true) → nat_lt (all_ends (x ∷ xs)) (all_strands (x ∷ xs)) ≡ true
        twice (inl k) = lt-test _ _ (omega (arith, few, bit-le x.ends, test-le 2 x.strands k))
        twice (inr k) = by_later (or_right _ _ k)

    kept : (list_any is_loose xs || list_any passes_twice xs) ≡ true → (list_any is_loose (x ∷ xs) || list_any passes_twice (x ∷ xs)) ≡ true
    kept t = by (or_cases _ _ t)
      where
        by : (list_any is_loose xs ≡ true) ⊎ (list_any passes_twice xs ≡ true) → (list_any is_loose (x ∷ xs) || list_any passes_twice (x ∷ xs)) ≡ true
        by (inl k) = or_left _ _ (or_right (is_loose x) _ k)
        by (inr k) = or_right _ _ (or_right (passes_twice x) _ k)

    back : nat_lt (all_ends (x ∷ xs)) (all_strands (x ∷ xs)) ≡ true → (list_any is_loose (x ∷ xs) || list_any passes_twice (x ∷ xs)) ≡ true
    back t = by_first x.strands x.ends own (test-lt _ _ t)
      where
        by_first : (s : ℕ) (e : Bool) → bit e ≤ s → bit e + all_ends xs < s + all_strands xs →
            (((nat_le 1 s && not e) || list_any is_loose xs) || (nat_le 2 s || list_any passes_twice xs)) ≡ true
        by_first zero true k l = absurd (omega (arith, k))
        by_first zero false k l = later ∙ lt-test _ _ (omega (arith, l))
        by_first (suc zero) true k l = later ∙ lt-test _ _ (omega (arith, l))
        by_first (suc zero) false k l = refl
        by_first (suc (suc n)) e k l = or_right _ _ (or_left _ _ (le-test 2 (suc (suc n)) (omega arith)))

any-loose : (xs : List Pass) → ArePasses xs → AnyLoose xs
any-loose [] h = refl
any-loose (x ∷ xs) h = loose-step x xs h.0 (ends-le xs h.1) (any-loose xs h.1)

-- ---- the first line against the later ones
any-never : {X : Type 0} (xs : List X) → list_any (λ x. false) xs ≡ false
any-never [] = refl
any-never (x ∷ xs) = any-never xs

-- some line passes twice, or two are there that don't both end there, just where there are two strands, not all ends
abbrev TanglesCounted : List Pass → Type 0
TanglesCounted xs = (list_any passes_twice xs || any_two meet_loose xs) ≡ (nat_le 2 (all_strands xs) && nat_lt (all_ends xs) (all_strands xs))

tangles-step : (x : Pass) (xs : List Pass) → bit x.ends ≤ x.strands → ArePasses xs → TanglesCounted xs → TanglesCounted (x ∷ xs)
tangles-step x xs own h later = by_first x.strands x.ends own
  where
    twice : Bool
    twice = list_any passes_twice xs

    two : Bool
    two = any_two meet_loose xs

    strands : ℕ
    strands = all_strands xs

    ends : ℕ
    ends = all_ends xs

    few : ends ≤ strands
    few = ends-le xs h

    enough : (twice || two) ≡ true → (2 ≤ strands) × (ends < strands)
    enough t =
        let parts = and_parts _ _ (sym later ∙ t) in
        (test-le 2 strands parts.0, test-lt ends strands parts.1)

    at_twice : twice ≡ true → (2 ≤ strands) × (ends < strands)
    at_twice t = enough (or_left _ _ t)

    at_two : two ≡ true → (2 ≤ strands) × (ends < strands)
    at_two t = enough (or_right _ _ t)

    passed : (m n : ℕ) → 2 ≤ n → m < n → (nat_le 2 n && nat_lt m n) ≡ true
    passed m n k l = and_from _ _ (le-test 2 n k) (lt-test m n l)

    by_first : (s : ℕ) (e : Bool) → bit e ≤ s →
        ((nat_le 2 s || twice) || (list_any (λ y. nat_le 1 s && is_there y && not (e && y.ends)) xs || two))
        ≡ (nat_le 2 (s + strands) && nat_lt (bit e + ends) (s + strands))
    by_first zero true k = absurd (omega (arith, k))
    by_first zero false k =
        ap (λ t. twice || (t || two)) (any-never xs)
        ∙ later
        ∙ ap (λ n. nat_le 2 n && nat_lt ends n) (plus strands)
        ∙ ap (λ n. nat_le 2 (0 + strands) && nat_lt n (0 + strands)) (plus ends)
      where
        plus : (n : ℕ) → n ≡ 0 + n
        plus n = omega arith
    by_first (suc zero) false k =
        ap (λ t. twice || (t || two)) (any-same (λ y. is_there y && true) is_there (λ y. and-true (is_there y)) xs ∙ any-there xs)
        ∙ same_tests _ _ (λ t. there (or_cases _ _ t)) back
      where
        met : (nat_le 1 strands ≡ true) ⊎ (two ≡ true) → (nat_le 2 (1 + strands) && nat_lt (0 + ends) (1 + strands)) ≡ true
        met (inl t) = passed (0 + ends) (1 + strands) (omega (arith, test-le 1 strands t)) (omega (arith, few))
        met (inr t) = passed (0 + ends) (1 + strands) (omega (arith, (at_two t).0)) (omega (arith, few))

        there : (twice ≡ true) ⊎ ((nat_le 1 strands || two) ≡ true) → (nat_le 2 (1 + strands) && nat_lt (0 + ends) (1 + strands)) ≡ true
        there (inl t) = passed (0 + ends) (1 + strands) (omega (arith, (at_twice t).0)) (omega (arith, few))
        there (inr t) = met (or_cases _ _ t)

        back : (nat_le 2 (1 + strands) && nat_lt (0 + ends) (1 + strands)) ≡ true → (twice || (nat_le 1 strands || two)) ≡ true
        back t = or_right twice _ (or_left _ two (le-test 1 strands (omega (arith, test-le 2 (1 + strands) (and_parts _ _ t).0))))
    by_first (suc zero) true k = same_tests _ _ (λ t. there (or_cases _ _ t)) back
      where
        loose : Bool
        loose = list_any is_loose xs

        some : (loose || twice) ≡ nat_lt ends strands
        some = any-loose xs h

        more : ends < strands → (nat_le 2 (1 + strands) && nat_lt (1 + ends) (1 + strands)) ≡ true
        more t = passed (1 + ends) (1 + strands) (omega (arith, t)) (omega (arith, t))

        met : (loose ≡ true) ⊎ (two ≡ true) → (nat_le 2 (1 + strands) && nat_lt (1 + ends) (1 + strands)) ≡ true
        met (inl t) = more (test-lt ends strands (sym some ∙ or_left _ _ t))
        met (inr t) = more (at_two t).1

        there : (twice ≡ true) ⊎ ((loose || two) ≡ true) → (nat_le 2 (1 + strands) && nat_lt (1 + ends) (1 + strands)) ≡ true
        there (inl t) = more (at_twice t).1
        there (inr t) = met (or_cases _ _ t)

        found : (loose ≡ true) ⊎ (twice ≡ true) → (twice || (loose || two)) ≡ true
        found (inl t) = or_right twice _ (or_left loose two t)
        found (inr t) = or_left twice _ t

        back : (nat_le 2 (1 + strands) && nat_lt (1 + ends) (1 + strands)) ≡ true → (twice || (loose || two)) ≡ true
        back t = found (or_cases _ _ (some ∙ lt-test ends strands (omega (arith, test-lt (1 + ends) (1 + strands) (and_parts _ _ t).1))))
    by_first (suc (suc n)) e k =
        or_left _ _ (or_left _ twice (le-test 2 (suc (suc n)) (omega arith)))
        ∙ sym (passed (bit e + ends) (suc (suc n) + strands) (omega arith) (omega (arith, few, bit-le e)))

pub tangles-counted : (xs : List Pass) → ArePasses xs → TanglesCounted xs
tangles-counted [] h = refl
tangles-counted (x ∷ xs) h = tangles-step x xs h.0 h.1 (tangles-counted xs h.1)
