-- Members of lists that are made of others, and tests of members and of two members.
use Rattle.std.proofs.Common.{◌≡◌, refl, ap, sym, ◌∙◌, subst, ℕ, ◌+◌, Bool, true, ◌||◌, cond, List, [], ◌∷◌, map, inl, inr}
use Rattle.std.specs.List.{AllByRecursion, count_by, enumerate_from, flat_map, list_any}
use Rattle.std.proofs.lemmas.Bool.{false≢true, or_cases, or_left, or_right}
use Rattle.std.proofs.lemmas.List.Sums.{sum_by-cons}
use Rattle.sf_slabs.proofs.CallerLemmas.{each-append, each-map, each-parts}
use Rattle.sf_plane.proofs.CoverLaws.{in_append_left, in_append_right}
use Rattle.sf_plane.proofs.PlaceLaws.{IsIn}
use Rattle.sf_valid_rules.specs.Conditions.{any_two}

-- ---- members
pub in_map : {A B : Type 0} (f : A → B) (xs : List A) (x : A) → IsIn xs x → IsIn (map f xs) (f x)
in_map f [] x i = absurd i
in_map f (y ∷ xs) x i = elim i [ inl here ↦ inl (ap f here) | inr later ↦ inr (in_map f xs x later) ]

pub in_flat_map : {A B : Type 0} (f : A → List B) (xs : List A) (x : A) (y : B) → IsIn xs x → IsIn (f x) y → IsIn (flat_map f xs) y
in_flat_map f [] x y i j = absurd i
in_flat_map f (z ∷ xs) x y i j =
    elim i [
      | inl here ↦ in_append_left (f z) (flat_map f xs) y (subst (λ w. IsIn (f w) y) (sym here) j)
      | inr later ↦ in_append_right (f z) (flat_map f xs) y (in_flat_map f xs x y later j)
    ]

-- ---- what each member has
pub each-in : {A : Type 0} (P : A → Type 0) (xs : List A) → AllByRecursion P xs → (x : A) → IsIn xs x → P x
each-in P [] h x i = absurd i
each-in P (y ∷ xs) h x i = elim i [ inl here ↦ subst P here h.0 | inr later ↦ each-in P xs h.1 x later ]

pub each-from_in : {A : Type 0} (P : A → Type 0) (xs : List A) → ((x : A) → IsIn xs x → P x) → AllByRecursion P xs
each-from_in P [] f = tt
each-from_in P (x ∷ xs) f = (f x (inl refl), each-from_in P xs (λ y i. f y (inr i)))

pub each-of_map : {A B : Type 0} (P : B → Type 0) (f : A → B) (xs : List A) → AllByRecursion P (map f xs) → AllByRecursion (λ x. P (f x)) xs
each-of_map P f [] h = tt
each-of_map P f (x ∷ xs) h = (h.0, each-of_map P f xs h.1)

pub each-to_map : {A B : Type 0} (P : B → Type 0) (f : A → B) (xs : List A) → AllByRecursion (λ x. P (f x)) xs → AllByRecursion P (map f xs)
each-to_map P f [] h = tt
each-to_map P f (x ∷ xs) h = (h.0, each-to_map P f xs h.1)

pub each-of_flat : {A B : Type 0} (P : B → Type 0) (f : A → List B) (xs : List A) → AllByRecursion P (flat_map f xs) → AllByRecursion (λ x. AllByRecursion P (f x)) xs
each-of_flat P f [] h = tt
each-of_flat P f (x ∷ xs) h = let parts = each-parts P (f x) (flat_map f xs) h in (parts.0, each-of_flat P f xs parts.1)

pub each-to_flat : {A B : Type 0} (P : B → Type 0) (f : A → List B) (xs : List A) → AllByRecursion (λ x. AllByRecursion P (f x)) xs → AllByRecursion P (flat_map f xs)
each-to_flat P f [] h = tt
each-to_flat P f (x ∷ xs) h = each-append P (f x) (flat_map f xs) h.0 (each-to_flat P f xs h.1)

pub each-numbered : {A : Type 0} (P : A → Type 0) (k : ℕ) (xs : List A) → AllByRecursion P xs → AllByRecursion (λ (n : ℕ × A). P n.1) (enumerate_from k xs)
each-numbered P k [] h = tt
each-numbered P k (x ∷ xs) h = (h.0, each-numbered P (k + 1) xs h.1)

-- ---- tests that agree at each member
pub any-same : {A : Type 0} (f g : A → Bool) (xs : List A) → AllByRecursion (λ x. f x ≡ g x) xs → list_any f xs ≡ list_any g xs
any-same f g [] h = refl
any-same f g (x ∷ xs) h = ap (λ b. b || list_any f xs) h.0 ∙ ap (λ b. g x || b) (any-same f g xs h.1)

pub count-same : {A : Type 0} (f g : A → Bool) (xs : List A) → AllByRecursion (λ x. f x ≡ g x) xs → count_by f xs ≡ count_by g xs
count-same f g [] h = refl
count-same f g (x ∷ xs) h =
    sum_by-cons (λ y. cond (f y) 1 0) x xs
    ∙ ap (λ b. cond b 1 0 + count_by f xs) h.0
    ∙ ap (λ n. cond (g x) 1 0 + n) (count-same f g xs h.1)
    ∙ sym (sum_by-cons (λ y. cond (g y) 1 0) x xs)

pub any_two-same : {A : Type 0} (P : A → Type 0) (f g : A → A → Bool) (xs : List A) → ((x y : A) → P x → P y → f x y ≡ g x y) → AllByRecursion P xs → any_two f xs ≡ any_two g xs
any_two-same P f g [] same h = refl
any_two-same P f g (x ∷ xs) same h =
    ap (λ b. b || any_two f xs) (any-same (f x) (g x) xs (each-map P (λ y. f x y ≡ g x y) xs (λ y k. same x y h.0 k) h.1))
    ∙ ap (λ b. list_any (g x) xs || b) (any_two-same P f g xs same h.1)

-- ---- the member, or the two members, that pass a test
pub record HasOne {A : Type 0} (test : A → Bool) (xs : List A) : Type 0 where
  pub one : A
  pub among : IsIn xs one
  pub passes : test one ≡ true

pub any-one : {A : Type 0} (test : A → Bool) (xs : List A) → list_any test xs ≡ true → HasOne test xs
any-one test [] h = absurd (false≢true h)
any-one test (x ∷ xs) h =
    elim (or_cases (test x) (list_any test xs) h) [
      | inl here ↦ record { one = x; among = inl refl; passes = here }
      | inr later ↦ let rest = any-one test xs later in record { one = rest.one; among = inr rest.among; passes = rest.passes }
    ]

pub one-any : {A : Type 0} (test : A → Bool) (xs : List A) (x : A) → IsIn xs x → test x ≡ true → list_any test xs ≡ true
one-any test [] x i h = absurd i
one-any test (y ∷ xs) x i h =
    elim i [
      | inl here ↦ or_left (test y) (list_any test xs) (ap test here ∙ h)
      | inr later ↦ or_right (test y) (list_any test xs) (one-any test xs x later h)
    ]

-- whatever other test they pass, some two members pass it
pub record HasTwo {A : Type 0} (test : A → A → Bool) (xs : List A) : Type 0 where
  pub first : A
  pub second : A
  pub first_among : IsIn xs first
  pub second_among : IsIn xs second
  pub passes : test first second ≡ true
  pub tells : (other : A → A → Bool) → other first second ≡ true → any_two other xs ≡ true

pub any-two : {A : Type 0} (test : A → A → Bool) (xs : List A) → any_two test xs ≡ true → HasTwo test xs
any-two test [] h = absurd (false≢true h)
any-two test (x ∷ xs) h =
    elim (or_cases (list_any (test x) xs) (any_two test xs) h) [
      | inl here ↦
          let other = any-one (test x) xs here in
          record {
            first = x;
            second = other.one;
            first_among = inl refl;
            second_among = inr other.among;
            passes = other.passes;
            tells = λ t k. or_left (list_any (t x) xs) (any_two t xs) (one-any (t x) xs other.one other.among k);
          }
      | inr later ↦
          let rest = any-two test xs later in
          record {
            first = rest.first;
            second = rest.second;
            first_among = inr rest.first_among;
            second_among = inr rest.second_among;
            passes = rest.passes;
            tells = λ t k. or_right (list_any (t x) xs) (any_two t xs) (rest.tells t k);
          }
    ]
