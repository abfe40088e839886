-- Tests and counts over lists: some member passes, two members pass, an odd number of them does.
use Rattle.std.proofs.Common.{◌≡◌, ℕ, zero, suc, ◌+◌, ◌<◌, arith, refl, ap, sym, ◌∙◌, Bool, true, false, cond, ◌&&◌, ◌||◌, not, List, [], ◌∷◌, ◌++◌, map, length, nat_le, nat_lt, slice_index_or, inl, inr}
use Rattle.std.specs.List.{AllByRecursion, Contains, count_by, flat_map, list_any}
use Rattle.std.proofs.lemmas.Bool.{both_ways, or_cases}
use Rattle.std.proofs.lemmas.List.Sums.{sum_by-append, sum_by-cons}
use Rattle.sf_grid.specs.EvenOdd.{is_odd}
use Rattle.sf_slabs.proofs.CallerLemmas.{each-map}
use Rattle.sf_valid_rules.specs.Conditions.{any_two}

-- ---- truth values
pub or-none : (b : Bool) → (b || false) ≡ b
or-none true = refl
or-none false = refl

pub or-right : (a b : Bool) → b ≡ true → (a || b) ≡ true
or-right true b h = refl
or-right false b h = h

pub or-more : (a b c : Bool) → (a || b || c) ≡ (a || (b || c))
or-more true b c = refl
or-more false b c = refl

pub or-neither : (a b : Bool) → (a || b) ≡ false → (a ≡ false) × (b ≡ false)
or-neither true b h = absurd (both_ways true h refl)
or-neither false b h = (refl, h)

pub and-none : (b : Bool) → (b && false) ≡ false
and-none true = refl
and-none false = refl

or-middle : (a b c d : Bool) → ((a || b) || (c || d)) ≡ ((a || c) || (b || d))
or-middle true b c d = refl
or-middle false true true d = refl
or-middle false true false d = refl
or-middle false false c d = refl

or-spread : (a b c d e : Bool) → ((a || b) || (c || (d || e))) ≡ ((a || c) || ((b || d) || e))
or-spread true b c d e = refl
or-spread false true true d e = refl
or-spread false true false d e = refl
or-spread false false true d e = refl
or-spread false false false d e = refl

or-end : (a b c d : Bool) → (a || (b || (c || d))) ≡ ((a || c) || (b || d))
or-end true b c d = refl
or-end false true true d = refl
or-end false true false d = refl
or-end false false c d = refl

-- ---- some member passes
pub any-same : {A : Type 0} (t u : A → Bool) (xs : List A) → ((x : A) → t x ≡ u x) → list_any t xs ≡ list_any u xs
any-same t u [] f = refl
any-same t u (x ∷ xs) f = ap (λ b. b || list_any t xs) (f x) ∙ ap (λ b. u x || b) (any-same t u xs f)

pub any-none : {A : Type 0} (t : A → Bool) (xs : List A) → AllByRecursion (λ x. t x ≡ false) xs → list_any t xs ≡ false
any-none t [] h = refl
any-none t (x ∷ xs) h = ap (λ b. b || list_any t xs) h.0 ∙ any-none t xs h.1

pub any-never : {A : Type 0} (xs : List A) → list_any (λ x. false) xs ≡ false
any-never [] = refl
any-never (x ∷ xs) = any-never xs

pub any-append : {A : Type 0} (t : A → Bool) (xs ys : List A) → list_any t (xs ++ ys) ≡ (list_any t xs || list_any t ys)
any-append t [] ys = refl
any-append t (x ∷ xs) ys = ap (λ b. t x || b) (any-append t xs ys) ∙ sym (or-more (t x) (list_any t xs) (list_any t ys))

pub any-map : {A B : Type 0} (t : B → Bool) (f : A → B) (xs : List A) → list_any t (map f xs) ≡ list_any (λ x. t (f x)) xs
any-map t f [] = refl
any-map t f (x ∷ xs) = ap (λ b. t (f x) || b) (any-map t f xs)

pub any-flat : {A B : Type 0} (t : B → Bool) (f : A → List B) (xs : List A) → list_any t (flat_map f xs) ≡ list_any (λ x. list_any t (f x)) xs
any-flat t f [] = refl
any-flat t f (x ∷ xs) = any-append t (f x) (flat_map f xs) ∙ ap (λ b. list_any t (f x) || b) (any-flat t f xs)

pub any-and : {A : Type 0} (b : Bool) (t : A → Bool) (xs : List A) → list_any (λ x. b && t x) xs ≡ (b && list_any t xs)
any-and true t xs = refl
any-and false t xs = any-never xs

any-or : {A : Type 0} (t u : A → Bool) (xs : List A) → list_any (λ x. t x || u x) xs ≡ (list_any t xs || list_any u xs)
any-or t u [] = refl
any-or t u (x ∷ xs) = ap (λ b. t x || u x || b) (any-or t u xs) ∙ or-middle (t x) (u x) (list_any t xs) (list_any u xs)

any-swap : {A B : Type 0} (t : A → B → Bool) (xs : List A) (ys : List B) → list_any (λ x. list_any (t x) ys) xs ≡ list_any (λ y. list_any (λ x. t x y) xs) ys
any-swap t [] ys = sym (any-never ys)
any-swap t (x ∷ xs) ys =
    ap (λ b. list_any (t x) ys || b) (any-swap t xs ys) ∙ sym (any-or (t x) (λ y. list_any (λ z. t z y) xs) ys)

-- a member that passes, and what it has
pub record OneOf {A : Type 0} (P : A → Type 0) (t : A → Bool) (xs : List A) : Type 0 where
  pub member : A
  pub has : P member
  pub passes : t member ≡ true
  pub back : (u : A → Bool) → u member ≡ true → list_any u xs ≡ true

pub one-of : {A : Type 0} (P : A → Type 0) (t : A → Bool) (xs : List A) → AllByRecursion P xs → list_any t xs ≡ true → OneOf P t xs
one-of P t [] h k = absurd (both_ways false refl k)
one-of P t (x ∷ xs) h k =
    elim (or_cases (t x) (list_any t xs) k) [
      | inl here ↦ record { member = x; has = h.0; passes = here; back = λ u m. ap (λ b. b || list_any u xs) m }
      | inr later ↦
          let o = one-of P t xs h.1 later in
          record { member = o.member; has = o.has; passes = o.passes; back = λ u m. or-right (u x) (list_any u xs) (o.back u m) }
    ]

-- the member at a place passes
pub any-at : {A : Type 0} (t : A → Bool) (xs : List A) (k : ℕ) (x : A) → k < length xs → slice_index_or xs k x ≡ x → t x ≡ true → list_any t xs ≡ true
any-at t [] k x l e h = absurd (omega (arith, l))
any-at t (y ∷ ys) zero x l e h = ap (λ b. b || list_any t ys) (ap t e ∙ h)
any-at t (y ∷ ys) (suc k) x l e h = or-right (t y) (list_any t ys) (any-at t ys k x (omega (arith, l)) e h)

-- each member of a list is among its members
pub each-among : {A : Type 0} (xs : List A) → AllByRecursion (Contains xs) xs
each-among [] = tt
each-among (x ∷ xs) = ((0, first (length xs), refl), each-map (Contains xs) (Contains (x ∷ xs)) xs (λ y h. (suc h.0, next h.0 (length xs) h.1, h.2)) (each-among xs))
  where
    first : (n : ℕ) → 0 < suc n
    first n = omega arith

    next : (k n : ℕ) → k < n → suc k < suc n
    next k n h = omega (arith, h)

-- ---- two members pass
two-append : {A : Type 0} (t : A → A → Bool) (xs ys : List A) →
    any_two t (xs ++ ys) ≡ (any_two t xs || (list_any (λ x. list_any (t x) ys) xs || any_two t ys))
two-append t [] ys = refl
two-append t (x ∷ xs) ys =
    ap (λ b. b || any_two t (xs ++ ys)) (any-append (t x) xs ys)
    ∙ ap (λ b. (list_any (t x) xs || list_any (t x) ys) || b) (two-append t xs ys)
    ∙ or-spread (list_any (t x) xs) (list_any (t x) ys) (any_two t xs) (list_any (λ z. list_any (t z) ys) xs) (any_two t ys)

-- of lists one after another: two of one list, or of two lists
pub two-flat : {A B : Type 0} (t : B → B → Bool) (f : A → List B) (xs : List A) →
    any_two t (flat_map f xs) ≡ (list_any (λ x. any_two t (f x)) xs || any_two (λ x y. list_any (λ a. list_any (t a) (f y)) (f x)) xs)
two-flat t f [] = refl
two-flat t f (x ∷ xs) =
    two-append t (f x) (flat_map f xs)
    ∙ ap (λ b. any_two t (f x) || (b || any_two t (flat_map f xs)))
    (any-same (λ a. list_any (t a) (flat_map f xs)) (λ a. list_any (λ y. list_any (t a) (f y)) xs) (f x) (λ a. any-flat (t a) f xs)
    ∙ any-swap (λ a y. list_any (t a) (f y)) (f x) xs)
    ∙ ap (λ b. any_two t (f x) || (list_any (λ y. list_any (λ a. list_any (t a) (f y)) (f x)) xs || b)) (two-flat t f xs)
    ∙ or-end (any_two t (f x)) (list_any (λ y. list_any (λ a. list_any (t a) (f y)) (f x)) xs) (list_any (λ z. any_two t (f z)) xs)
    (any_two (λ z y. list_any (λ a. list_any (t a) (f y)) (f z)) xs)

pub two-map : {A B : Type 0} (t : B → B → Bool) (f : A → B) (xs : List A) → any_two t (map f xs) ≡ any_two (λ x y. t (f x) (f y)) xs
two-map t f [] = refl
two-map t f (x ∷ xs) = ap (λ b. b || any_two t (map f xs)) (any-map (t (f x)) f xs) ∙ ap (λ b. list_any (λ y. t (f x) (f y)) xs || b) (two-map t f xs)

-- two members that pass, and what they have
pub record TwoOf {A : Type 0} (P : A → Type 0) (t : A → A → Bool) (xs : List A) : Type 0 where
  pub first : A
  pub second : A
  pub first_has : P first
  pub second_has : P second
  pub passes : t first second ≡ true
  pub back : (u : A → A → Bool) → u first second ≡ true → any_two u xs ≡ true

pub two-of : {A : Type 0} (P : A → Type 0) (t : A → A → Bool) (xs : List A) → AllByRecursion P xs → any_two t xs ≡ true → TwoOf P t xs
two-of P t [] h k = absurd (both_ways false refl k)
two-of P t (x ∷ xs) h k =
    elim (or_cases (list_any (t x) xs) (any_two t xs) k) [
      | inl here ↦
          let o = one-of P (t x) xs h.1 here in
          record {
            first = x;
            second = o.member;
            first_has = h.0;
            second_has = o.has;
            passes = o.passes;
            back = λ u m. ap (λ b. b || any_two u xs) (o.back (u x) m);
          }
      | inr later ↦
          let o = two-of P t xs h.1 later in
          record {
            first = o.first;
            second = o.second;
            first_has = o.first_has;
            second_has = o.second_has;
            passes = o.passes;
            back = λ u m. or-right (list_any (u x) xs) (any_two u xs) (o.back u m);
          }
    ]

-- ---- counts
pub count-cons : {A : Type 0} (t : A → Bool) (x : A) (xs : List A) → count_by t (x ∷ xs) ≡ cond (t x) 1 0 + count_by t xs
count-cons t x xs = sum_by-cons (λ y. cond (t y) 1 0) x xs

zero-more : (n : ℕ) → 0 + n ≡ n
zero-more n = omega arith

pub count-map : {A B : Type 0} (t : B → Bool) (f : A → B) (xs : List A) → count_by t (map f xs) ≡ count_by (λ x. t (f x)) xs
count-map t f [] = refl
count-map t f (x ∷ xs) =
    count-cons t (f x) (map f xs) ∙ ap (λ n. cond (t (f x)) 1 0 + n) (count-map t f xs) ∙ sym (count-cons (λ y. t (f y)) x xs)

pub count-same : {A : Type 0} (t u : A → Bool) (xs : List A) → ((x : A) → t x ≡ u x) → count_by t xs ≡ count_by u xs
count-same t u [] f = refl
count-same t u (x ∷ xs) f =
    count-cons t x xs ∙ ap (λ b. cond b 1 0 + count_by t xs) (f x) ∙ ap (λ n. cond (u x) 1 0 + n) (count-same t u xs f) ∙ sym (count-cons u x xs)

pub count-none : {A : Type 0} (t : A → Bool) (xs : List A) → AllByRecursion (λ x. t x ≡ false) xs → count_by t xs ≡ 0
count-none t [] h = refl
count-none t (x ∷ xs) h = count-cons t x xs ∙ ap (λ b. cond b 1 0 + count_by t xs) h.0 ∙ zero-more (count_by t xs) ∙ count-none t xs h.1

pub count-never : {A : Type 0} (xs : List A) → count_by (λ x. false) xs ≡ 0
count-never [] = refl
count-never (x ∷ xs) = count-cons (λ y. false) x xs ∙ zero-more (count_by (λ y. false) xs) ∙ count-never xs

-- lists one after another, of which each counts as another one
pub count-flat : {A B C : Type 0} (t : B → Bool) (f : A → List B) (u : C → Bool) (g : A → List C) (xs : List A) →
    ((x : A) → count_by t (f x) ≡ count_by u (g x)) → count_by t (flat_map f xs) ≡ count_by u (flat_map g xs)
count-flat t f u g [] h = refl
count-flat t f u g (x ∷ xs) h =
    sum_by-append (λ y. cond (t y) 1 0) (f x) (flat_map f xs)
    ∙ ap (λ n. n + count_by t (flat_map f xs)) (h x)
    ∙ ap (λ n. count_by u (g x) + n) (count-flat t f u g xs h)
    ∙ sym (sum_by-append (λ y. cond (u y) 1 0) (g x) (flat_map g xs))

pub some-count : {A : Type 0} (t : A → Bool) (xs : List A) → nat_lt 0 (count_by t xs) ≡ list_any t xs
some-count t [] = refl
some-count t (x ∷ xs) = ap (nat_lt 0) (count-cons t x xs) ∙ by_test (t x) (some-count t xs)
  where
    one : (n : ℕ) → nat_lt 0 (1 + n) ≡ true
    one n = grind arith

    by_test : (b : Bool) → nat_lt 0 (count_by t xs) ≡ list_any t xs → nat_lt 0 (cond b 1 0 + count_by t xs) ≡ (b || list_any t xs)
    by_test true rest = one (count_by t xs)
    by_test false rest = ap (nat_lt 0) (zero-more (count_by t xs)) ∙ rest

pub two-count : {A : Type 0} (t : A → Bool) (xs : List A) → nat_le 2 (count_by t xs) ≡ any_two (λ x y. t x && t y) xs
two-count t [] = refl
two-count t (x ∷ xs) = ap (nat_le 2) (count-cons t x xs) ∙ by_test (t x) (two-count t xs)
  where
    one : (n : ℕ) → nat_le 2 (1 + n) ≡ (nat_lt 0 n || nat_le 2 n)
    one n = grind arith

    by_test : (b : Bool) → nat_le 2 (count_by t xs) ≡ any_two (λ x y. t x && t y) xs →
        nat_le 2 (cond b 1 0 + count_by t xs) ≡ (list_any (λ y. b && t y) xs || any_two (λ x y. t x && t y) xs)
    by_test true rest = one (count_by t xs) ∙ ap (λ b. b || nat_le 2 (count_by t xs)) (some-count t xs) ∙ ap (λ b. list_any t xs || b) rest
    by_test false rest = ap (nat_le 2) (zero-more (count_by t xs)) ∙ rest ∙ ap (λ b. b || any_two (λ x y. t x && t y) xs) (sym (any-never xs))

-- ---- parities
abbrev pub xor : Bool → Bool → Bool
xor true b = not b
xor false b = b

-- an odd number of them is true
abbrev pub odd_many : List Bool → Bool
odd_many [] = false
odd_many (b ∷ bs) = xor b (odd_many bs)

odd-next : (n : ℕ) → is_odd (1 + n) ≡ not (is_odd n)
odd-next n = grind arith

odd-cons : {A : Type 0} (t : A → Bool) (x : A) (xs : List A) → is_odd (count_by t (x ∷ xs)) ≡ xor (t x) (is_odd (count_by t xs))
odd-cons t x xs = ap is_odd (count-cons t x xs) ∙ by_test (t x)
  where
    by_test : (b : Bool) → is_odd (cond b 1 0 + count_by t xs) ≡ xor b (is_odd (count_by t xs))
    by_test true = odd-next (count_by t xs)
    by_test false = ap is_odd (zero-more (count_by t xs))

xor-more : (a b c : Bool) → xor a (xor b c) ≡ xor (xor a b) c
xor-more true true true = refl
xor-more true true false = refl
xor-more true false c = refl
xor-more false b c = refl

odd-append : {A : Type 0} (t : A → Bool) (xs ys : List A) → is_odd (count_by t (xs ++ ys)) ≡ xor (is_odd (count_by t xs)) (is_odd (count_by t ys))
odd-append t [] ys = refl
odd-append t (x ∷ xs) ys =
    odd-cons t x (xs ++ ys)
    ∙ ap (xor (t x)) (odd-append t xs ys)
    ∙ xor-more (t x) (is_odd (count_by t xs)) (is_odd (count_by t ys))
    ∙ ap (λ b. xor b (is_odd (count_by t ys))) (sym (odd-cons t x xs))

pub odd-flat : {A B : Type 0} (t : B → Bool) (f : A → List B) (xs : List A) → is_odd (count_by t (flat_map f xs)) ≡ odd_many (map (λ x. is_odd (count_by t (f x))) xs)
odd-flat t f [] = refl
odd-flat t f (x ∷ xs) = odd-append t (f x) (flat_map f xs) ∙ ap (xor (is_odd (count_by t (f x)))) (odd-flat t f xs)

pub odd-same : {A : Type 0} (t u : A → Bool) (xs : List A) → ((x : A) → t x ≡ u x) → odd_many (map t xs) ≡ odd_many (map u xs)
odd-same t u [] f = refl
odd-same t u (x ∷ xs) f = ap (λ b. xor b (odd_many (map t xs))) (f x) ∙ ap (xor (u x)) (odd-same t u xs f)

pub odd-none : {A : Type 0} (t : A → Bool) (xs : List A) → AllByRecursion (λ x. t x ≡ false) xs → odd_many (map t xs) ≡ false
odd-none t [] h = refl
odd-none t (x ∷ xs) h = ap (λ b. xor b (odd_many (map t xs))) h.0 ∙ odd-none t xs h.1

pub odd-any : {A : Type 0} (t : A → Bool) (xs : List A) → odd_many (map t xs) ≡ true → list_any t xs ≡ true
odd-any t [] h = h
odd-any t (x ∷ xs) h = by_test (t x) h (odd-any t xs)
  where
    by_test : (b : Bool) → xor b (odd_many (map t xs)) ≡ true → (odd_many (map t xs) ≡ true → list_any t xs ≡ true) → (b || list_any t xs) ≡ true
    by_test true k rest = refl
    by_test false k rest = rest k

pub odd-and : {A : Type 0} (b : Bool) (t : A → Bool) (xs : List A) → odd_many (map (λ x. b && t x) xs) ≡ (b && odd_many (map t xs))
odd-and true t xs = refl
odd-and false t [] = refl
odd-and false t (x ∷ xs) = odd-and false t xs

odd-join : (bs cs : List Bool) → odd_many (bs ++ cs) ≡ xor (odd_many bs) (odd_many cs)
odd-join [] cs = refl
odd-join (b ∷ bs) cs = ap (xor b) (odd-join bs cs) ∙ xor-more b (odd_many bs) (odd_many cs)

pub map-join : {A B : Type 0} (f : A → B) (xs ys : List A) → map f (xs ++ ys) ≡ map f xs ++ map f ys
map-join f [] ys = refl
map-join f (x ∷ xs) ys = ap (λ zs. f x ∷ zs) (map-join f xs ys)

-- an odd number of the members of some lists pass
pub odd-joined : {A B : Type 0} (t : B → Bool) (f : A → List B) (xs : List A) → odd_many (map t (flat_map f xs)) ≡ odd_many (map (λ x. odd_many (map t (f x))) xs)
odd-joined t f [] = refl
odd-joined t f (x ∷ xs) =
    ap odd_many (map-join t (f x) (flat_map f xs)) ∙ odd-join (map t (f x)) (map t (flat_map f xs)) ∙ ap (xor (odd_many (map t (f x)))) (odd-joined t f xs)

pub odd-map : {A B : Type 0} (t : B → Bool) (f : A → B) (xs : List A) → odd_many (map t (map f xs)) ≡ odd_many (map (λ x. t (f x)) xs)
odd-map t f [] = refl
odd-map t f (x ∷ xs) = ap (xor (t (f x))) (odd-map t f xs)

pub odd-never : {A : Type 0} (xs : List A) → odd_many (map (λ x. false) xs) ≡ false
odd-never [] = refl
odd-never (x ∷ xs) = odd-never xs

pub any-follows : {A : Type 0} (t u : A → Bool) (xs : List A) → ((x : A) → t x ≡ true → u x ≡ true) → list_any t xs ≡ true → list_any u xs ≡ true
any-follows t u [] f h = h
any-follows t u (x ∷ xs) f h = by_test (t x) refl (any-follows t u xs f) h
  where
    by_test : (b : Bool) → t x ≡ b → (list_any t xs ≡ true → list_any u xs ≡ true) → (b || list_any t xs) ≡ true → (u x || list_any u xs) ≡ true
    by_test true e rest k = ap (λ c. c || list_any u xs) (f x e)
    by_test false e rest k = or-right (u x) (list_any u xs) (rest k)

pub none-of : {A : Type 0} (t : A → Bool) (xs : List A) → list_any t xs ≡ false → AllByRecursion (λ x. t x ≡ false) xs
none-of t [] h = tt
none-of t (x ∷ xs) h = let parts = or-neither (t x) (list_any t xs) h in (parts.0, none-of t xs parts.1)

pub count-each : {A : Type 0} (t u : A → Bool) (xs : List A) → AllByRecursion (λ x. t x ≡ u x) xs → count_by t xs ≡ count_by u xs
count-each t u [] h = refl
count-each t u (x ∷ xs) h =
    count-cons t x xs ∙ ap (λ b. cond b 1 0 + count_by t xs) h.0 ∙ ap (λ n. cond (u x) 1 0 + n) (count-each t u xs h.1) ∙ sym (count-cons u x xs)
