-- Two lists in one strict order that have the same numbers are equal place by place, as numbers.
use Rattle.std.proofs.Common.{◌≡◌, refl, ap, sym, ◌∙◌, ℤ, pos, ◌*ℤ◌, ◌≤ℤ◌, ◌<ℤ◌, arith, Bool, true, List, [], ◌∷◌, inl, inr}
use Rattle.std.specs.List.{AllByRecursion}
use Rattle.std.proofs.lemmas.Int.{ints}
use Rattle.sf_grid.specs.Fraction.{Fraction, IsFraction, fraction_lt}
use Rattle.sf_grid.proofs.CallerLemmas.{Same, eq_from_mul, le, le_lt, lt_from_test, lt_le, mul, ring, test_from_lt, var}
use Rattle.sf_cells.specs.Samples.{sorted_by}
use Rattle.sf_slabs.proofs.SampleLaws.{Each-sorted_by, Follow, Follow-sorted_by, FollowFrom, Level, Some_of, Some_of-sorted_by, same_number}
use Rattle.sf_slabs.proofs.EachLaws.{each-map}

-- ---- one number written as different fractions
pub Same-trans : (p q r : Fraction) → IsFraction q → Same p q → Same q r → Same p r
Same-trans p q r h e f =
    eq_from_mul (p.num *ℤ pos r.den) (r.num *ℤ pos p.den) q.den h.positive
    (ring (p.num ∷ pos r.den ∷ pos q.den ∷ []) (mul (mul (var 0) (var 1)) (var 2)) (mul (mul (var 0) (var 2)) (var 1)) refl
    ∙ ap (λ z. z *ℤ pos r.den) e
    ∙ ring (q.num ∷ pos p.den ∷ pos r.den ∷ []) (mul (mul (var 0) (var 1)) (var 2)) (mul (mul (var 0) (var 2)) (var 1)) refl
    ∙ ap (λ z. z *ℤ pos p.den) f
    ∙ ring (r.num ∷ pos q.den ∷ pos p.den ∷ []) (mul (mul (var 0) (var 1)) (var 2)) (mul (mul (var 0) (var 2)) (var 1)) refl)

le_from_same : (q r : Fraction) → Same q r → le q r
le_from_same q r e = at_most (q.num *ℤ pos r.den) (r.num *ℤ pos q.den) e
  where
    at_most : (a b : ℤ) → a ≡ b → a ≤ℤ b
    at_most a b f = omega (arith, ints)

le_from_lt : (a b : ℤ) → a <ℤ b → a ≤ℤ b
le_from_lt a b h = omega (arith, ints)

-- ---- what is asked of a test that orders numbers
pub record IsOrder (before : Fraction → Fraction → Bool) : Type 0 where
  pub apart : (q r : Fraction) → Same q r → before q r ≡ true → ⊥
  pub trans : (p q r : Fraction) → IsFraction p → IsFraction q → IsFraction r → before p q ≡ true → before q r ≡ true → before p r ≡ true
  pub same_first : (p q r : Fraction) → IsFraction p → IsFraction q → IsFraction r → Same p q → before q r ≡ true → before p r ≡ true
  pub level : (q r : Fraction) → Level before q r → Same q r
  pub same_second : (p q r : Fraction) → IsFraction p → IsFraction q → IsFraction r → before p q ≡ true → Same q r → before p r ≡ true

differ : (a b : ℤ) → a ≡ b → a <ℤ b → ⊥
differ a b e h = absurd (omega (arith, ints))

pub rising_order : IsOrder fraction_lt
rising_order =
    record {
      apart = λ q r e h. differ (q.num *ℤ pos r.den) (r.num *ℤ pos q.den) e (lt_from_test _ _ h);
      trans =
          λ p q r i j k h l.
          test_from_lt _ _ (lt_le p q r i j k (lt_from_test _ _ h) (le_from_lt (q.num *ℤ pos r.den) (r.num *ℤ pos q.den) (lt_from_test _ _ l)));
      same_first = λ p q r i j k e h. test_from_lt _ _ (le_lt p q r i j k (le_from_same p q e) (lt_from_test _ _ h));
      level = same_number;
      same_second = λ p q r i j k h e. test_from_lt _ _ (lt_le p q r i j k (lt_from_test _ _ h) (le_from_same q r e));
    }

pub falling_order : IsOrder (λ q r. fraction_lt r q)
falling_order =
    record {
      apart = λ q r e h. rising_order.apart r q (sym e) h;
      trans = λ p q r i j k h l. rising_order.trans r q p k j i l h;
      same_first = λ p q r i j k e h. rising_order.same_second r q p k j i h (sym e);
      level = λ q r l. same_number q r (l.1, l.0);
      same_second = λ p q r i j k h e. rising_order.same_first r q p k j i (sym e) h;
    }

-- ---- two lists place by place
abbrev pub Pairs : {A : Type 0} → (A → A → Type 0) → List A → List A → Type 0
Pairs R [] [] = Unit {0}
Pairs R [] (y ∷ ys) = ⊥
Pairs R (x ∷ xs) [] = ⊥
Pairs R (x ∷ xs) (y ∷ ys) = R x y × Pairs R xs ys

-- the number q stands in the list
abbrev pub Among : List Fraction → Fraction → Type 0
Among rs q = Some_of (Same q) rs

-- all of them are numbers
abbrev pub Numbers : List Fraction → Type 0
Numbers qs = AllByRecursion IsFraction qs

-- the first of a list is before each later one
pub Each-before : (before : Fraction → Fraction → Bool) → IsOrder before → (q : Fraction) (rs : List Fraction) →
    IsFraction q → Numbers rs → FollowFrom before q rs → AllByRecursion (λ r. before q r ≡ true) rs
Each-before before o q [] i n f = tt
Each-before before o q (r ∷ rs) i n f =
    (f.0, carried rs n.1 (Each-before before o r rs n.0 n.1 f.1))
  where
    carried : (ss : List Fraction) → Numbers ss → AllByRecursion (λ s. before r s ≡ true) ss → AllByRecursion (λ s. before q s ≡ true) ss
    carried [] m g = tt
    carried (s ∷ ss) m g = (o.trans q r s i n.0 m.0 f.0 g.0, carried ss m.1 g.1)

pub Follow-rest : (before : Fraction → Fraction → Bool) (q : Fraction) (rs : List Fraction) → FollowFrom before q rs → Follow before rs
Follow-rest before q [] f = tt
Follow-rest before q (r ∷ rs) f = f.1

-- a number that stands in a list after q is before it, if q is before all of them
pub before_among : (before : Fraction → Fraction → Bool) → IsOrder before → (q p : Fraction) (rs : List Fraction) →
    IsFraction q → IsFraction p → Numbers rs → AllByRecursion (λ r. before q r ≡ true) rs → Among rs p → before q p ≡ true
before_among before o q p [] i j n f a = absurd a
before_among before o q p (r ∷ rs) i j n f a =
    elim a [
      | inl here ↦ o.same_second q r p i n.0 j f.0 (sym here)
      | inr later ↦ before_among before o q p rs i j n.1 f.1 later
    ]

-- the first numbers of the two lists are one
same_first : (before : Fraction → Fraction → Bool) → IsOrder before → (q r : Fraction) (qs rs : List Fraction) →
    IsFraction q → IsFraction r → Numbers qs → Numbers rs → FollowFrom before q qs → FollowFrom before r rs →
    Among (r ∷ rs) q → Among (q ∷ qs) r → Same q r
same_first before o q r qs rs i j n m f g a b =
    elim a [
      | inl here ↦ here
      | inr later ↦ elim b [
        | inl back ↦ sym back
        | inr further ↦
            absurd (o.apart q q refl
            (o.trans q r q i j i
            (before_among before o q r qs i j n (Each-before before o q qs i n f) further)
            (before_among before o r q rs j i m (Each-before before o r rs j m g) later)))
      ]
    ]

-- what comes later stands among what comes later
rest_among : (before : Fraction → Fraction → Bool) → IsOrder before → (q r : Fraction) (qs rs : List Fraction) →
    IsFraction q → IsFraction r → Numbers qs → Same q r → AllByRecursion (λ p. before q p ≡ true) qs →
    AllByRecursion (Among (r ∷ rs)) qs → AllByRecursion (Among rs) qs
rest_among before o q r [] rs i j n e f a = tt
rest_among before o q r (p ∷ qs) rs i j n e f a = (
  elim a.0 as (λ _. Among rs p) [
    | inl here ↦ absurd (o.apart q p (Same-trans q r p j e (sym here)) f.0)
    | inr later ↦ later
  ],
  rest_among before o q r qs rs i j n.1 e f.1 a.1,
)

-- two lists in order with the same numbers
pub Pairs-same : (before : Fraction → Fraction → Bool) → IsOrder before → (qs rs : List Fraction) →
    Numbers qs → Numbers rs → Follow before qs → Follow before rs → AllByRecursion (Among rs) qs → AllByRecursion (Among qs) rs → Pairs Same qs rs
Pairs-same before o [] [] n m f g a b = tt
Pairs-same before o [] (r ∷ rs) n m f g a b = b.0
Pairs-same before o (q ∷ qs) [] n m f g a b = a.0
Pairs-same before o (q ∷ qs) (r ∷ rs) n m f g a b =
    let e = same_first before o q r qs rs n.0 m.0 n.1 m.1 f g a.0 b.0 in (
      e,
      Pairs-same before o qs rs n.1 m.1 (Follow-rest before q qs f) (Follow-rest before r rs g)
          (rest_among before o q r qs rs n.0 m.0 n.1 e (Each-before before o q qs n.0 n.1 f) a.1)
          (rest_among before o r q rs qs m.0 n.0 m.1 (sym e) (Each-before before o r rs m.0 m.1 g) b.1),
    )

-- ---- a list in order with the numbers of another list
pub record IsListing (before : Fraction → Fraction → Bool) (qs rs : List Fraction) : Type 0 where
  pub numbers : Numbers rs
  pub in_order : Follow before rs
  pub has_all : AllByRecursion (Among rs) qs
  pub has_no_other : AllByRecursion (Among qs) rs

-- a number that stands in a list stands in it once sorted
pub Among-sorted_by : (before : Fraction → Fraction → Bool) → IsOrder before → (qs : List Fraction) (p : Fraction) →
    Numbers qs → Among qs p → Among (sorted_by before qs) p
Among-sorted_by before o qs p n a =
    Some_of-sorted_by (Same p) IsFraction before qs (λ q r i j l e. Same-trans p q r i e (o.level q r l)) n a

-- the sorted list is, place by place, any such list
pub sorted_by-listing : (before : Fraction → Fraction → Bool) → IsOrder before → (qs rs : List Fraction) →
    Numbers qs → IsListing before qs rs → Pairs Same (sorted_by before qs) rs
sorted_by-listing before o qs rs n l =
    Pairs-same before o (sorted_by before qs) rs (Each-sorted_by IsFraction before qs n) l.numbers (Follow-sorted_by before qs) l.in_order
    (Each-sorted_by (Among rs) before qs l.has_all)
    (each-map (Among qs) (Among (sorted_by before qs)) rs (λ p a. Among-sorted_by before o qs p n a) l.has_no_other)
