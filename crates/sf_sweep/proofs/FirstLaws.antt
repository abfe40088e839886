-- The order of points is one, so the root of a tree has the first of its leaves.
use Rattle.std.proofs.Common.{◌≡◌, refl, sym, ◌∙◌, subst, ℕ, zero, suc, ◌+◌, ◌*◌, ◌/◌, ◌≤◌, ◌<◌, arith, ℤ, pos, ◌*ℤ◌, ◌≤ℤ◌, ◌<ℤ◌, Bool, true, false, cond, ◌&&◌, ◌||◌, List, Option, Some, None, ◌⊎◌, inl, inr}
use Rattle.std.specs.Prelude.{int_lt}
use Rattle.std.specs.Ordering.{int_eq}
use Rattle.std.proofs.lemmas.Bool.{cases_eq, cases_lt}
use Rattle.std.proofs.lemmas.Int.{ints}
use Rattle.sf_grid.specs.Fraction.{IsFraction, fraction_lt}
use Rattle.sf_grid.specs.Plane.{IsPoint, Point, x_of, y_of}
use Rattle.sf_grid.proofs.CallerLemmas.{Same, le, le-trans, lt_from_test, test_from_lt}
use Rattle.sf_slabs.proofs.NumberLaws.{Same-trans, rising_order}
use Rattle.sf_sweep.specs.Nearest.{HasPoints, IsPointIn, IsTree, earlier, place_at}
use Rattle.sf_sweep.specs.Tables.{point_before}

-- ---- points in their order
-- p isn't after q: it is in a column further left, or in the same one and not further down
abbrev NotAfter : Point → Point → Type 0
NotAfter p q = (fraction_lt (x_of p) (x_of q) ≡ true) ⊎ (Same (x_of p) (x_of q) × le (y_of q) (y_of p))

order_test : (a b c d : ℤ) → (int_lt a b || (int_eq a b && int_lt c d)) ≡ false → (b <ℤ a) ⊎ ((b ≡ a) × (d ≤ℤ c))
order_test a b c d h = grind (arith, ints)

test_order : (a b c d : ℤ) → (b <ℤ a) ⊎ ((b ≡ a) × (d ≤ℤ c)) → (int_lt a b || (int_eq a b && int_lt c d)) ≡ false
test_order a b c d h = grind (arith, ints)

not-after : (p q : Point) → point_before q p ≡ false → NotAfter p q
not-after p q h = elim (order_test ((x_of q).num *ℤ pos (x_of p).den) ((x_of p).num *ℤ pos (x_of q).den) ((y_of p).num *ℤ pos (y_of q).den) ((y_of q).num *ℤ pos (y_of p).den) h) [
  | inl l ↦ inl (test_from_lt _ _ l)
  | inr e ↦ inr e
]

after-not : (p q : Point) → NotAfter p q → point_before q p ≡ false
after-not p q (inl l) =
    test_order ((x_of q).num *ℤ pos (x_of p).den) ((x_of p).num *ℤ pos (x_of q).den) ((y_of p).num *ℤ pos (y_of q).den) ((y_of q).num *ℤ pos (y_of p).den) (inl (lt_from_test _ _ l))
after-not p q (inr e) =
    test_order ((x_of q).num *ℤ pos (x_of p).den) ((x_of p).num *ℤ pos (x_of q).den) ((y_of p).num *ℤ pos (y_of q).den) ((y_of q).num *ℤ pos (y_of p).den) (inr e)

through : (p q r : Point) → IsPoint p → IsPoint q → IsPoint r → NotAfter p q → NotAfter q r → NotAfter p r
through p q r i j k (inl l) (inl m) = inl (rising_order.trans (x_of p) (x_of q) (x_of r) (column i) (column j) (column k) l m)
  where
    column : {p : Point} → IsPoint p → IsFraction (x_of p)
    column i = record { positive = i.positive }
through p q r i j k (inl l) (inr e) =
    inl (rising_order.same_second (x_of p) (x_of q) (x_of r) (record { positive = i.positive }) (record { positive = j.positive }) (record { positive = k.positive }) l e.0)
through p q r i j k (inr d) (inl m) =
    inl (rising_order.same_first (x_of p) (x_of q) (x_of r) (record { positive = i.positive }) (record { positive = j.positive }) (record { positive = k.positive }) d.0 m)
through p q r i j k (inr d) (inr e) = inr
    (Same-trans (x_of p) (x_of q) (x_of r) (record { positive = j.positive }) d.0 e.0, le-trans (y_of r) (y_of q) (y_of p) (record { positive = j.positive }) e.1 d.1)

-- p isn't after q, and q isn't after r
pub before-through : (p q r : Point) → IsPoint p → IsPoint q → IsPoint r → point_before q p ≡ false → point_before r q ≡ false → point_before r p ≡ false
before-through p q r i j k h l = after-not p r (through p q r i j k (not-after p q h) (not-after q r l))

-- no point is before itself, and of two only one is before the other
once : (a b c d : ℤ) → a ≡ b → c ≡ d → (int_lt a b || (int_eq a b && int_lt c d)) ≡ false
once a b c d e f = grind (arith, ints)

pub not-before-itself : (p : Point) → point_before p p ≡ false
not-before-itself p = once ((x_of p).num *ℤ pos (x_of p).den) ((x_of p).num *ℤ pos (x_of p).den) ((y_of p).num *ℤ pos (y_of p).den) ((y_of p).num *ℤ pos (y_of p).den) refl refl

only_one : (a b c d : ℤ) → (int_lt a b || (int_eq a b && int_lt c d)) ≡ true → (int_lt b a || (int_eq b a && int_lt d c)) ≡ false
only_one a b c d h = grind (arith, ints)

pub not-both : (p q : Point) → point_before p q ≡ true → point_before q p ≡ false
not-both p q h = only_one ((x_of p).num *ℤ pos (x_of q).den) ((x_of q).num *ℤ pos (x_of p).den) ((y_of q).num *ℤ pos (y_of p).den) ((y_of p).num *ℤ pos (y_of q).den) h

-- ---- where there may be no point
-- the first one is there where the second is, and isn't after it
abbrev pub IsFirst : Option Point → Option Point → Type 0
IsFirst m None = Unit {0}
IsFirst None (Some q) = ⊥
IsFirst (Some p) (Some q) = point_before q p ≡ false

first-itself : (a : Option Point) → IsFirst a a
first-itself None = tt
first-itself (Some p) = not-before-itself p

first-through : (a b c : Option Point) → IsPointIn a → IsPointIn b → IsPointIn c → IsFirst a b → IsFirst b c → IsFirst a c
first-through a b None i j k h l = tt
first-through a None (Some r) i j k h l = absurd l
first-through None (Some q) (Some r) i j k h l = absurd h
first-through (Some p) (Some q) (Some r) i j k h l = before-through p q r i j k h l

earlier-first : (a b : Option Point) → IsFirst (earlier a b) a × IsFirst (earlier a b) b
earlier-first None b = (tt, first-itself b)
earlier-first (Some p) None = (not-before-itself p, tt)
earlier-first (Some p) (Some q) = by_test (point_before q p) refl
  where
    by_test : (t : Bool) → point_before q p ≡ t → IsFirst (cond t (Some q) (Some p)) (Some p) × IsFirst (cond t (Some q) (Some p)) (Some q)
    by_test true h = (not-both q p h, not-before-itself q)
    by_test false h = (not-before-itself p, h)

pub earlier-one : (a b : Option Point) → (earlier a b ≡ a) ⊎ (earlier a b ≡ b)
earlier-one None b = inr refl
earlier-one (Some p) None = inl refl
earlier-one (Some p) (Some q) = by_test (point_before q p)
  where
    by_test : (t : Bool) → (cond t (Some q) (Some p) ≡ Some p) ⊎ (cond t (Some q) (Some p) ≡ Some q)
    by_test true = inr refl
    by_test false = inl refl

-- ---- the root of a tree
half : (k : ℕ) → (k ≡ 2 * (k / 2)) ⊎ (k ≡ 2 * (k / 2) + 1)
half k = grind arith

above-first : (n : ℕ) (tree : List (Option Point)) → IsTree n tree → (k : ℕ) → 2 ≤ k → k < 2 * n → IsFirst (place_at tree (k / 2)) (place_at tree k)
above-first n tree t k some few =
    let j = k / 2 in
    let e = t j (omega (arith, some)) (omega (arith, few)) in
    let h = earlier-first (place_at tree (2 * j)) (place_at tree (2 * j + 1)) in
    elim (half k) [
      | inl l ↦ subst (λ m. IsFirst (place_at tree j) (place_at tree m)) (sym l) (subst (λ z. IsFirst z (place_at tree (2 * j))) (sym e) h.0)
      | inr r ↦ subst (λ m. IsFirst (place_at tree j) (place_at tree m)) (sym r) (subst (λ z. IsFirst z (place_at tree (2 * j + 1))) (sym e) h.1)
    ]

root-first_within : (n : ℕ) (tree : List (Option Point)) → IsTree n tree → HasPoints tree → (m k : ℕ) → k ≤ m → 1 ≤ k → k < 2 * n → IsFirst (place_at tree 1) (place_at tree k)
root-first_within n tree t points zero k within some few = absurd (omega (arith, within, some))
root-first_within n tree t points (suc m) k within some few =
    by_size (cases_eq k 1) (λ two. root-first_within n tree t points m (k / 2) (omega (arith, within, two)) (omega (arith, two)) (omega (arith, few)))
  where
    at_least : (k : ℕ) → 1 ≤ k → ((k ≡ 1) → ⊥) → 2 ≤ k
    at_least k some d = grind arith

    by_size : (k ≡ 1) ⊎ ((k ≡ 1) → ⊥) → (2 ≤ k → IsFirst (place_at tree 1) (place_at tree (k / 2))) → IsFirst (place_at tree 1) (place_at tree k)
    by_size (inl e) further = subst (λ j. IsFirst (place_at tree 1) (place_at tree j)) (sym e) (first-itself (place_at tree 1))
    by_size (inr d) further =
        let two : 2 ≤ k = at_least k some d in
        first-through (place_at tree 1) (place_at tree (k / 2)) (place_at tree k) (points 1 (omega arith)) (points (k / 2) (omega (arith, two))) (points k some) (further two) (above-first n tree t k two few)

-- it isn't after any leaf
pub root-first : (n : ℕ) (tree : List (Option Point)) → IsTree n tree → HasPoints tree → (k : ℕ) → n ≤ k → k < 2 * n → IsFirst (place_at tree 1) (place_at tree k)
root-first n tree t points k some few = root-first_within n tree t points k k (omega arith) (omega (arith, some, few)) few

-- a leaf that has what a place has
pub record IsAtLeaf (n : ℕ) (tree : List (Option Point)) (p : Option Point) : Type 0 where
  pub leaf : ℕ
  pub last : n ≤ leaf
  pub within : leaf < 2 * n
  pub same : place_at tree leaf ≡ p

leaf-of_within : (n : ℕ) (tree : List (Option Point)) → IsTree n tree → (m k : ℕ) → 2 * n ≤ k + m → 1 ≤ k → k < 2 * n → IsAtLeaf n tree (place_at tree k)
leaf-of_within n tree t zero k near some few = absurd (omega (arith, near, few))
leaf-of_within n tree t (suc m) k near some few =
    by_size (cases_lt k n) (λ lower. leaf-of_within n tree t m (2 * k) (omega (arith, near, some)) (omega (arith, some)) (omega (arith, lower)))
    (λ lower. leaf-of_within n tree t m (2 * k + 1) (omega (arith, near, some)) (omega (arith, some)) (omega (arith, lower)))
  where
    by_one : k < n → (earlier (place_at tree (2 * k)) (place_at tree (2 * k + 1)) ≡ place_at tree (2 * k)) ⊎ (earlier (place_at tree (2 * k)) (place_at tree (2 * k + 1)) ≡ place_at tree (2 * k + 1)) →
        IsAtLeaf n tree (place_at tree (2 * k)) → IsAtLeaf n tree (place_at tree (2 * k + 1)) → IsAtLeaf n tree (place_at tree k)
    by_one lower (inl e) left right = subst (IsAtLeaf n tree) (sym (t k some lower ∙ e)) left
    by_one lower (inr e) left right = subst (IsAtLeaf n tree) (sym (t k some lower ∙ e)) right

    by_size : (k < n) ⊎ (n ≤ k) → (k < n → IsAtLeaf n tree (place_at tree (2 * k))) → (k < n → IsAtLeaf n tree (place_at tree (2 * k + 1))) → IsAtLeaf n tree (place_at tree k)
    by_size (inl lower) left right = by_one lower (earlier-one (place_at tree (2 * k)) (place_at tree (2 * k + 1))) (left lower) (right lower)
    by_size (inr last) left right = record { leaf = k; last = last; within = few; same = refl }

-- the root has what a leaf has
pub root-among : (n : ℕ) (tree : List (Option Point)) → IsTree n tree → 1 ≤ n → IsAtLeaf n tree (place_at tree 1)
root-among n tree t some = leaf-of_within n tree t (2 * n) 1 (omega arith) (omega arith) (omega (arith, some))
