-- Runs in order: behind one that a run doesn't reach, none goes along it.
use Rattle.std.proofs.Common.{◌≡◌, sym, subst, ℤ, ◌≤ℤ◌, ◌<ℤ◌, arith, true, false, ◌&&◌, ◌⊎◌, inl, inr, List, [], ◌∷◌}
use Rattle.std.specs.List.{AllByRecursion}
use Rattle.std.specs.Ordering.{int_cmp, int_eq, is_lt, ordering_then}
use Rattle.std.specs.declared.cmp.Ordering.{Ordering}
use Rattle.std.proofs.lemmas.Bool.{and_from, and_parts, both_ways}
use Rattle.std.proofs.lemmas.Int.{by_lt_z, ints}
use Rattle.sf_grid.specs.Plane.{Coordinates}
use Rattle.sf_grid.specs.Sharing.{comes_before}
use Rattle.sf_grid.proofs.CallerLemmas.{eq_from_test, order_from_before, test_from_eq}
use Rattle.sf_grid.proofs.LineLaws.{before_from_order}
use Rattle.sf_along.specs.declared.run.Run.{Run}
use Rattle.sf_along.specs.Runs.{AreInOrder, GoTogether, HasPartner, HavePair, IsRun, reaches, run_before}
use Rattle.sf_along.proofs.ShareLaws.{reached}

-- ---- between two runs that have the same numbers
-- a number that isn't less than another in an order of pairs
not-less : (a b : ℤ) (o : Ordering) → is_lt (ordering_then (int_cmp a b) o) ≡ false → (b <ℤ a) ⊎ ((a ≡ b) × (is_lt o ≡ false))
not-less a b o h = by_lt_z b a (λ l. inl l) (λ l. by_lt_z a b (λ k. absurd (less k)) (λ k. let e : a ≡ b = omega (arith, ints) in inr (e, equal e)))
  where
    less : a <ℤ b → ⊥
    less k = grind (arith, ints)

    equal : a ≡ b → is_lt o ≡ false
    equal e = grind (arith, ints)

-- what stands between two equal numbers is equal to both
middle : (a b c : ℤ) (o p : Ordering) → is_lt (ordering_then (int_cmp b a) o) ≡ false → is_lt (ordering_then (int_cmp c b) p) ≡ false → a ≡ c →
    (a ≡ b) × (is_lt o ≡ false) × (is_lt p ≡ false)
middle a b c o p h k e =
    elim (not-less b a o h) [
      | inl l ↦ elim (not-less c b p k) [ inl m ↦ absurd (omega (arith, ints)) | inr m ↦ let f : c ≡ b = m.0 in absurd (omega (arith, ints)) ]
      | inr l ↦
          let f : b ≡ a = l.0 in
          elim (not-less c b p k) [ inl m ↦ absurd (omega (arith, ints)) | inr m ↦ (sym f, l.1, m.1) ]
    ]

-- a point before one that comes before another
earlier-yet : (u v w : Coordinates) → is_lt (ordering_then (int_cmp v.x u.x) (int_cmp v.y u.y)) ≡ false → comes_before v w ≡ true → comes_before u w ≡ true
earlier-yet u v w h k =
    elim (not-less v.x u.x (int_cmp v.y u.y) h) [
      | inl l ↦
          elim (order_from_before v w k) [
            | inl m ↦ before_from_order u w (inl (omega (arith, ints)))
            | inr m ↦ let e : v.x ≡ w.x = m.0 in before_from_order u w (inl (omega (arith, ints)))
          ]
      | inr l ↦
          let e : v.x ≡ u.x = l.0 in
          let f : u.y ≤ℤ v.y = no_less v.y u.y l.1 in
          elim (order_from_before v w k) [
            | inl m ↦ before_from_order u w (inl (omega (arith, ints)))
            | inr m ↦
                let g : v.x ≡ w.x = m.0 in
                let i : v.y <ℤ w.y = m.1 in
                before_from_order u w (inr (omega (arith, ints), omega (arith, ints)))
          ]
    ]
  where
    no_less : (a b : ℤ) → is_lt (int_cmp a b) ≡ false → b ≤ℤ a
    no_less a b h = grind (arith, ints)

-- a run reaches what stands between it and one that it reaches
reached-between : (r t s : Run) → run_before t r ≡ false → run_before s t ≡ false → reaches r s ≡ true → reaches r t ≡ true
reached-between r t s h k l =
    let parts = and_parts (int_eq r.slope s.slope && int_eq r.height s.height) (comes_before s.left r.right) l in
    let numbers = and_parts (int_eq r.slope s.slope) (int_eq r.height s.height) parts.0 in
    let slopes =
    middle r.slope t.slope s.slope
    (ordering_then (int_cmp t.height r.height) (ordering_then (int_cmp t.left.x r.left.x) (int_cmp t.left.y r.left.y)))
    (ordering_then (int_cmp s.height t.height) (ordering_then (int_cmp s.left.x t.left.x) (int_cmp s.left.y t.left.y)))
    h k (eq_from_test r.slope s.slope numbers.0) in
    let heights =
    middle r.height t.height s.height
    (ordering_then (int_cmp t.left.x r.left.x) (int_cmp t.left.y r.left.y))
    (ordering_then (int_cmp s.left.x t.left.x) (int_cmp s.left.y t.left.y))
    slopes.1 slopes.2 (eq_from_test r.height s.height numbers.1) in
    and_from _ _
    (and_from _ _ (test_from_eq r.slope t.slope slopes.0) (test_from_eq r.height t.height heights.0))
    (earlier-yet t.left s.left r.right heights.2 parts.1)

-- ---- the scan
-- a partner behind t is reached beyond t
reached-before : (r t : Run) (ts : List Run) → IsRun r → run_before t r ≡ false → AllByRecursion (λ s. run_before s t ≡ false) ts → AreInOrder ts → HasPartner r ts → reaches r t ≡ true
reached-before r t [] h k l o g = absurd g
reached-before r t (s ∷ ss) h k l o (inl g) = reached-between r t s k l.0 (reached r s h o.0 g.share)
reached-before r t (s ∷ ss) h k l o (inr g) = reached-before r t ss h k l.1 o.2 g

pub none-behind : (r t : Run) (ts : List Run) → AreInOrder (r ∷ t ∷ ts) → reaches r t ≡ false → HasPartner r (t ∷ ts) → ⊥
none-behind r t ts o n (inl g) = both_ways (reaches r t) n (reached r t o.0 o.2.0 g.share)
none-behind r t ts o n (inr g) = both_ways (reaches r t) n (reached-before r t ts o.0 o.1.0 o.2.1 o.2.2 g)

-- a run and what is behind another one are in order
pub order-without : (r t : Run) (ts : List Run) → AreInOrder (r ∷ t ∷ ts) → AreInOrder (r ∷ ts)
order-without r t ts o = (o.0, o.1.1, o.2.2)

-- ---- what is left of a list decides
pub record IsLeft (P : List Run → Type 0) (all left : List Run) : Type 0 where
  pub on : P all → P left
  pub back : P left → P all

pub next-partner : (r t : Run) (ts left all : List Run) → left ≡ t ∷ ts → (GoTogether r t → ⊥) → IsLeft (HasPartner r) all left → IsLeft (HasPartner r) all ts
next-partner r t ts left all e n h = record {
  on = λ k. behind (subst (HasPartner r) e (h.on k));
  back = λ k. h.back (subst (HasPartner r) (sym e) (inr k));
}
  where
    behind : HasPartner r (t ∷ ts) → HasPartner r ts
    behind (inl g) = absurd (n g)
    behind (inr g) = g

pub next-pair : (r : Run) (rs left all : List Run) → left ≡ r ∷ rs → (HasPartner r rs → ⊥) → IsLeft HavePair all left → IsLeft HavePair all rs
next-pair r rs left all e n h = record {
  on = λ k. behind (subst HavePair e (h.on k));
  back = λ k. h.back (subst HavePair (sym e) (inr k));
}
  where
    behind : HavePair (r ∷ rs) → HavePair rs
    behind (inl g) = absurd (n g)
    behind (inr g) = g
