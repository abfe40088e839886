-- In a gap between two neighbouring heights of a column lie only the vertical edges that reach both.
use Rattle.std.proofs.Common.{◌≡◌, refl, ap, sym, ◌∙◌, ℤ, pos, ◌*ℤ◌, ◌≤ℤ◌, ◌<ℤ◌, lit<, arith, Bool, true, false, ◌&&◌, [], ◌∷◌, ◌⊎◌, inl, inr, cond}
use Rattle.std.specs.List.{AllByRecursion}
use Rattle.std.specs.Prelude.{if◌then◌else◌, int_le, int_lt}
use Rattle.std.specs.Int.{int_max, int_min}
use Rattle.std.proofs.lemmas.Bool.{and_from, and_parts, both_ways, cases_Bool}
use Rattle.std.proofs.lemmas.Int.{ints}
use Rattle.sf_grid.specs.Fraction.{Fraction, IsFraction, fraction_eq, fraction_le, fraction_lt, whole}
use Rattle.sf_grid.specs.Plane.{point_at}
use Rattle.sf_grid.specs.Edge.{edge_between, height_at, is_vertical, on_edge, reaches, within}
use Rattle.sf_grid.proofs.CallerLemmas.{eq_from_test, height-IsFraction, le, le-trans, le_from_test, le_lt, lt_from_test, lt_le, same_tests, test_from_eq, test_from_le}
use Rattle.sf_strips.specs.declared.piece.Piece.{Piece}
use Rattle.sf_strips.specs.declared.piece.Piece.TheVariants.{Dot, Edge}
use Rattle.sf_cells.specs.Pieces.{heights_of, if_in_column, is_on}
use Rattle.sf_slabs.proofs.OnLaws.{on_edge-height, on_edge-vertical, same_point-at}
use Rattle.sf_slabs.proofs.TopLaws.{if_false, if_true}

-- the piece is a vertical edge
abbrev pub stands_upright : Piece → Bool
stands_upright (Edge a b) = is_vertical (edge_between a b)
stands_upright (Dot a) = false

-- h isn't strictly between r and q
abbrev pub Parted : Fraction → Fraction → Fraction → Type 0
Parted q r h = (fraction_le q h ≡ true) ⊎ (fraction_le h r ≡ true)

-- the place m of a gap from q down to r
pub record IsGap (q r m : Fraction) : Type 0 where
  pub high : IsFraction q
  pub low : IsFraction r
  pub place : IsFraction m
  pub below : fraction_lt m q ≡ true
  pub above : fraction_lt r m ≡ true

-- ---- a parted number against the gap's place
not_at : (q r m h : Fraction) → IsGap q r m → IsFraction h → Parted q r h → fraction_eq m h ≡ false
not_at q r m h g i p =
    elim (cases_Bool (fraction_eq m h)) [
      | inr differs ↦ differs
      | inl same ↦
          let e : m.num *ℤ pos h.den ≡ h.num *ℤ pos m.den = eq_from_test _ _ same in
          elim p [
            | inl from_top ↦ absurd (clash (m.num *ℤ pos h.den) (h.num *ℤ pos m.den) (lt_le m q h g.place g.high i (lt_from_test _ _ g.below) (le_from_test _ _ from_top)) e)
            | inr from_below ↦ absurd (clash (h.num *ℤ pos m.den) (m.num *ℤ pos h.den) (le_lt h r m i g.low g.place (le_from_test _ _ from_below) (lt_from_test _ _ g.above)) (sym e))
          ]
    ]
  where
    clash : (a b : ℤ) → a <ℤ b → a ≡ b → ⊥
    clash a b l e = absurd (omega (arith, ints))

le_of_lt : (a b : ℤ) → a <ℤ b → a ≤ℤ b
le_of_lt a b h = omega (arith, ints)

not_below : (a b : ℤ) → a <ℤ b → b ≤ℤ a → ⊥
not_below a b h k = absurd (omega (arith, ints))

-- a number is at most the place where it is at most the gap's low end
at_most_place : (q r m h : Fraction) → IsGap q r m → IsFraction h → Parted q r h → fraction_le h m ≡ (fraction_le h q && fraction_le h r)
at_most_place q r m h g i p =
    same_tests (fraction_le h m) (fraction_le h q && fraction_le h r)
    (λ k. elim p [
      | inl from_top ↦ absurd (not_below _ _ (lt_le m q h g.place g.high i (lt_from_test _ _ g.below) (le_from_test _ _ from_top)) (le_from_test _ _ k))
      | inr from_below ↦
          and_from _ _
          (test_from_le _ _ (le-trans h r q g.low (le_from_test _ _ from_below) (below_high)))
          from_below
    ])
    (λ k. test_from_le _ _ (le-trans h r m g.low (le_from_test _ _ (and_parts _ _ k).1) (le_of_lt _ _ (lt_from_test _ _ g.above))))
  where
    below_high : le r q
    below_high = le-trans r m q g.place (le_of_lt _ _ (lt_from_test _ _ g.above)) (le_of_lt _ _ (lt_from_test _ _ g.below))

at_least_place : (q r m h : Fraction) → IsGap q r m → IsFraction h → Parted q r h → fraction_le m h ≡ (fraction_le q h && fraction_le r h)
at_least_place q r m h g i p =
    same_tests (fraction_le m h) (fraction_le q h && fraction_le r h)
    (λ k. elim p [
      | inl from_top ↦
          and_from _ _ from_top
          (test_from_le _ _ (le-trans r q h g.high below_high (le_from_test _ _ from_top)))
      | inr from_below ↦ absurd (not_below _ _ (le_lt h r m i g.low g.place (le_from_test _ _ from_below) (lt_from_test _ _ g.above)) (le_from_test _ _ k))
    ])
    (λ k. test_from_le _ _ (le-trans m q h g.high (le_of_lt _ _ (lt_from_test _ _ g.below)) (le_from_test _ _ (and_parts _ _ k).0)))
  where
    below_high : le r q
    below_high = le-trans r m q g.place (le_of_lt _ _ (lt_from_test _ _ g.above)) (le_of_lt _ _ (lt_from_test _ _ g.below))

-- ---- from a whole number to a whole number
pub within-whole : (low high : ℤ) (q : Fraction) → within low high q ≡ (fraction_le (whole low) q && fraction_le q (whole high))
within-whole low high q =
    ap (λ z. int_le (low *ℤ pos q.den) z && int_le q.num (high *ℤ pos q.den)) (sym (times_one q.num))
    ∙ ap (λ z. int_le (low *ℤ pos q.den) (q.num *ℤ pos 1) && int_le z (high *ℤ pos q.den)) (sym (times_one q.num))
  where
    times_one : (n : ℤ) → n *ℤ pos 1 ≡ n
    times_one n = omega (arith, ints)

pub one_of : (P : ℤ → Type 0) (a b : ℤ) → P a → P b → P (int_min a b) × P (int_max a b)
one_of P a b h k = (by_test_min (int_lt b a), by_test_max (int_lt b a))
  where
    by_test_min : (t : Bool) → P (cond t b a)
    by_test_min true = k
    by_test_min false = h

    by_test_max : (t : Bool) → P (cond t a b)
    by_test_max true = h
    by_test_max false = k

regrouped : (a b c d : Bool) → ((a && b) && (c && d)) ≡ ((a && c) && (b && d))
regrouped true true c d = refl
regrouped true false true d = refl
regrouped true false false d = refl
regrouped false b c d = refl

within-gap : (q r m : Fraction) (a b : ℤ) → IsGap q r m → Parted q r (whole a) → Parted q r (whole b) →
    within (int_min a b) (int_max a b) m ≡ (within (int_min a b) (int_max a b) q && within (int_min a b) (int_max a b) r)
within-gap q r m a b g h k =
    let both = one_of (λ z. Parted q r (whole z)) a b h k in
    let low = whole (int_min a b) in
    let high = whole (int_max a b) in
    within-whole (int_min a b) (int_max a b) m
    ∙ ap (λ t. t && fraction_le m high) (at_most_place q r m low g (record { positive = lit< tt }) both.0)
    ∙ ap (λ t. (fraction_le low q && fraction_le low r) && t) (at_least_place q r m high g (record { positive = lit< tt }) both.1)
    ∙ regrouped (fraction_le low q) (fraction_le low r) (fraction_le q high) (fraction_le r high)
    ∙ ap (λ t. t && (fraction_le low r && fraction_le r high)) (sym (within-whole (int_min a b) (int_max a b) q))
    ∙ ap (λ t. within (int_min a b) (int_max a b) q && t) (sym (within-whole (int_min a b) (int_max a b) r))

-- ---- the pieces of a gap
in_column : (t m q r : Bool) → (t ≡ true → m ≡ (q && r)) → (t && m) ≡ ((t && q) && (t && r))
in_column true m q r h = h refl
in_column false m q r h = refl

never : (t e : Bool) → (t ≡ true → e ≡ false) → (t && e) ≡ false
never true e h = h refl
never false e h = refl

pub is_on-gap : (x q r m : Fraction) (p : Piece) → IsFraction x → IsGap q r m → AllByRecursion (Parted q r) (heights_of x p) →
    is_on (point_at x m) p ≡ (stands_upright p && (is_on (point_at x q) p && is_on (point_at x r) p))
is_on-gap x q r m (Edge a b) i g h =
    let e = edge_between a b in
    elim (cases_Bool (is_vertical e)) [
      | inl upright ↦
          on_edge-vertical e x m upright i g.place
          ∙ in_column (fraction_eq (whole a.x) x) _ (within (int_min a.y b.y) (int_max a.y b.y) q) (within (int_min a.y b.y) (int_max a.y b.y) r)
          (λ t.
          let ends = if_true (AllByRecursion (Parted q r)) (fraction_eq (whole a.x) x) (whole a.y ∷ whole b.y ∷ []) [] t
          (if_true (AllByRecursion (Parted q r)) (is_vertical e) (if_in_column x a (whole a.y ∷ whole b.y ∷ [])) (if reaches e x then height_at e x ∷ [] else []) upright h) in
          within-gap q r m a.y b.y g ends.0 ends.1.0)
          ∙ ap (λ t. t && (fraction_eq (whole a.x) x && within (int_min a.y b.y) (int_max a.y b.y) r)) (sym (on_edge-vertical e x q upright i g.high))
          ∙ ap (λ t. on_edge e (point_at x q) && t) (sym (on_edge-vertical e x r upright i g.low))
          ∙ sym (ap (λ t. t && (on_edge e (point_at x q) && on_edge e (point_at x r))) upright)
      | inr slants ↦
          on_edge-height e x m slants i g.place
          ∙ never (reaches e x) (fraction_eq m (height_at e x))
          (λ t.
          let here = if_true (AllByRecursion (Parted q r)) (reaches e x) (height_at e x ∷ []) [] t
          (if_false (AllByRecursion (Parted q r)) (is_vertical e) (if_in_column x a (whole a.y ∷ whole b.y ∷ [])) (if reaches e x then height_at e x ∷ [] else []) slants h) in
          not_at q r m (height_at e x) g (height-IsFraction e x (record { slants = slants; reached = t }) i) here.0)
          ∙ sym (ap (λ t. t && (on_edge e (point_at x q) && on_edge e (point_at x r))) slants)
    ]
is_on-gap x q r m (Dot a) i g h =
    same_point-at a x m i g.place
    ∙ never (fraction_eq (whole a.x) x) (fraction_eq (whole a.y) m)
    (λ t.
    let here = if_true (AllByRecursion (Parted q r)) (fraction_eq (whole a.x) x) (whole a.y ∷ []) [] t h in
    same_tests (fraction_eq (whole a.y) m) false
    (λ k. absurd (both_ways _ (not_at q r m (whole a.y) g (record { positive = lit< tt }) here.0) (flipped (whole a.y) m k)))
    (λ k. absurd (both_ways false refl k)))
  where
    flipped : (s t : Fraction) → fraction_eq s t ≡ true → fraction_eq t s ≡ true
    flipped s t k = test_from_eq (t.num *ℤ pos s.den) (s.num *ℤ pos t.den) (sym (eq_from_test (s.num *ℤ pos t.den) (t.num *ℤ pos s.den) k))
