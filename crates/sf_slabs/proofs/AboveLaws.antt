-- Down a column: which edges are above grows, at each height, by those that go on from there.
use Rattle.std.proofs.Common.{◌≡◌, refl, ap, sym, ◌∙◌, ℕ, ℤ, pos, ◌*ℤ◌, ◌≤ℤ◌, arith, Bool, true, false, ◌&&◌, ◌||◌, ◌⊎◌, inl, inr, cond}
use Rattle.std.specs.Prelude.{int_le, int_lt}
use Rattle.std.proofs.lemmas.Bool.{both_ways, cases_Bool}
use Rattle.std.proofs.lemmas.Int.{ints}
use Rattle.sf_grid.specs.Fraction.{Fraction, IsFraction, fraction_eq, fraction_lt, whole}
use Rattle.sf_grid.specs.Plane.{point_at}
use Rattle.sf_grid.specs.Edge.{Edge as Line, edge_between, height_at, is_vertical, left_end, right_end}
use Rattle.sf_grid.proofs.CallerLemmas.{Same, eq_from_test, mul_le, test_from_eq}
use Rattle.sf_strips.specs.declared.piece.Piece.{Piece}
use Rattle.sf_strips.specs.declared.piece.Piece.TheVariants.{Dot, Edge}
use Rattle.sf_cells.specs.Pieces.{is_above}
use Rattle.sf_slabs.proofs.NumberLaws.{rising_order}
use Rattle.sf_strips.proofs.CallerLemmas.{edge_above-height, edge_above-vertical, goes_on}
pub use Rattle.sf_slabs.specs.Sweeps.{passes}

-- ---- a piece that goes on to the right of a column, and its height there
abbrev pub height_of : Fraction → Piece → Fraction
height_of x (Edge a b) = height_at (edge_between a b) x
height_of x (Dot a) = whole a.y

no_column : (u v n : ℤ) (k : ℕ) → v ≤ℤ u → (int_le (u *ℤ pos k) n && int_lt n (v *ℤ pos k)) ≡ false
no_column u v n k h = let m : (v *ℤ pos k) ≤ℤ (u *ℤ pos k) = mul_le v u k h in grind (arith, ints)

-- a vertical edge doesn't go on
pub goes_on-vertical : (e : Line) (x : Fraction) → is_vertical e ≡ true → goes_on e x ≡ false
goes_on-vertical e x h = no_column (left_end e).x (right_end e).x x.num x.den (by_test (int_lt e.b.x e.a.x))
  where
    same : e.a.x ≡ e.b.x
    same = eq_from_test e.a.x e.b.x h

    by_test : (t : Bool) → (cond t e.a e.b).x ≤ℤ (cond t e.b e.a).x
    by_test true = let k = same in omega (arith, ints)
    by_test false = let k = same in omega (arith, ints)

-- a piece is above a point where it goes on at the point's column, higher up
pub is_above-height : (x y : Fraction) (p : Piece) → IsFraction y → is_above (point_at x y) p ≡ (passes x p && fraction_lt y (height_of x p))
is_above-height x y (Edge a b) i =
    let e = edge_between a b in
    elim (cases_Bool (is_vertical e)) [
      | inl vertical ↦
          edge_above-vertical e (point_at x y) vertical
          ∙ sym (ap (λ t. t && fraction_lt y (height_at e x)) (goes_on-vertical e x vertical))
      | inr slants ↦ edge_above-height e x y slants i
    ]
is_above-height x y (Dot a) i = refl

-- a piece goes on from the height q of the column x
abbrev pub goes_on_from : Fraction → Fraction → Piece → Bool
goes_on_from x q p = passes x p && fraction_eq (height_of x p) q

-- ---- one number against two others
below_or : (t l m e : Bool) → (t ≡ true → l ≡ (m || e)) → (t && l) ≡ ((t && m) || (t && e))
below_or true l m e h = h refl
below_or false l m e h = refl

-- what is above a lower place is above the higher place or at it
lower : (q r h : Fraction) → IsFraction q → IsFraction r → IsFraction h → fraction_lt r q ≡ true →
    (fraction_lt q h ≡ true) ⊎ ((Same h q) ⊎ (fraction_lt r h ≡ false)) → fraction_lt r h ≡ (fraction_lt q h || fraction_eq h q)
lower q r h i j k l c =
    elim c [
      | inl above ↦ rising_order.trans r q h j i k l above ∙ sym (ap (λ b. b || fraction_eq h q) above)
      | inr other ↦ elim other [
        | inl at ↦ rising_order.same_second r q h j i k l (sym at) ∙ sym (or_true (fraction_lt q h) (fraction_eq h q) (test_from_eq _ _ at))
        | inr below ↦ below ∙ sym (or_none (fraction_lt q h) (fraction_eq h q) (not_above below) (not_at below))
      ]
    ]
  where
    or_true : (a b : Bool) → b ≡ true → (a || b) ≡ true
    or_true true b e = refl
    or_true false b e = e

    or_none : (a b : Bool) → a ≡ false → b ≡ false → (a || b) ≡ false
    or_none true b e f = e
    or_none false b e f = f

    not_above : fraction_lt r h ≡ false → fraction_lt q h ≡ false
    not_above b = elim (cases_Bool (fraction_lt q h)) [ inl t ↦ absurd (both_ways _ b (rising_order.trans r q h j i k l t)) | inr f ↦ f ]

    not_at : fraction_lt r h ≡ false → fraction_eq h q ≡ false
    not_at b =
        elim (cases_Bool (fraction_eq h q)) [
          | inl t ↦ absurd (both_ways _ b (rising_order.same_second r q h j i k l (sym (eq_from_test _ _ t))))
          | inr f ↦ f
        ]

-- where a piece that goes on stands against the height q: above it, at it, or not above the lower place r
abbrev pub Stands : Fraction → Fraction → Fraction → Piece → Type 0
Stands x q r p =
    passes x p ≡ true → IsFraction (height_of x p)
    × ((fraction_lt q (height_of x p) ≡ true) ⊎ ((Same (height_of x p) q) ⊎ (fraction_lt r (height_of x p) ≡ false)))

-- from a height down to a lower place with no height between: what goes on from there comes to be above
pub is_above-lower : (x q r : Fraction) (p : Piece) → IsFraction q → IsFraction r → fraction_lt r q ≡ true → Stands x q r p →
    is_above (point_at x r) p ≡ (is_above (point_at x q) p || goes_on_from x q p)
is_above-lower x q r p i j l s =
    is_above-height x r p j
    ∙ below_or (passes x p) (fraction_lt r (height_of x p)) (fraction_lt q (height_of x p)) (fraction_eq (height_of x p) q)
    (λ t. let k = s t in lower q r (height_of x p) i j k.0 l k.1)
    ∙ ap (λ b. b || goes_on_from x q p) (sym (is_above-height x q p i))
