-- Edges that are level in a column lie right of it in the order of their slopes.
use Rattle.std.proofs.Common.{◌≡◌, refl, ap, sym, ◌∙◌, ℕ, ℤ, pos, negsuc, ◌-ℤ◌, ◌+ℤ◌, ◌*ℤ◌, ◌<ℤ◌, ◌<◌, arith, true, false, [], ◌∷◌}
use Rattle.std.specs.Ordering.{int_cmp}
use Rattle.std.specs.declared.cmp.Ordering.{Ordering}
use Rattle.std.specs.declared.cmp.Ordering.TheVariants.{Equal, Greater, Less}
use Rattle.std.proofs.lemmas.Int.{ints}
use Rattle.sf_grid.specs.Fraction.{Fraction, IsFraction, fraction_lt}
use Rattle.sf_grid.specs.Plane.{Coordinates}
use Rattle.sf_grid.specs.Edge.{Edge, height_cmp, is_vertical, left_end, right_end}
use Rattle.sf_grid.proofs.CallerLemmas.{cmp-scaled, dif, equal_is, gap, gap-line, height_cmp-gap, lt_from_test, mul, num, ring, sum, var}
use Rattle.sf_strips.specs.Slanted.{slope_order}
use Rattle.sf_strips.proofs.CallerLemmas.{cmp-difference, slope_gap}
use Rattle.sf_slabs.proofs.SlabLaws.{IsSlab, Spans, StaysBelow, StaysLevel}

-- the order of two edges' slopes, from their left ends to their right ends
abbrev pub slope_cmp : Edge → Edge → Ordering
slope_cmp e f = int_cmp (slope_gap (left_end e) (right_end e) (left_end f) (right_end f)) (pos 0)

-- the order that the sweep compares is that of the gap
pub slope_cmp-order : (e f : Edge) → slope_cmp e f ≡ slope_order (left_end e) (right_end e) (left_end f) (right_end f)
slope_cmp-order e f =
    cmp-difference
    (((right_end e).y -ℤ (left_end e).y) *ℤ ((right_end f).x -ℤ (left_end f).x))
    (((right_end f).y -ℤ (left_end f).y) *ℤ ((right_end e).x -ℤ (left_end e).x))

-- a gap of 0 in the column x grows by the slopes
pub gap-grows : (u v s t : Coordinates) (x z : Fraction) → gap u v s t x ≡ pos 0 →
    gap u v s t z *ℤ pos x.den ≡ slope_gap u v s t *ℤ (z.num *ℤ pos x.den -ℤ x.num *ℤ pos z.den)
gap-grows u v s t x z e =
    ap (λ g. g *ℤ pos x.den) (sym (gap-line u v s t z))
    ∙ regrouped offset (slope_gap u v s t) (pos x.den) (pos z.den) x.num z.num
    ∙ ap (λ g. g *ℤ pos z.den +ℤ slope_gap u v s t *ℤ (z.num *ℤ pos x.den -ℤ x.num *ℤ pos z.den)) (gap-line u v s t x ∙ e)
    ∙ ring (pos z.den ∷ (slope_gap u v s t *ℤ (z.num *ℤ pos x.den -ℤ x.num *ℤ pos z.den)) ∷ []) (sum (mul (num (pos 0)) (var 0)) (var 1)) (var 1) refl
  where
    offset : ℤ
    offset = (u.y *ℤ v.x -ℤ u.x *ℤ v.y) *ℤ (t.x -ℤ s.x) -ℤ (s.y *ℤ t.x -ℤ s.x *ℤ t.y) *ℤ (v.x -ℤ u.x)

    regrouped : (o g k l m n : ℤ) → (o *ℤ l +ℤ n *ℤ g) *ℤ k ≡ (o *ℤ k +ℤ m *ℤ g) *ℤ l +ℤ g *ℤ (n *ℤ k -ℤ m *ℤ l)
    regrouped o g k l m n =
        ring (o ∷ g ∷ k ∷ l ∷ m ∷ n ∷ [])
        (mul (sum (mul (var 0) (var 3)) (mul (var 5) (var 1))) (var 2))
        (sum (mul (sum (mul (var 0) (var 2)) (mul (var 4) (var 1))) (var 3)) (mul (var 1) (dif (mul (var 5) (var 2)) (mul (var 4) (var 3)))))
        refl

sign-scaled : (g s w : ℤ) (k : ℕ) → 0 < k → pos 0 <ℤ w → g *ℤ pos k ≡ s *ℤ w → int_cmp g (pos 0) ≡ int_cmp s (pos 0)
sign-scaled g s (pos m) k p h e =
    sym (cmp-scaled g k p) ∙ ap (λ z. int_cmp z (pos 0)) e ∙ cmp-scaled s m (omega (arith, ints))
sign-scaled g s (negsuc m) k p h e = absurd (omega (arith, ints))

apart_pos : (x z : Fraction) → fraction_lt x z ≡ true → pos 0 <ℤ (z.num *ℤ pos x.den -ℤ x.num *ℤ pos z.den)
apart_pos x z h = difference (x.num *ℤ pos z.den) (z.num *ℤ pos x.den) (lt_from_test _ _ h)
  where
    difference : (a b : ℤ) → a <ℤ b → pos 0 <ℤ (b -ℤ a)
    difference a b l = omega (arith, ints)

-- edges that are level in a column are right of it in the order of their slopes
pub height_cmp-slopes : (e f : Edge) (x z : Fraction) → is_vertical e ≡ false → is_vertical f ≡ false → IsFraction x → IsFraction z →
    fraction_lt x z ≡ true → height_cmp e f x ≡ Equal → height_cmp e f z ≡ slope_cmp e f
height_cmp-slopes e f x z s t i j h k =
    let level : gap (left_end e) (right_end e) (left_end f) (right_end f) x ≡ pos 0 =
    equal_is (gap (left_end e) (right_end e) (left_end f) (right_end f) x) (pos 0) (sym (height_cmp-gap e f x s t i) ∙ k) in
    height_cmp-gap e f z s t j
    ∙ sign-scaled (gap (left_end e) (right_end e) (left_end f) (right_end f) z)
    (slope_gap (left_end e) (right_end e) (left_end f) (right_end f))
    (z.num *ℤ pos x.den -ℤ x.num *ℤ pos z.den) x.den i.positive (apart_pos x z h)
    (gap-grows (left_end e) (right_end e) (left_end f) (right_end f) x z level)

-- two edges that are level at the left: the one that rises less stays below, and those of one slope stay level
pub stays_below-slope : (x y : Fraction) (e f : Edge) → IsSlab x y → Spans x y e → Spans x y f →
    height_cmp f e x ≡ Equal → slope_cmp f e ≡ Less → StaysBelow x y e f
stays_below-slope x y e f s h k l m =
    let at_right = height_cmp-slopes f e x y k.slants h.slants s.left s.right s.apart l ∙ m in
    record {
      at_left = λ g. equal_not_greater (sym l ∙ g);
      inside = λ z i a b. height_cmp-slopes f e x z k.slants h.slants s.left i a l ∙ m;
      at_right = λ g. less_not_greater (sym at_right ∙ g);
    }
  where
    equal_not_greater : Equal ≡ Greater → ⊥
    equal_not_greater q = cc

    less_not_greater : Less ≡ Greater → ⊥
    less_not_greater q = cc

pub stays_level-slope : (x y : Fraction) (e f : Edge) → IsSlab x y → Spans x y e → Spans x y f →
    height_cmp f e x ≡ Equal → slope_cmp f e ≡ Equal → StaysLevel x y e f
stays_level-slope x y e f s h k l m =
    record {
      at_left = l;
      inside = λ z i a b. height_cmp-slopes f e x z k.slants h.slants s.left i a l ∙ m;
      at_right = height_cmp-slopes f e x y k.slants h.slants s.left s.right s.apart l ∙ m;
    }
