-- Two edges between two columns: where they don't meet inside, their order at the left column holds at every place.
use Rattle.std.proofs.Common.{◌≡◌, ◌≢◌, sym, ◌∙◌, ℤ, pos, ◌*ℤ◌, ◌≤ℤ◌, ◌<ℤ◌, arith, Bool, true, false, cond}
use Rattle.std.specs.declared.cmp.Ordering.TheVariants.{Equal, Greater, Less}
use Rattle.std.proofs.lemmas.Int.{ints}
use Rattle.sf_grid.specs.Fraction.{Fraction, IsFraction, fraction_le, fraction_lt}
use Rattle.sf_grid.specs.Edge.{Edge, height_cmp, is_vertical, left_end, reaches, right_end, within}
use Rattle.sf_grid.specs.Laws.{HasHeight, HaveHeights, ShareNoneInside}
use Rattle.sf_grid.proofs.CallerLemmas.{Reach, lt_from_test, opposite_order_meets, order_is_kept, reach, reach_between, test_from_le, within_from}
use Rattle.std.specs.Prelude.{int_lt}
use Rattle.std.proofs.lemmas.Bool.{and_from}

-- the edge isn't vertical and reaches both columns
pub record Spans (x y : Fraction) (e : Edge) : Type 0 where
  pub slants : is_vertical e ≡ false
  pub at_left : reaches e x ≡ true
  pub at_right : reaches e y ≡ true

-- two columns, the first left of the second
pub record IsSlab (x y : Fraction) : Type 0 where
  pub left : IsFraction x
  pub right : IsFraction y
  pub apart : fraction_lt x y ≡ true

have_heights : (x y : Fraction) (e f : Edge) → IsSlab x y → Spans x y e → Spans x y f → HaveHeights e f x y
have_heights x y e f s h k =
    record {
      first_place = s.left;
      second_place = s.right;
      first_slants = h.slants;
      second_slants = k.slants;
      first_at_first = h.at_left;
      first_at_second = h.at_right;
      second_at_first = k.at_left;
      second_at_second = k.at_right;
    }

-- f is below e, or level with it, at the place
abbrev pub Below : Edge → Edge → Fraction → Type 0
Below e f z = height_cmp f e z ≢ Greater

-- f is strictly below e at every place inside, and weakly at both columns
pub record StaysBelow (x y : Fraction) (e f : Edge) : Type 0 where
  pub at_left : Below e f x
  pub inside : (z : Fraction) → IsFraction z → fraction_lt x z ≡ true → fraction_lt z y ≡ true → height_cmp f e z ≡ Less
  pub at_right : Below e f y

-- f and e are one line: level at every place inside and at both columns
pub record StaysLevel (x y : Fraction) (e f : Edge) : Type 0 where
  pub at_left : height_cmp f e x ≡ Equal
  pub inside : (z : Fraction) → IsFraction z → fraction_lt x z ≡ true → fraction_lt z y ≡ true → height_cmp f e z ≡ Equal
  pub at_right : height_cmp f e y ≡ Equal

differ : Less ≢ Equal
differ e = cc

less_not_greater : Less ≢ Greater
less_not_greater e = cc

equal_not_greater : Equal ≢ Greater
equal_not_greater e = cc

-- two edges of which the second is strictly below the first at the left, and that don't meet inside
pub stays_below : (x y : Fraction) (e f : Edge) → IsSlab x y → Spans x y e → Spans x y f → ShareNoneInside f e x y →
    height_cmp f e x ≡ Less → StaysBelow x y e f
stays_below x y e f s h k none l =
    let both = have_heights x y f e s k h in
    record {
      at_left = λ g. less_not_greater (sym l ∙ g);
      inside =
          λ z i a b.
          let kept = order_is_kept f e x y z both none i a b in
          kept.from_first (λ q. differ (sym l ∙ q)) ∙ l;
      at_right = λ g. none (opposite_order_meets f e x y both s.apart l g);
    }

-- ---- places inside
le_of : (p q : Fraction) → fraction_lt p q ≡ true → fraction_le p q ≡ true
le_of p q h = test_from_le _ _ (weaker (p.num *ℤ pos q.den) (q.num *ℤ pos p.den) (lt_from_test _ _ h))
  where
    weaker : (s t : ℤ) → s <ℤ t → s ≤ℤ t
    weaker s t l = omega (arith, ints)

pub reached_from : (e : Edge) (z : Fraction) → Reach (left_end e) (right_end e) z → reaches e z ≡ true
reached_from e z r = by_test (int_lt e.b.x e.a.x) r
  where
    by_test : (t : Bool) → Reach (cond t e.b e.a) (cond t e.a e.b) z → within (cond t e.b.x e.a.x) (cond t e.a.x e.b.x) z ≡ true
    by_test true k = and_from _ _ (test_from_le _ _ k.low) (test_from_le _ _ k.high)
    by_test false k = and_from _ _ (test_from_le _ _ k.low) (test_from_le _ _ k.high)

-- an edge that spans a slab has a height at every place inside
pub height_inside : (x y : Fraction) (e : Edge) → IsSlab x y → Spans x y e → (z : Fraction) → IsFraction z → fraction_lt x z ≡ true → fraction_lt z y ≡ true → HasHeight e z
height_inside x y e s h z i a b =
    record {
      slants = h.slants;
      reached =
          reached_from e z
          (reach_between (left_end e) (right_end e) x y z (within_from x y z s.apart (le_of x z a) (le_of z y b)) (reach e x h.at_left) (reach e y h.at_right));
    }
