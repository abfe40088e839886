-- Two edges that share ends alone keep their order from one place to another.
use Rattle.std.proofs.Common.{◌≡◌, ◌≢◌, ℕ, refl, ap, sym, ◌∙◌, ℤ, pos, ◌+ℤ◌, ◌-ℤ◌, ◌*ℤ◌, ◌≤ℤ◌, ◌<ℤ◌, ◌<◌, arith, [], ◌∷◌, Bool, true, false, inl, inr, ◌⊎◌, subst}
use Rattle.std.specs.declared.cmp.Ordering.{Ordering}
use Rattle.std.specs.declared.cmp.Ordering.TheVariants.{Equal, Greater, Less}
use Rattle.std.proofs.lemmas.Int.{ints, by_lt_z}
use Rattle.sf_grid.specs.Fraction.{Fraction, IsFraction, fraction_lt, whole}
use Rattle.sf_grid.specs.Plane.{Coordinates, IsPoint, Point, grid_point, x_of}
use Rattle.sf_grid.specs.Edge.{Edge, cross, height_cmp}
use Rattle.sf_grid.specs.Laws.{HaveHeights, ShareNoneInside, SharePointInside}
use Rattle.sf_grid.proofs.CallerLemmas.{dif, lt_from_test, mul, mul_le, order_is_kept, ring, test_from_lt, var}
use Rattle.sf_grid.proofs.MeanLaws.{cross-end}
use Rattle.sf_grid.proofs.Ring.{num}
use Rattle.sf_first_meeting.specs.Orders.{IsBelow, IsEnd, IsWithin, ShareEnds}
use Rattle.sf_first_meeting.proofs.SideLaws.{AtPlace, lower-over, lower-under, reached, slants}

-- both edges rise, and reach from x to y
pub record Span (e f : Edge) (x y : ℤ) : Type 0 where
  pub first_begun : e.a.x ≤ℤ x
  pub second_begun : f.a.x ≤ℤ x
  pub runs : x <ℤ y
  pub first_goes : y ≤ℤ e.b.x
  pub second_goes : y ≤ℤ f.b.x

one_of : (x y : ℤ) → x ≤ℤ y → (x *ℤ pos 1) ≤ℤ y
one_of x y h = omega (arith, ints)

of_one : (x y : ℤ) → x ≤ℤ y → x ≤ℤ (y *ℤ pos 1)
of_one x y h = omega (arith, ints)

through : (a b c d : ℤ) → a ≤ℤ b → b <ℤ c → c ≤ℤ d → a <ℤ d
through a b c d h k l = omega (arith, ints)

behind : (a b c : ℤ) → a ≤ℤ b → b <ℤ c → a ≤ℤ c
behind a b c h k = omega (arith, ints)

ahead : (a b c : ℤ) → a <ℤ b → b ≤ℤ c → a ≤ℤ c
ahead a b c h k = omega (arith, ints)

heights : (e f : Edge) (x y : ℤ) → Span e f x y → HaveHeights e f (whole x) (whole y)
heights e f x y s =
    let first = through e.a.x x y e.b.x s.first_begun s.runs s.first_goes in
    let second = through f.a.x x y f.b.x s.second_begun s.runs s.second_goes in
    record {
      first_place = record { positive = omega arith };
      second_place = record { positive = omega arith };
      first_slants = slants e first;
      second_slants = slants f second;
      first_at_first = reached e (whole x) first (one_of _ _ s.first_begun) (of_one _ _ (ahead x y e.b.x s.runs s.first_goes));
      first_at_second = reached e (whole y) first (one_of _ _ (behind e.a.x x y s.first_begun s.runs)) (of_one _ _ s.first_goes);
      second_at_first = reached f (whole x) second (one_of _ _ s.second_begun) (of_one _ _ (ahead x y f.b.x s.runs s.second_goes));
      second_at_second = reached f (whole y) second (one_of _ _ (behind f.a.x x y s.second_begun s.runs)) (of_one _ _ s.second_goes);
    }

-- an end is not strictly inside
none-inside : (e f : Edge) (x y : ℤ) → Span e f x y → ShareEnds e f → ShareNoneInside e f (whole x) (whole y)
none-inside e f x y s share i = by (share i.point i.is_point i.on_both).0
  where
    by : IsEnd e i.point → ⊥
    by (inl h) =
        let low : (e.a.x *ℤ pos i.point.d) ≤ℤ (x *ℤ pos i.point.d) = mul_le e.a.x x i.point.d s.first_begun in
        let past : (x *ℤ pos i.point.d) <ℤ (i.point.x *ℤ pos 1) = lt_from_test _ _ i.past_first in
        let at : i.point.x ≡ e.a.x *ℤ pos i.point.d = h.0 in
        clash i.point.x _ _ at low past
      where
        clash : (p a b : ℤ) → p ≡ a → a ≤ℤ b → b <ℤ (p *ℤ pos 1) → ⊥
        clash p a b h k l = omega (arith, ints)
    by (inr h) =
        let high : (y *ℤ pos i.point.d) ≤ℤ (e.b.x *ℤ pos i.point.d) = mul_le y e.b.x i.point.d s.first_goes in
        let before : (i.point.x *ℤ pos 1) <ℤ (y *ℤ pos i.point.d) = lt_from_test _ _ i.before_second in
        let at : i.point.x ≡ e.b.x *ℤ pos i.point.d = h.0 in
        clash i.point.x _ _ at high before
      where
        clash : (p a b : ℤ) → p ≡ a → b ≤ℤ a → (p *ℤ pos 1) <ℤ b → ⊥
        clash p a b h k l = omega (arith, ints)

past : (x y : ℤ) (z : Fraction) → IsWithin x y z → fraction_lt (whole x) z ≡ true
past x y z w = test_from_lt _ _ (by (x *ℤ pos z.den) z.num w.past)
  where
    by : (a b : ℤ) → a <ℤ b → a <ℤ (b *ℤ pos 1)
    by a b h = omega (arith, ints)

before : (x y : ℤ) (z : Fraction) → IsWithin x y z → fraction_lt z (whole y) ≡ true
before x y z w = test_from_lt _ _ (by z.num (y *ℤ pos z.den) w.before)
  where
    by : (a b : ℤ) → a <ℤ b → (a *ℤ pos 1) <ℤ b
    by a b h = omega (arith, ints)

less_not_equal : (o : Ordering) → o ≡ Less → o ≢ Equal
less_not_equal o h k = cc

pub kept-from_first : (e f : Edge) (x y : ℤ) (z : Fraction) → Span e f x y → ShareEnds e f → height_cmp e f (whole x) ≡ Less → IsWithin x y z → height_cmp e f z ≡ Less
kept-from_first e f x y z s share h w =
    (order_is_kept e f (whole x) (whole y) z (heights e f x y s) (none-inside e f x y s share) w.is (past x y z w) (before x y z w)).from_first (less_not_equal _ h) ∙ h

pub kept-from_second : (e f : Edge) (x y : ℤ) (z : Fraction) → Span e f x y → ShareEnds e f → height_cmp e f (whole y) ≡ Less → IsWithin x y z → height_cmp e f z ≡ Less
kept-from_second e f x y z s share h w =
    (order_is_kept e f (whole x) (whole y) z (heights e f x y s) (none-inside e f x y s share) w.is (past x y z w) (before x y z w)).from_second (less_not_equal _ h) ∙ h

-- two edges go on behind x
pub record GoOn (e f : Edge) (x : ℤ) : Type 0 where
  pub first_begun : e.a.x ≤ℤ x
  pub second_begun : f.a.x ≤ℤ x
  pub first_goes : x <ℤ e.b.x
  pub second_goes : x <ℤ f.b.x

-- edges that share ends alone and are in order at a place are so until one of them ends
pub below-at : (e f : Edge) (x : ℤ) → GoOn e f x → ShareEnds e f → height_cmp e f (whole x) ≡ Less → IsBelow e f x
below-at e f x g share h =
    record {
      first_begun = g.first_begun;
      second_begun = g.second_begun;
      first_goes = g.first_goes;
      second_goes = g.second_goes;
      lower =
          λ z v w.
          by_lt_z e.b.x f.b.x
          (λ l. kept-from_first e f x e.b.x z
          (record { first_begun = g.first_begun; second_begun = g.second_begun; runs = g.first_goes; first_goes = self_le e.b.x; second_goes = weak _ _ l })
          share h v)
          (λ l. kept-from_first e f x f.b.x z
          (record { first_begun = g.first_begun; second_begun = g.second_begun; runs = g.second_goes; first_goes = l; second_goes = self_le f.b.x })
          share h w);
    }
  where
    self_le : (a : ℤ) → a ≤ℤ a
    self_le a = omega (arith, ints)

    weak : (a b : ℤ) → a <ℤ b → a ≤ℤ b
    weak a b l = omega (arith, ints)

-- two edges from one point, the second to the left of the first
turned : (a b c : Coordinates) → cross a c (grid_point b) ≡ pos 0 -ℤ cross a b (grid_point c)
turned a b c =
    ring (a.x ∷ a.y ∷ b.x ∷ b.y ∷ c.x ∷ c.y ∷ [])
    (dif (mul (dif (var 4) (var 0)) (dif (var 3) (mul (var 1) (num (pos 1))))) (mul (dif (var 5) (var 1)) (dif (var 2) (mul (var 0) (num (pos 1))))))
    (dif (num (pos 0)) (dif (mul (dif (var 2) (var 0)) (dif (var 5) (mul (var 1) (num (pos 1))))) (mul (dif (var 3) (var 1)) (dif (var 4) (mul (var 0) (num (pos 1)))))))
    refl

pub below-fan : (e f : Edge) (x : ℤ) → e.a ≡ f.a → GoOn e f x → e.a.x ≡ x → ShareEnds e f → pos 0 <ℤ cross e.a e.b (grid_point f.b) → IsBelow e f x
below-fan e f x same g at share h =
    record {
      first_begun = g.first_begun;
      second_begun = g.second_begun;
      first_goes = g.first_goes;
      second_goes = g.second_goes;
      lower =
          λ z v w.
          by_lt_z e.b.x f.b.x
          (λ l. kept-from_second e f x e.b.x z
          (record { first_begun = g.first_begun; second_begun = g.second_begun; runs = g.first_goes; first_goes = self_le e.b.x; second_goes = weak _ _ l })
          share
          (lower-under e f (grid_point e.b) rises (zero _ (cross-end e.a e.b)) right_of)
          v)
          (λ l. kept-from_second e f x f.b.x z
          (record { first_begun = g.first_begun; second_begun = g.second_begun; runs = g.second_goes; first_goes = l; second_goes = self_le f.b.x })
          share
          (lower-over e f (grid_point f.b) (record { first = rises.first; second = rises.second; is = record { positive = omega arith } }) h (zero' _ (cross-end f.a f.b)))
          w);
    }
  where
    self_le : (a : ℤ) → a ≤ℤ a
    self_le a = omega (arith, ints)

    weak : (a b : ℤ) → a <ℤ b → a ≤ℤ b
    weak a b l = omega (arith, ints)

    zero : (a : ℤ) → a ≡ pos 0 → pos 0 ≤ℤ a
    zero a k = omega (arith, ints)

    zero' : (a : ℤ) → a ≡ pos 0 → a ≤ℤ pos 0
    zero' a k = omega (arith, ints)

    rise : (a b c : ℤ) → a ≤ℤ b → b <ℤ c → a <ℤ c
    rise a b c k l = omega (arith, ints)

    rises : AtPlace e f (grid_point e.b)
    rises =
        record {
          first = rise e.a.x x e.b.x g.first_begun g.first_goes;
          second = rise f.a.x x f.b.x g.second_begun g.second_goes;
          is = record { positive = omega arith };
        }

    minus : (a b : ℤ) → a ≡ pos 0 -ℤ b → pos 0 <ℤ b → a <ℤ pos 0
    minus a b k l = omega (arith, ints)

    right_of : cross f.a f.b (grid_point e.b) <ℤ pos 0
    right_of =
        minus _ _ (ap (λ (c : Coordinates). cross c f.b (grid_point e.b)) (sym same) ∙ turned e.a e.b f.b) h

-- the order holds further on
pub below-later : (e f : Edge) (x y : ℤ) → IsBelow e f x → x ≤ℤ y → y <ℤ e.b.x → y <ℤ f.b.x → IsBelow e f y
below-later e f x y b h k l =
    record {
      first_begun = trans e.a.x x y b.first_begun h;
      second_begun = trans f.a.x x y b.second_begun h;
      first_goes = k;
      second_goes = l;
      lower = λ z v w. b.lower z (from e.b.x z v) (from f.b.x z w);
    }
  where
    trans : (a b c : ℤ) → a ≤ℤ b → b ≤ℤ c → a ≤ℤ c
    trans a b c i j = omega (arith, ints)

    less : (a b c : ℤ) → a ≤ℤ b → b <ℤ c → a <ℤ c
    less a b c i j = omega (arith, ints)

    from : (r : ℤ) (z : Fraction) → IsWithin y r z → IsWithin x r z
    from r z v = record { is = v.is; past = less (x *ℤ pos z.den) (y *ℤ pos z.den) z.num (mul_le x y z.den h) v.past; before = v.before }

-- a whole place within
pub whole-within : (x y r : ℤ) → x <ℤ y → y <ℤ r → IsWithin x r (whole y)
whole-within x y r h k = record { is = record { positive = omega arith }; past = one x y h; before = one' y r k }
  where
    one : (a b : ℤ) → a <ℤ b → (a *ℤ pos 1) <ℤ b
    one a b l = omega (arith, ints)

    one' : (a b : ℤ) → a <ℤ b → a <ℤ (b *ℤ pos 1)
    one' a b l = omega (arith, ints)
