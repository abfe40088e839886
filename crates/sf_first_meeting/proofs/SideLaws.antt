-- Edges that rise from left to right, and the sides of them on which points lie.
use Rattle.std.proofs.Common.{◌≡◌, ◌≢◌, ℕ, refl, ap, sym, ◌∙◌, ℤ, pos, ◌+ℤ◌, ◌-ℤ◌, ◌*ℤ◌, ◌≤ℤ◌, ◌<ℤ◌, ◌<◌, arith, [], ◌∷◌, Bool, true, false, inl, inr, ◌⊎◌}
use Rattle.std.specs.Prelude.{int_lt, int_le, if◌then◌else◌}
use Rattle.std.specs.Ordering.{int_cmp, int_eq}
use Rattle.std.specs.Int.{int_max, int_min}
use Rattle.std.specs.declared.cmp.Ordering.TheVariants.{Equal, Greater, Less}
use Rattle.std.proofs.lemmas.Bool.{and_from}
use Rattle.std.proofs.lemmas.Int.{clamps, ints, by_lt_z}
use Rattle.sf_grid.specs.Fraction.{Fraction, IsFraction, fraction_cmp, fraction_lt, whole}
use Rattle.sf_grid.specs.Plane.{Coordinates, IsPoint, Point, grid_point, x_of}
use Rattle.sf_grid.specs.Edge.{Edge, IsOnEdge, cross, height_at, height_cmp, height_rightward, is_vertical, left_end, reaches, right_end}
use Rattle.sf_grid.specs.Laws.{HasHeight, HaveHeights, ShareNoneInside, SharePointInside}
use Rattle.sf_grid.specs.Sharing.{IsOnBoth}
use Rattle.sf_grid.proofs.CallerLemmas.{height_cmp-gap, gap, lies, lt_from_test, mul_nonneg-nonneg, mul_pos-pos, order_is_kept, ring, var, dif, mul, sum, test_from_le, test_from_lt, heights_are_ordered, is_less}
use Rattle.sf_grid.proofs.HeightLaws.{cmp-gap, gap_term}
use Rattle.sf_grid.proofs.Ring.{num}
use Rattle.sf_grid.proofs.OrderLaws.{less_is}
use Rattle.sf_grid.proofs.MeanLaws.{cross-end, cross-start}
use Rattle.sf_first_meeting.specs.Orders.{IsBelow, IsEnd, IsWithin, ShareEnds}

-- ---- an edge that rises
pub not_lt : (a b : ℤ) → a <ℤ b → int_lt b a ≡ false
not_lt a b h = grind (arith, ints)

not_eq : (a b : ℤ) → a <ℤ b → int_eq a b ≡ false
not_eq a b h = grind (arith, ints)

pub left-is : (e : Edge) → e.a.x <ℤ e.b.x → left_end e ≡ e.a
left-is e h = ap (λ (t : Bool). if t then e.b else e.a) (not_lt e.a.x e.b.x h)

pub right-is : (e : Edge) → e.a.x <ℤ e.b.x → right_end e ≡ e.b
right-is e h = ap (λ (t : Bool). if t then e.a else e.b) (not_lt e.a.x e.b.x h)

pub slants : (e : Edge) → e.a.x <ℤ e.b.x → is_vertical e ≡ false
slants e h = not_eq e.a.x e.b.x h

min_is : (a b : ℤ) → a <ℤ b → int_min a b ≡ a
min_is a b h = omega (arith, ints, clamps)

max_is : (a b : ℤ) → a <ℤ b → int_max a b ≡ b
max_is a b h = omega (arith, ints, clamps)

pub reached : (e : Edge) (z : Fraction) → e.a.x <ℤ e.b.x → (e.a.x *ℤ pos z.den) ≤ℤ z.num → z.num ≤ℤ (e.b.x *ℤ pos z.den) → reaches e z ≡ true
reached e z h low high =
    and_from _ _
    (ap (λ t. int_le (t *ℤ pos z.den) z.num) (min_is e.a.x e.b.x h) ∙ test_from_le _ _ low)
    (ap (λ t. int_le z.num (t *ℤ pos z.den)) (max_is e.a.x e.b.x h) ∙ test_from_le _ _ high)

-- the order of heights is the sign of the gap
pub cmp-is : (e f : Edge) (z : Fraction) → e.a.x <ℤ e.b.x → f.a.x <ℤ f.b.x → IsFraction z → height_cmp e f z ≡ int_cmp (gap e.a e.b f.a f.b z) (pos 0)
cmp-is e f z h k q =
    ap (λ u. fraction_cmp (height_rightward u (right_end e) z) (height_at f z)) (left-is e h)
    ∙ ap (λ u. fraction_cmp (height_rightward e.a u z) (height_at f z)) (right-is e h)
    ∙ ap (λ u. fraction_cmp (height_rightward e.a e.b z) (height_rightward u (right_end f) z)) (left-is f k)
    ∙ ap (λ u. fraction_cmp (height_rightward e.a e.b z) (height_rightward f.a u z)) (right-is f k)
    ∙ cmp-gap e.a e.b f.a f.b z h k q

-- the gap at the place of a point is by the sides of the edges on which the point lies
gap-sides : (e f : Edge) (p : Point) →
    gap e.a e.b f.a f.b (x_of p) ≡ cross f.a f.b p *ℤ (e.b.x -ℤ e.a.x) -ℤ cross e.a e.b p *ℤ (f.b.x -ℤ f.a.x)
gap-sides e f p =
    ring (e.a.x ∷ e.a.y ∷ e.b.x ∷ e.b.y ∷ f.a.x ∷ f.a.y ∷ f.b.x ∷ f.b.y ∷ p.x ∷ p.y ∷ pos p.d ∷ [])
    (gap_term (var 8) (var 10))
    (dif
    (mul (dif (mul (dif (var 6) (var 4)) (dif (var 9) (mul (var 5) (var 10)))) (mul (dif (var 7) (var 5)) (dif (var 8) (mul (var 4) (var 10))))) (dif (var 2) (var 0)))
    (mul (dif (mul (dif (var 2) (var 0)) (dif (var 9) (mul (var 1) (var 10)))) (mul (dif (var 3) (var 1)) (dif (var 8) (mul (var 0) (var 10))))) (dif (var 6) (var 4))))
    refl

-- ---- signs
negated : (a k : ℤ) → (pos 0 -ℤ a) *ℤ k ≡ pos 0 -ℤ a *ℤ k
negated a k = ring (a ∷ k ∷ []) (mul (dif (num (pos 0)) (var 0)) (var 1)) (dif (num (pos 0)) (mul (var 0) (var 1))) refl

nonpos : (a k : ℤ) → a ≤ℤ pos 0 → pos 0 <ℤ k → (a *ℤ k) ≤ℤ pos 0
nonpos a k h p =
    let m : pos 0 ≤ℤ ((pos 0 -ℤ a) *ℤ k) = mul_nonneg-nonneg (pos 0 -ℤ a) k (omega (arith, ints)) (omega (arith, ints)) in
    let e = negated a k in
    omega (arith, ints)

negative : (a k : ℤ) → a <ℤ pos 0 → pos 0 <ℤ k → (a *ℤ k) <ℤ pos 0
negative a k h p =
    let m : pos 0 <ℤ ((pos 0 -ℤ a) *ℤ k) = mul_pos-pos (pos 0 -ℤ a) k (omega (arith, ints)) p in
    let e = negated a k in
    omega (arith, ints)

nonneg : (a k : ℤ) → pos 0 ≤ℤ a → pos 0 <ℤ k → pos 0 ≤ℤ (a *ℤ k)
nonneg a k h p = mul_nonneg-nonneg a k h (omega (arith, ints))

run : (a b : ℤ) → a <ℤ b → pos 0 <ℤ (b -ℤ a)
run a b h = omega (arith, ints)

lt_zero : (g a b : ℤ) → g ≡ a -ℤ b → a <ℤ b → g <ℤ pos 0
lt_zero g a b e h = omega (arith, ints)

from_zero : (g a b : ℤ) → g ≡ a -ℤ b → g <ℤ pos 0 → a <ℤ b
from_zero g a b e h = omega (arith, ints)

-- both edges rise, and p is a point of the plane
pub record AtPlace (e f : Edge) (p : Point) : Type 0 where
  pub first : e.a.x <ℤ e.b.x
  pub second : f.a.x <ℤ f.b.x
  pub is : IsPoint p

lower-from : (e f : Edge) (p : Point) → AtPlace e f p → (cross f.a f.b p *ℤ (e.b.x -ℤ e.a.x)) <ℤ (cross e.a e.b p *ℤ (f.b.x -ℤ f.a.x)) → height_cmp e f (x_of p) ≡ Less
lower-from e f p r h =
    cmp-is e f (x_of p) r.first r.second (record { positive = r.is.positive })
    ∙ is_less (gap e.a e.b f.a f.b (x_of p)) (pos 0) (lt_zero _ _ _ (gap-sides e f p) h)

from-lower : (e f : Edge) (p : Point) → AtPlace e f p → height_cmp e f (x_of p) ≡ Less → (cross f.a f.b p *ℤ (e.b.x -ℤ e.a.x)) <ℤ (cross e.a e.b p *ℤ (f.b.x -ℤ f.a.x))
from-lower e f p r h =
    from_zero _ _ _ (gap-sides e f p) (less_is (gap e.a e.b f.a f.b (x_of p)) (pos 0) (sym (cmp-is e f (x_of p) r.first r.second (record { positive = r.is.positive })) ∙ h))

between : (a b c : ℤ) → a ≤ℤ b → b <ℤ c → a <ℤ c
between a b c h k = omega (arith, ints)

between' : (a b c : ℤ) → a <ℤ b → b ≤ℤ c → a <ℤ c
between' a b c h k = omega (arith, ints)

-- a point above the first edge and not above the second
pub lower-over : (e f : Edge) (p : Point) → AtPlace e f p → pos 0 <ℤ cross e.a e.b p → cross f.a f.b p ≤ℤ pos 0 → height_cmp e f (x_of p) ≡ Less
lower-over e f p r h k =
    lower-from e f p r (between _ (pos 0) _ (nonpos (cross f.a f.b p) _ k (run _ _ r.first)) (mul_pos-pos (cross e.a e.b p) _ h (run _ _ r.second)))

-- a point not below the first edge and below the second
pub lower-under : (e f : Edge) (p : Point) → AtPlace e f p → pos 0 ≤ℤ cross e.a e.b p → cross f.a f.b p <ℤ pos 0 → height_cmp e f (x_of p) ≡ Less
lower-under e f p r h k =
    lower-from e f p r (between' _ (pos 0) _ (negative (cross f.a f.b p) _ k (run _ _ r.first)) (nonneg (cross e.a e.b p) _ h (run _ _ r.second)))

-- a point not below the upper edge is above the lower one
pub over-lower : (e f : Edge) (p : Point) → AtPlace e f p → height_cmp e f (x_of p) ≡ Less → pos 0 ≤ℤ cross f.a f.b p → pos 0 <ℤ cross e.a e.b p
over-lower e f p r h k =
    let l = from-lower e f p r h in
    let m : pos 0 ≤ℤ (cross f.a f.b p *ℤ (e.b.x -ℤ e.a.x)) = nonneg (cross f.a f.b p) _ k (run _ _ r.first) in
    by_lt_z (pos 0) (cross e.a e.b p) (λ o. o)
    (λ o. absurd (clash _ _ l m (nonpos (cross e.a e.b p) _ o (run _ _ r.second))))
  where
    clash : (a b : ℤ) → a <ℤ b → pos 0 ≤ℤ a → b ≤ℤ pos 0 → ⊥
    clash a b h k l = omega (arith, ints)

-- a point not above the lower edge is below the upper one
pub under-lower : (e f : Edge) (p : Point) → AtPlace e f p → height_cmp e f (x_of p) ≡ Less → cross e.a e.b p ≤ℤ pos 0 → cross f.a f.b p <ℤ pos 0
under-lower e f p r h k =
    let l = from-lower e f p r h in
    let m : (cross e.a e.b p *ℤ (f.b.x -ℤ f.a.x)) ≤ℤ pos 0 = nonpos (cross e.a e.b p) _ k (run _ _ r.second) in
    by_lt_z (cross f.a f.b p) (pos 0) (λ o. o)
    (λ o. absurd (clash _ _ l m (nonneg (cross f.a f.b p) _ o (run _ _ r.first))))
  where
    clash : (a b : ℤ) → a <ℤ b → b ≤ℤ pos 0 → pos 0 ≤ℤ a → ⊥
    clash a b h k l = omega (arith, ints)

-- edges in strict order at a place share no point there
pub lower-shares_none : (e f : Edge) (p : Point) → AtPlace e f p → height_cmp e f (x_of p) ≡ Less → IsOnBoth e f p → ⊥
lower-shares_none e f p r h o = clash _ (over-lower e f p r h (weak _ (lies f p o.1).line)) (lies e p o.0).line
  where
    weak : (a : ℤ) → a ≡ pos 0 → pos 0 ≤ℤ a
    weak a e = omega (arith, ints)

    clash : (a : ℤ) → pos 0 <ℤ a → a ≡ pos 0 → ⊥
    clash a h e = omega (arith, ints)
