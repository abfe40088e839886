-- The side of a point against an edge that runs to the right, and the one point that two edges share.
use Rattle.std.proofs.Common.{◌≡◌, ◌≢◌, refl, ap, sym, ◌∙◌, ℕ, ℤ, pos, ◌-ℤ◌, ◌*ℤ◌, ◌<ℤ◌, ◌<◌, ◌*◌, arith, [], ◌∷◌}
use Rattle.std.specs.Ordering.{int_cmp}
use Rattle.std.specs.declared.cmp.Ordering.TheVariants.{Equal, Greater, Less}
use Rattle.std.proofs.lemmas.Bool.{and_parts}
use Rattle.std.proofs.lemmas.Int.{ints}
use Rattle.sf_grid.specs.declared.meet.Meet.TheVariants.{At}
use Rattle.sf_grid.specs.declared.turn.Turn.TheVariants.{Left, Right, Straight}
use Rattle.sf_grid.specs.Fraction.{Fraction, fraction_cmp}
use Rattle.sf_grid.specs.Plane.{Coordinates, IsPoint, IsSamePoint, Point, point_at, x_of, y_of}
use Rattle.sf_grid.specs.Edge.{Edge, cross, height_rightward}
use Rattle.sf_grid.specs.Sharing.{IsSharing, turn_by}
use Rattle.sf_grid.proofs.CallerLemmas.{cmp-scaled, cross-same, eq_from_test, is_less, lt_from_mul, lt_from_test, mul, mul_lt, product_pos, ring, var}
use Rattle.sf_strips.specs.Slanted.{RightwardEdge, ShareNoneAfter, side_of}
use Rattle.sf_strips.proofs.SideLaws.{cmp-side}

-- how much steeper the line from u to v rises than that from s to t, times both runs
abbrev pub slope_gap : Coordinates → Coordinates → Coordinates → Coordinates → ℤ
slope_gap u v s t = (v.y -ℤ u.y) *ℤ (t.x -ℤ s.x) -ℤ (t.y -ℤ s.y) *ℤ (v.x -ℤ u.x)

-- the height at the place x of an edge of the order
abbrev pub height_in : Fraction → RightwardEdge → Fraction
height_in x e = height_rightward e.left e.right x

-- ---- the side of a point is the sign of its cross product
pub side_of-cross : (u v : Coordinates) (p : Point) → IsPoint p → u.x <ℤ v.x → side_of u v p ≡ int_cmp (cross u v p) (pos 0)
side_of-cross u v p i h =
    let q = point_at (x_of p) (y_of p) in
    let same = cross-same u v p q (squared p.x) (squared p.y) in
    sym (cmp-side u v (x_of p) (y_of p) h)
    ∙ sym (cmp-scaled (cross u v q) p.d i.positive)
    ∙ ap (λ z. int_cmp z (pos 0)) (sym same)
    ∙ cmp-scaled (cross u v p) (p.d * p.d) (product_pos p.d p.d i.positive i.positive)
  where
    squared : (z : ℤ) → z *ℤ pos (p.d * p.d) ≡ z *ℤ pos p.d *ℤ pos p.d
    squared z = ring (z ∷ pos p.d ∷ []) (mul (var 0) (mul (var 1) (var 1))) (mul (mul (var 0) (var 1)) (var 1)) refl

pub left_is_above : (z : ℤ) → turn_by (int_cmp (pos 0) z) ≡ Left → int_cmp z (pos 0) ≡ Greater
left_is_above z h = grind (arith, ints)

pub straight_is_on : (z : ℤ) → turn_by (int_cmp (pos 0) z) ≡ Straight → int_cmp z (pos 0) ≡ Equal
straight_is_on z h = grind (arith, ints)

pub right_is_below : (z : ℤ) → turn_by (int_cmp (pos 0) z) ≡ Right → int_cmp z (pos 0) ≡ Less
right_is_below z h = grind (arith, ints)

-- ---- the one point that two edges share
lt_moved : (x : Fraction) (a b : ℤ) (k l : ℕ) → 0 < k → 0 < l → a *ℤ pos l ≡ b *ℤ pos k → (x.num *ℤ pos k) <ℤ (a *ℤ pos x.den) → (x.num *ℤ pos l) <ℤ (b *ℤ pos x.den)
lt_moved x a b k l i j e h =
    lt_from_mul (x.num *ℤ pos l) (b *ℤ pos x.den) k
    (let m : (x.num *ℤ pos k *ℤ pos l) <ℤ (a *ℤ pos x.den *ℤ pos l) = mul_lt (x.num *ℤ pos k) (a *ℤ pos x.den) l j h in
    let first = ring (x.num ∷ pos k ∷ pos l ∷ []) (mul (mul (var 0) (var 2)) (var 1)) (mul (mul (var 0) (var 1)) (var 2)) refl in
    let second =
    ring (b ∷ pos x.den ∷ pos k ∷ []) (mul (mul (var 0) (var 1)) (var 2)) (mul (mul (var 0) (var 2)) (var 1)) refl
    ∙ ap (λ z. z *ℤ pos x.den) (sym e)
    ∙ ring (a ∷ pos l ∷ pos x.den ∷ []) (mul (mul (var 0) (var 1)) (var 2)) (mul (mul (var 0) (var 2)) (var 1)) refl in
    omega (arith, ints))

-- where it isn't right of a column, the edges share none there
pub none_after : (e f : Edge) (x : Fraction) (q : Point) → IsSharing e f (At q) → fraction_cmp x (x_of q) ≢ Less → ShareNoneAfter e f x
none_after e f x q h n p i both l =
    let same : IsSamePoint p q = (h.1 p i).0 both in
    n (is_less _ _ (lt_moved x p.x q.x p.d q.d i.positive h.0.positive (eq_from_test _ _ (and_parts _ _ same).0) (lt_from_test _ _ l)))
