-- The side of an edge on which a point lies is the order of its y and the edge's height.
use Rattle.std.proofs.Common.{◌≡◌, refl, ap, sym, ◌∙◌, ℤ, pos, ◌-ℤ◌, ◌*ℤ◌, ◌≤ℤ◌, ◌<ℤ◌, ◌<◌, arith, lit<, ℕ, [], ◌∷◌, Bool, true, false, ◌&&◌, ◌||◌, cond, not}
use Rattle.std.specs.Prelude.{int_le, int_lt}
use Rattle.std.specs.Ordering.{int_cmp, int_eq}
use Rattle.std.proofs.lemmas.Int.{ints}
use Rattle.sf_grid.specs.Fraction.{Fraction, IsFraction, fraction_cmp, fraction_eq, fraction_lt}
use Rattle.sf_grid.specs.Plane.{Coordinates, Point, point_at}
use Rattle.sf_grid.specs.Edge.{Edge, below_rightward, cross, edge_above, height_at, height_rightward, is_vertical}
use Rattle.sf_grid.proofs.CallerLemmas.{abs_of_run, cross-point_at, eq_from_test, int_le-scaled, mul, mul_le, ring, runs_right, var}
pub use Rattle.sf_strips.specs.Slanted.{goes_on}

-- ---- tests of a difference
pub cmp-difference : (a b : ℤ) → int_cmp (a -ℤ b) (pos 0) ≡ int_cmp a b
cmp-difference a b = grind (arith, ints)

pub lt-difference : (a b : ℤ) → int_lt (a -ℤ b) (pos 0) ≡ int_lt a b
lt-difference a b = grind (arith, ints)

pub eq-difference : (a b : ℤ) → int_eq (a -ℤ b) (pos 0) ≡ int_eq a b
eq-difference a b = grind (arith, ints)

-- ---- the side of a point of the column x against the line from u to v, which runs to the right
pub side-height : (u v : Coordinates) (x y : Fraction) → u.x <ℤ v.x →
    cross u v (point_at x y)
    ≡ y.num *ℤ pos (height_rightward u v x).den -ℤ (height_rightward u v x).num *ℤ pos y.den
side-height u v x y h =
    cross-point_at u v x y
    ∙ ap (λ r. y.num *ℤ (r *ℤ pos x.den) -ℤ (height_rightward u v x).num *ℤ pos y.den) (sym (abs_of_run u.x v.x h))

pub cmp-side : (u v : Coordinates) (x y : Fraction) → u.x <ℤ v.x →
    int_cmp (cross u v (point_at x y)) (pos 0) ≡ fraction_cmp y (height_rightward u v x)
cmp-side u v x y h =
    ap (λ z. int_cmp z (pos 0)) (side-height u v x y h)
    ∙ cmp-difference (y.num *ℤ pos (height_rightward u v x).den) ((height_rightward u v x).num *ℤ pos y.den)

pub below-side : (u v : Coordinates) (x y : Fraction) → u.x <ℤ v.x →
    int_lt (cross u v (point_at x y)) (pos 0) ≡ fraction_lt y (height_rightward u v x)
below-side u v x y h =
    ap (λ z. int_lt z (pos 0)) (side-height u v x y h)
    ∙ lt-difference (y.num *ℤ pos (height_rightward u v x).den) ((height_rightward u v x).num *ℤ pos y.den)

pub on-side : (u v : Coordinates) (x y : Fraction) → u.x <ℤ v.x →
    int_eq (cross u v (point_at x y)) (pos 0) ≡ fraction_eq y (height_rightward u v x)
on-side u v x y h =
    ap (λ z. int_eq z (pos 0)) (side-height u v x y h)
    ∙ eq-difference (y.num *ℤ pos (height_rightward u v x).den) ((height_rightward u v x).num *ℤ pos y.den)

weaker : (a b : ℤ) → a <ℤ b → a ≤ℤ b
weaker a b h = omega (arith, ints)

or_false : (b : Bool) → (b || false) ≡ b
or_false true = refl
or_false false = refl

-- ---- which edges are above a point
scale_first : (a : ℤ) (d k : ℤ) → a *ℤ d *ℤ k ≡ a *ℤ (d *ℤ k)
scale_first a d k = ring (a ∷ d ∷ k ∷ []) (mul (mul (var 0) (var 1)) (var 2)) (mul (var 0) (mul (var 1) (var 2))) refl

le_reversed : (a b : ℤ) → int_lt a b ≡ not (int_le b a)
le_reversed a b = grind (arith, ints)

times_one : (a : ℤ) → a *ℤ pos 1 ≡ a
times_one a = omega (arith, ints)

-- a comparison stays when both sides are scaled
pub le-scaled : (a b : ℤ) (k : ℕ) → 0 < k → int_le (a *ℤ pos k) (b *ℤ pos k) ≡ int_le a b
le-scaled a b k p = int_le-scaled (a *ℤ pos k) (b *ℤ pos k) a b 1 k (lit< tt) p (times_one (a *ℤ pos k)) (times_one (b *ℤ pos k))

pub lt-scaled : (a b : ℤ) (k : ℕ) → 0 < k → int_lt (a *ℤ pos k) (b *ℤ pos k) ≡ int_lt a b
lt-scaled a b k p = le_reversed (a *ℤ pos k) (b *ℤ pos k) ∙ ap not (le-scaled b a k p) ∙ sym (le_reversed a b)

-- the columns from u on, up to v
from_column : (u : ℤ) (x y : Fraction) → IsFraction y → int_le (u *ℤ pos (point_at x y).d) (point_at x y).x ≡ int_le (u *ℤ pos x.den) x.num
from_column u x y p =
    ap (λ z. int_le z (x.num *ℤ pos y.den)) (sym (scale_first u (pos x.den) (pos y.den)))
    ∙ le-scaled (u *ℤ pos x.den) x.num y.den p.positive

to_column : (v : ℤ) (x y : Fraction) → IsFraction y → int_lt (point_at x y).x (v *ℤ pos (point_at x y).d) ≡ int_lt x.num (v *ℤ pos x.den)
to_column v x y p =
    ap (λ z. int_lt (x.num *ℤ pos y.den) z) (sym (scale_first v (pos x.den) (pos y.den)))
    ∙ lt-scaled x.num (v *ℤ pos x.den) y.den p.positive

-- a line that runs to the right is above the points of its columns that are below its height
pub below_rightward-height : (u v : Coordinates) (x y : Fraction) → u.x <ℤ v.x → IsFraction y →
    below_rightward u v (point_at x y)
    ≡ (int_le (u.x *ℤ pos x.den) x.num && int_lt x.num (v.x *ℤ pos x.den) && fraction_lt y (height_rightward u v x))
below_rightward-height u v x y h p =
    ap (λ b. b && int_lt (point_at x y).x (v.x *ℤ pos (point_at x y).d) && int_lt (cross u v (point_at x y)) (pos 0)) (from_column u.x x y p)
    ∙ ap (λ b. int_le (u.x *ℤ pos x.den) x.num && b && int_lt (cross u v (point_at x y)) (pos 0)) (to_column v.x x y p)
    ∙ ap (λ b. int_le (u.x *ℤ pos x.den) x.num && int_lt x.num (v.x *ℤ pos x.den) && b) (below-side u v x y h)

-- no column is from u on and up to a v that isn't right of u
no_columns : (u v n : ℤ) (k : ℕ) (b : Bool) → v ≤ℤ u → (int_le (u *ℤ pos k) n && int_lt n (v *ℤ pos k) && b) ≡ false
no_columns u v n k b h = let m : (v *ℤ pos k) ≤ℤ (u *ℤ pos k) = mul_le v u k h in grind (arith, ints)

below_leftward : (u v : Coordinates) (p : Point) → v.x ≤ℤ u.x → below_rightward u v p ≡ false
below_leftward u v p h = no_columns u.x v.x p.x p.d (int_lt (cross u v p) (pos 0)) h

-- an edge is above the points of its columns that are below its height
pub edge_above-height : (e : Edge) (x y : Fraction) → is_vertical e ≡ false → IsFraction y →
    edge_above e (point_at x y) ≡ (goes_on e x && fraction_lt y (height_at e x))
edge_above-height e x y h p = by_test (int_lt e.b.x e.a.x) refl (runs_right e h)
  where
    by_test : (t : Bool) → int_lt e.b.x e.a.x ≡ t → (cond t e.b e.a).x <ℤ (cond t e.a e.b).x →
        edge_above e (point_at x y)
        ≡ ((int_le ((cond t e.b e.a).x *ℤ pos x.den) x.num && int_lt x.num ((cond t e.a e.b).x *ℤ pos x.den))
        && fraction_lt y (height_rightward (cond t e.b e.a) (cond t e.a e.b) x))
    by_test true i r =
        ap (λ b. b || below_rightward e.b e.a (point_at x y)) (below_leftward e.a e.b (point_at x y) (weaker e.b.x e.a.x r))
        ∙ below_rightward-height e.b e.a x y r p
    by_test false i r =
        ap (λ b. below_rightward e.a e.b (point_at x y) || b) (below_leftward e.b e.a (point_at x y) (weaker e.a.x e.b.x r))
        ∙ or_false (below_rightward e.a e.b (point_at x y))
        ∙ below_rightward-height e.a e.b x y r p

-- a vertical edge is above no point
pub edge_above-vertical : (e : Edge) (p : Point) → is_vertical e ≡ true → edge_above e p ≡ false
edge_above-vertical e p h =
    let same : e.a.x ≡ e.b.x = eq_from_test e.a.x e.b.x h in
    ap (λ b. b || below_rightward e.b e.a p) (below_leftward e.a e.b p (omega (arith, ints)))
    ∙ below_leftward e.b e.a p (omega (arith, ints))
