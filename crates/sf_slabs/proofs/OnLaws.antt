-- A point is on a piece where the piece has its column and, in that column, its height.
use Rattle.std.proofs.Common.{◌≡◌, refl, ap, sym, ◌∙◌, ℕ, ℤ, pos, ◌-ℤ◌, ◌*ℤ◌, ◌<◌, ◌*◌, arith, [], ◌∷◌, Bool, true, false, ◌&&◌, cond}
use Rattle.std.specs.Prelude.{int_le, int_lt}
use Rattle.std.specs.Int.{int_max, int_min}
use Rattle.std.specs.Ordering.{int_eq}
use Rattle.std.proofs.lemmas.Bool.{and_from, and_parts}
use Rattle.std.proofs.lemmas.Int.{clamps, ints}
use Rattle.sf_grid.specs.Fraction.{Fraction, IsFraction, fraction_eq, whole}
use Rattle.sf_grid.specs.Plane.{Coordinates, IsPoint, Point, grid_point, point_at, same_point, x_of, y_of}
use Rattle.sf_grid.specs.Edge.{Edge, cross, height_at, is_vertical, left_end, on_edge, reaches, right_end, within}
use Rattle.sf_grid.proofs.CallerLemmas.{Same, cross-swap, dif, eq_from_mul, eq_from_test, lies, mul, num, on_edge_at, product_pos, reach, ring, runs_right, same_tests, test_from_eq, var, within-same}
use Rattle.sf_strips.proofs.CallerLemmas.{on-side}

-- ---- the coordinates of a point of a column
pub x_of-point_at : (x y : Fraction) → Same (x_of (point_at x y)) x
x_of-point_at x y =
    ring (x.num ∷ pos x.den ∷ pos y.den ∷ []) (mul (mul (var 0) (var 2)) (var 1)) (mul (var 0) (mul (var 1) (var 2))) refl

pub y_of-point_at : (x y : Fraction) → Same (y_of (point_at x y)) y
y_of-point_at x y =
    ring (y.num ∷ pos x.den ∷ pos y.den ∷ []) (mul (mul (var 0) (var 1)) (var 2)) (mul (var 0) (mul (var 1) (var 2))) refl

pub IsPoint-point_at : (x y : Fraction) → IsFraction x → IsFraction y → IsPoint (point_at x y)
IsPoint-point_at x y p q = record { positive = product_pos x.den y.den p.positive q.positive }

-- whether a number is between two bounds goes by the point's coordinate
pub within-x : (low high : ℤ) (x y : Fraction) → IsFraction x → IsFraction y →
    within low high (x_of (point_at x y)) ≡ within low high x
within-x low high x y p q =
    within-same low high (x_of (point_at x y)) x (record { positive = product_pos x.den y.den p.positive q.positive }) p (x_of-point_at x y)

pub within-y : (low high : ℤ) (x y : Fraction) → IsFraction x → IsFraction y →
    within low high (y_of (point_at x y)) ≡ within low high y
within-y low high x y p q =
    within-same low high (y_of (point_at x y)) y (record { positive = product_pos x.den y.den p.positive q.positive }) q (y_of-point_at x y)

-- ---- an edge that isn't vertical
line_rightward : (e : Edge) (p : Point) → cross e.a e.b p ≡ pos 0 → cross (left_end e) (right_end e) p ≡ pos 0
line_rightward e p h = by_test (int_lt e.b.x e.a.x)
  where
    by_test : (t : Bool) → cross (cond t e.b e.a) (cond t e.a e.b) p ≡ pos 0
    by_test true = cross-swap e.a e.b p h
    by_test false = h

-- a point is on it where it reaches the point's column, at the point's height
pub on_edge-height : (e : Edge) (x y : Fraction) → is_vertical e ≡ false → IsFraction x → IsFraction y →
    on_edge e (point_at x y) ≡ (reaches e x && fraction_eq y (height_at e x))
on_edge-height e x y h p q =
    same_tests _ _
    (λ k.
    let l = lies e (point_at x y) k in
    and_from _ _
    (sym (within-x (int_min e.a.x e.b.x) (int_max e.a.x e.b.x) x y p q) ∙ l.x)
    (sym (on-side (left_end e) (right_end e) x y (runs_right e h))
    ∙ test_from_eq _ _ (line_rightward e (point_at x y) l.line)))
    (λ k.
    let parts = and_parts (reaches e x) (fraction_eq y (height_at e x)) k in
    on_edge_at e x y h p q (reach e x parts.0)
    (eq_from_test _ _ (on-side (left_end e) (right_end e) x y (runs_right e h) ∙ parts.1)))

-- ---- a vertical edge
between_same : (a b z : ℤ) (k : ℕ) → a ≡ b →
    (int_le (int_min a b *ℤ pos k) z && int_le z (int_max a b *ℤ pos k)) ≡ int_eq (a *ℤ pos k) (z *ℤ pos 1)
between_same a b z k e =
    let low : int_min a b ≡ a = omega (arith, ints, clamps) in
    let high : int_max a b ≡ a = omega (arith, ints, clamps) in
    let one : z *ℤ pos 1 ≡ z = omega (arith, ints) in
    ap (λ m. int_le (m *ℤ pos k) z && int_le z (int_max a b *ℤ pos k)) low
    ∙ ap (λ m. int_le (a *ℤ pos k) z && int_le z (m *ℤ pos k)) high
    ∙ squeezed (a *ℤ pos k) z
    ∙ ap (λ m. int_eq (a *ℤ pos k) m) (sym one)
  where
    squeezed : (s t : ℤ) → (int_le s t && int_le t s) ≡ int_eq s t
    squeezed s t = grind (arith, ints)

-- it reaches its own column alone
pub reaches-vertical : (e : Edge) (x : Fraction) → is_vertical e ≡ true → reaches e x ≡ fraction_eq (whole e.a.x) x
reaches-vertical e x h = between_same e.a.x e.b.x x.num x.den (eq_from_test e.a.x e.b.x h)

flat_line : (a b : Coordinates) (p : Point) → a.x ≡ b.x → a.x *ℤ pos p.d ≡ p.x → cross a b p ≡ pos 0
flat_line a b p e f =
    let run : b.x -ℤ a.x ≡ pos 0 = omega (arith, ints) in
    let way : p.x -ℤ a.x *ℤ pos p.d ≡ pos 0 = omega (arith, ints) in
    ap (λ z. z *ℤ (p.y -ℤ a.y *ℤ pos p.d) -ℤ (b.y -ℤ a.y) *ℤ (p.x -ℤ a.x *ℤ pos p.d)) run
    ∙ ap (λ z. pos 0 *ℤ (p.y -ℤ a.y *ℤ pos p.d) -ℤ (b.y -ℤ a.y) *ℤ z) way
    ∙ ring ((p.y -ℤ a.y *ℤ pos p.d) ∷ (b.y -ℤ a.y) ∷ []) (dif (mul (num (pos 0)) (var 0)) (mul (var 1) (num (pos 0)))) (num (pos 0)) refl

-- a point is on it in its column, between its ends' heights
pub on_edge-vertical : (e : Edge) (x y : Fraction) → is_vertical e ≡ true → IsFraction x → IsFraction y →
    on_edge e (point_at x y) ≡ (fraction_eq (whole e.a.x) x && within (int_min e.a.y e.b.y) (int_max e.a.y e.b.y) y)
on_edge-vertical e x y h p q =
    same_tests _ _
    (λ k.
    let l = lies e (point_at x y) k in
    and_from _ _
    (sym (reaches-vertical e x h) ∙ sym (within-x (int_min e.a.x e.b.x) (int_max e.a.x e.b.x) x y p q) ∙ l.x)
    (sym (within-y (int_min e.a.y e.b.y) (int_max e.a.y e.b.y) x y p q) ∙ l.y))
    (λ k.
    let parts = and_parts _ _ k in
    let at : e.a.x *ℤ pos x.den ≡ x.num *ℤ pos 1 = eq_from_test _ _ parts.0 in
    and_from _ _
    (test_from_eq _ _ (flat_line e.a e.b (point_at x y) (eq_from_test e.a.x e.b.x h) (scaled at)))
    (and_from _ _
    (within-x (int_min e.a.x e.b.x) (int_max e.a.x e.b.x) x y p q ∙ reaches-vertical e x h ∙ parts.0)
    (within-y (int_min e.a.y e.b.y) (int_max e.a.y e.b.y) x y p q ∙ parts.1)))
  where
    scaled : e.a.x *ℤ pos x.den ≡ x.num *ℤ pos 1 → e.a.x *ℤ pos (x.den * y.den) ≡ x.num *ℤ pos y.den
    scaled at =
        ring (e.a.x ∷ pos x.den ∷ pos y.den ∷ []) (mul (var 0) (mul (var 1) (var 2))) (mul (mul (var 0) (var 1)) (var 2)) refl
        ∙ ap (λ z. z *ℤ pos y.den) at
        ∙ ring (x.num ∷ pos y.den ∷ []) (mul (mul (var 0) (num (pos 1))) (var 1)) (mul (var 0) (var 1)) refl

-- ---- a dot
eq-scaled : (a b c d : ℤ) (k : ℕ) → 0 < k → a ≡ c *ℤ pos k → b ≡ d *ℤ pos k → int_eq a b ≡ int_eq c d
eq-scaled a b c d k p e f =
    same_tests _ _
    (λ h. test_from_eq c d (eq_from_mul c d k p (sym e ∙ eq_from_test a b h ∙ f)))
    (λ h. test_from_eq a b (e ∙ ap (λ z. z *ℤ pos k) (eq_from_test c d h) ∙ sym f))

-- a point is a dot where both coordinates are
pub same_point-at : (a : Coordinates) (x y : Fraction) → IsFraction x → IsFraction y →
    same_point (grid_point a) (point_at x y) ≡ (fraction_eq (whole a.x) x && fraction_eq (whole a.y) y)
same_point-at a x y p q =
    ap (λ b. b && int_eq (a.y *ℤ pos (x.den * y.den)) (y.num *ℤ pos x.den *ℤ pos 1))
    (eq-scaled _ _ (a.x *ℤ pos x.den) (x.num *ℤ pos 1) y.den q.positive
    (ring (a.x ∷ pos x.den ∷ pos y.den ∷ []) (mul (var 0) (mul (var 1) (var 2))) (mul (mul (var 0) (var 1)) (var 2)) refl)
    (ring (x.num ∷ pos y.den ∷ []) (mul (mul (var 0) (var 1)) (num (pos 1))) (mul (mul (var 0) (num (pos 1))) (var 1)) refl))
    ∙ ap (λ b. fraction_eq (whole a.x) x && b)
    (eq-scaled _ _ (a.y *ℤ pos y.den) (y.num *ℤ pos 1) x.den p.positive
    (ring (a.y ∷ pos x.den ∷ pos y.den ∷ []) (mul (var 0) (mul (var 1) (var 2))) (mul (mul (var 0) (var 2)) (var 1)) refl)
    (ring (y.num ∷ pos x.den ∷ []) (mul (mul (var 0) (var 1)) (num (pos 1))) (mul (mul (var 0) (num (pos 1))) (var 1)) refl))
