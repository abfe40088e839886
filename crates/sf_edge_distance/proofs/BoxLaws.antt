-- Boxes over edges have their points, and points of two boxes are no nearer than these are.
use Rattle.std.proofs.Common.{◌≡◌, refl, subst, sym, ℤ, ℕ, ◌+◌, ◌*◌, ◌-◌, ◌^◌, ◌≤◌, pos, ◌+ℤ◌, ◌-ℤ◌, ◌*ℤ◌, ◌≤ℤ◌, arith, List, [], ◌∷◌, true, false, ◌&&◌, ⊎_elim, min, unsigned_abs}
use Rattle.std.specs.Prelude.{int_le}
use Rattle.std.specs.Int.{int_max, int_min}
use Rattle.std.specs.List.{fold}
use Rattle.std.proofs.lemmas.Bool.{and_from, and_parts, both_ways, or_cases}
use Rattle.std.proofs.lemmas.Int.{by_lt_z, clamps, ints}
use Rattle.sf_grid.specs.Plane.{Coordinates, Point, x_of, y_of}
use Rattle.sf_grid.specs.Edge.{edge_between, in_box, on_edge, within}
use Rattle.sf_grid.proofs.Products.{mul_le, mul_nonneg-nonneg, square_nonneg}
use Rattle.sf_grid.proofs.Ring.{ring, var, num, sum, dif, mul}
use Rattle.sf_grid.proofs.NumberTests.{le_from_test, test_from_le}
use Rattle.sf_geometry.specs.declared.extent.Extent.{Extent}
use Rattle.sf_distance.specs.Mixed.{Mixed}
use Rattle.sf_distance.proofs.CloseLaws.{squares_le}
use Rattle.sf_edge_distance.specs.Boxes.{AreApartBy, IsOver, axis_gap, gap_square, in_extent, with_edge}
use Rattle.sf_edge_distance.specs.Edges.{on_some}

-- ---- wider boxes have more
le-through : (a b c : ℤ) → a ≤ℤ b → b ≤ℤ c → a ≤ℤ c
le-through a b c h k = omega (arith, ints)

wide : (l h l' h' z : ℤ) (d : ℕ) → l' ≤ℤ l → h ≤ℤ h' → (int_le (l *ℤ pos d) z && int_le z (h *ℤ pos d)) ≡ true
    → (int_le (l' *ℤ pos d) z && int_le z (h' *ℤ pos d)) ≡ true
wide l h l' h' z d low high t =
    let both = and_parts (int_le (l *ℤ pos d) z) (int_le z (h *ℤ pos d)) t in
    and_from (int_le (l' *ℤ pos d) z) (int_le z (h' *ℤ pos d))
    (test_from_le (l' *ℤ pos d) z (le-through (l' *ℤ pos d) (l *ℤ pos d) z (mul_le l' l d low) (le_from_test (l *ℤ pos d) z both.0)))
    (test_from_le z (h' *ℤ pos d) (le-through z (h *ℤ pos d) (h' *ℤ pos d) (le_from_test z (h *ℤ pos d) both.1) (mul_le h h' d high)))

-- the first box has all of the second
record IsWider (e f : Extent) : Type 0 where
  left : e.min_x ≤ℤ f.min_x
  right : f.max_x ≤ℤ e.max_x
  below : e.min_y ≤ℤ f.min_y
  above : f.max_y ≤ℤ e.max_y

wider-in : (e f : Extent) (q : Point) → IsWider e f → in_extent f q ≡ true → in_extent e q ≡ true
wider-in e f q w h =
    let both = and_parts (within f.min_x f.max_x (x_of q)) (within f.min_y f.max_y (y_of q)) h in
    and_from (within e.min_x e.max_x (x_of q)) (within e.min_y e.max_y (y_of q))
    (wide f.min_x f.max_x e.min_x e.max_x q.x q.d w.left w.right both.0)
    (wide f.min_y f.max_y e.min_y e.max_y q.y q.d w.below w.above both.1)

wider-self : (e : Extent) → IsWider e e
wider-self e = record { left = omega (arith, ints); right = omega (arith, ints); below = omega (arith, ints); above = omega (arith, ints) }

wider-trans : (e f g : Extent) → IsWider e f → IsWider f g → IsWider e g
wider-trans e f g v w =
    record {
      left = le-through e.min_x f.min_x g.min_x v.left w.left;
      right = le-through g.max_x f.max_x e.max_x w.right v.right;
      below = le-through e.min_y f.min_y g.min_y v.below w.below;
      above = le-through g.max_y f.max_y e.max_y w.above v.above;
    }

min-first : (a b c : ℤ) → int_min (int_min a b) c ≤ℤ a
min-first a b c = omega (arith, ints, clamps)

max-first : (a b c : ℤ) → a ≤ℤ int_max (int_max a b) c
max-first a b c = omega (arith, ints, clamps)

min-both : (a b c : ℤ) → int_min (int_min a b) c ≤ℤ int_min b c
min-both a b c = omega (arith, ints, clamps)

max-both : (a b c : ℤ) → int_max b c ≤ℤ int_max (int_max a b) c
max-both a b c = omega (arith, ints, clamps)

edge-wider : (e : Extent) (edge : Coordinates × Coordinates) → IsWider (with_edge e edge) e
edge-wider e edge =
    record {
      left = min-first e.min_x edge.0.x edge.1.x;
      right = max-first e.max_x edge.0.x edge.1.x;
      below = min-first e.min_y edge.0.y edge.1.y;
      above = max-first e.max_y edge.0.y edge.1.y;
    }

edge-in : (e : Extent) (edge : Coordinates × Coordinates) (q : Point) → on_edge (edge_between edge.0 edge.1) q ≡ true → in_extent (with_edge e edge) q ≡ true
edge-in e edge q h =
    let a = edge.0 in
    let b = edge.1 in
    let box = and_parts (within (int_min a.x b.x) (int_max a.x b.x) (x_of q)) (within (int_min a.y b.y) (int_max a.y b.y) (y_of q))
    (and_parts _ (in_box (edge_between a b) q) h).1 in
    and_from (within (with_edge e edge).min_x (with_edge e edge).max_x (x_of q)) (within (with_edge e edge).min_y (with_edge e edge).max_y (y_of q))
    (wide (int_min a.x b.x) (int_max a.x b.x) (with_edge e edge).min_x (with_edge e edge).max_x q.x q.d (min-both e.min_x a.x b.x) (max-both e.max_x a.x b.x) box.0)
    (wide (int_min a.y b.y) (int_max a.y b.y) (with_edge e edge).min_y (with_edge e edge).max_y q.y q.d (min-both e.min_y a.y b.y) (max-both e.max_y a.y b.y) box.1)

fold-wider : (e : Extent) (edges : List (Coordinates × Coordinates)) → IsWider (fold with_edge e edges) e
fold-wider e [] = wider-self e
fold-wider e (edge ∷ edges) = wider-trans (fold with_edge (with_edge e edge) edges) (with_edge e edge) e (fold-wider (with_edge e edge) edges) (edge-wider e edge)

pub over-fold : (e : Extent) (edges : List (Coordinates × Coordinates)) → IsOver (fold with_edge e edges) edges
over-fold e [] q o on = absurd (both_ways false refl on)
over-fold e (edge ∷ edges) q o on =
    ⊎_elim
    (λ here. wider-in (fold with_edge (with_edge e edge) edges) (with_edge e edge) q (fold-wider (with_edge e edge) edges) (edge-in e edge q here))
    (λ later. over-fold (with_edge e edge) edges q o later)
    (or_cases (on_edge (edge_between edge.0 edge.1) q) (on_some edges q) on)

-- ---- boxes that are apart
-- the greatest of 0 and two numbers is one of the three
max_cases : (P : ℤ → Type 0) (a b : ℤ) → P (pos 0) → (pos 0 ≤ℤ a → P a) → (pos 0 ≤ℤ b → P b) → P (int_max (pos 0) (int_max a b))
max_cases P a b zero first second =
    by_lt_z a b
    (λ l. by_lt_z b (pos 0)
    (λ k. let e : int_max (pos 0) (int_max a b) ≡ pos 0 = omega (arith, ints, clamps) in subst P (sym e) zero)
    (λ k. let e : int_max (pos 0) (int_max a b) ≡ b = omega (arith, ints, clamps) in subst P (sym e) (second k)))
    (λ l. by_lt_z a (pos 0)
    (λ k. let e : int_max (pos 0) (int_max a b) ≡ pos 0 = omega (arith, ints, clamps) in subst P (sym e) zero)
    (λ k. let e : int_max (pos 0) (int_max a b) ≡ a = omega (arith, ints, clamps) in subst P (sym e) (first k)))

-- the square of a gap, times the denominators, is at most that of the way
abbrev AtMost : ℤ → ℤ → ℤ → ℤ → ℤ → Type 0
AtMost p q pd qd g = ((g *ℤ g) *ℤ ((pd *ℤ qd) *ℤ (pd *ℤ qd))) ≤ℤ ((p *ℤ qd -ℤ q *ℤ pd) *ℤ (p *ℤ qd -ℤ q *ℤ pd))

moved : (a b c d : ℤ) → a ≡ b → c ≡ d → a ≤ℤ c → b ≤ℤ d
moved a b c d e f h = omega (arith, ints)

none_at_most : (p q pd qd : ℤ) → AtMost p q pd qd (pos 0)
none_at_most p q pd qd =
    moved (pos 0) _ _ _ (ring (pd ∷ qd ∷ []) (num (pos 0)) (mul (mul (num (pos 0)) (num (pos 0))) (mul (mul (var 0) (var 1)) (mul (var 0) (var 1)))) refl) refl (square_nonneg (p *ℤ qd -ℤ q *ℤ pd))

-- the way is at least the gap, times the denominators
way_at_most : (p q pd qd g : ℤ) → pos 0 ≤ℤ g → pos 0 ≤ℤ (pd *ℤ qd) → (g *ℤ (pd *ℤ qd)) ≤ℤ (q *ℤ pd -ℤ p *ℤ qd) → AtMost p q pd qd g
way_at_most p q pd qd g some positive less =
    moved _ _ _ _
    (ring (g ∷ pd ∷ qd ∷ []) (mul (mul (var 0) (mul (var 1) (var 2))) (mul (var 0) (mul (var 1) (var 2)))) (mul (mul (var 0) (var 0)) (mul (mul (var 1) (var 2)) (mul (var 1) (var 2)))) refl)
    (ring (p ∷ q ∷ pd ∷ qd ∷ []) (mul (dif (mul (var 1) (var 2)) (mul (var 0) (var 3))) (dif (mul (var 1) (var 2)) (mul (var 0) (var 3)))) (mul (dif (mul (var 0) (var 3)) (mul (var 1) (var 2))) (dif (mul (var 0) (var 3)) (mul (var 1) (var 2)))) refl)
    (squares_le (g *ℤ (pd *ℤ qd)) (q *ℤ pd -ℤ p *ℤ qd) (mul_nonneg-nonneg g (pd *ℤ qd) some positive) less)

back_at_most : (p q pd qd g : ℤ) → AtMost q p qd pd g → AtMost p q pd qd g
back_at_most p q pd qd g h =
    moved _ _ _ _
    (ring (g ∷ pd ∷ qd ∷ []) (mul (mul (var 0) (var 0)) (mul (mul (var 2) (var 1)) (mul (var 2) (var 1)))) (mul (mul (var 0) (var 0)) (mul (mul (var 1) (var 2)) (mul (var 1) (var 2)))) refl)
    (ring (p ∷ q ∷ pd ∷ qd ∷ []) (mul (dif (mul (var 1) (var 2)) (mul (var 0) (var 3))) (dif (mul (var 1) (var 2)) (mul (var 0) (var 3)))) (mul (dif (mul (var 0) (var 3)) (mul (var 1) (var 2))) (dif (mul (var 0) (var 3)) (mul (var 1) (var 2)))) refl)
    h

-- numbers of which the one is at most `high` and the other at least `low'`
way_from : (high low' p q : ℤ) (pd qd : ℕ) → p ≤ℤ (high *ℤ pos pd) → (low' *ℤ pos qd) ≤ℤ q → ((low' -ℤ high) *ℤ (pos pd *ℤ pos qd)) ≤ℤ (q *ℤ pos pd -ℤ p *ℤ pos qd)
way_from high low' p q pd qd to from =
    let upper : (p *ℤ pos qd) ≤ℤ (high *ℤ pos pd *ℤ pos qd) = mul_le p (high *ℤ pos pd) qd to in
    let lower : (low' *ℤ pos qd *ℤ pos pd) ≤ℤ (q *ℤ pos pd) = mul_le (low' *ℤ pos qd) q pd from in
    joined (low' *ℤ pos qd *ℤ pos pd) (high *ℤ pos pd *ℤ pos qd) (q *ℤ pos pd) (p *ℤ pos qd) _
    (ring (high ∷ low' ∷ (pos pd) ∷ (pos qd) ∷ []) (mul (dif (var 1) (var 0)) (mul (var 2) (var 3))) (dif (mul (mul (var 1) (var 3)) (var 2)) (mul (mul (var 0) (var 2)) (var 3))) refl)
    lower upper
  where
    joined : (a b c d e : ℤ) → e ≡ a -ℤ b → a ≤ℤ c → d ≤ℤ b → e ≤ℤ (c -ℤ d)
    joined a b c d e f h k = omega (arith, ints)

denominators : (pd qd : ℕ) → pos 0 ≤ℤ (pos pd *ℤ pos qd)
denominators pd qd = mul_nonneg-nonneg (pos pd) (pos qd) (omega (arith, ints)) (omega (arith, ints))

gap_at_most : (low high low' high' p q : ℤ) (pd qd : ℕ) → (low *ℤ pos pd) ≤ℤ p → p ≤ℤ (high *ℤ pos pd) → (low' *ℤ pos qd) ≤ℤ q → q ≤ℤ (high' *ℤ pos qd)
    → AtMost p q (pos pd) (pos qd) (axis_gap low high low' high')
gap_at_most low high low' high' p q pd qd from to from' to' =
    max_cases (AtMost p q (pos pd) (pos qd)) (low' -ℤ high) (low -ℤ high') (none_at_most p q (pos pd) (pos qd))
    (λ some. way_at_most p q (pos pd) (pos qd) (low' -ℤ high) some (denominators pd qd) (way_from high low' p q pd qd to from'))
    (λ some. back_at_most p q (pos pd) (pos qd) (low -ℤ high') (way_at_most q p (pos qd) (pos pd) (low -ℤ high') some (denominators qd pd) (way_from high' low q p qd pd to' from)))

axis_gap-nonneg : (low high low' high' : ℤ) → pos (unsigned_abs (axis_gap low high low' high')) ≡ axis_gap low high low' high'
axis_gap-nonneg low high low' high' = size (axis_gap low high low' high') (nonneg (low' -ℤ high) (low -ℤ high'))
  where
    size : (z : ℤ) → pos 0 ≤ℤ z → pos (unsigned_abs z) ≡ z
    size z h = omega (arith, ints)

    nonneg : (a b : ℤ) → pos 0 ≤ℤ int_max (pos 0) (int_max a b)
    nonneg a b = omega (arith, ints, clamps)

square_at_most : (low high low' high' p q : ℤ) (pd qd : ℕ) → (int_le (low *ℤ pos pd) p && int_le p (high *ℤ pos pd)) ≡ true → (int_le (low' *ℤ pos qd) q && int_le q (high' *ℤ pos qd)) ≡ true
    → AtMost p q (pos pd) (pos qd) (pos (unsigned_abs (axis_gap low high low' high')))
square_at_most low high low' high' p q pd qd h k =
    let first = and_parts (int_le (low *ℤ pos pd) p) (int_le p (high *ℤ pos pd)) h in
    let second = and_parts (int_le (low' *ℤ pos qd) q) (int_le q (high' *ℤ pos qd)) k in
    subst (λ g. AtMost p q (pos pd) (pos qd) g) (sym (axis_gap-nonneg low high low' high'))
    (gap_at_most low high low' high' p q pd qd (le_from_test (low *ℤ pos pd) p first.0) (le_from_test p (high *ℤ pos pd) first.1) (le_from_test (low' *ℤ pos qd) q second.0) (le_from_test q (high' *ℤ pos qd) second.1))

-- both axes together, of a number that is at most the sum of the squares
summed : (x y w : ℕ) (dd dx dy : ℤ) → w ≤ x * x + y * y → pos 0 ≤ℤ dd → ((pos x *ℤ pos x) *ℤ dd) ≤ℤ (dx *ℤ dx) → ((pos y *ℤ pos y) *ℤ dd) ≤ℤ (dy *ℤ dy)
    → (pos (w * 1 + 0) *ℤ dd) ≤ℤ ((dx *ℤ dx +ℤ dy *ℤ dy) *ℤ pos 1)
summed x y w dd dx dy few positive h k =
    let rest : pos 0 ≤ℤ ((pos (x * x + y * y) -ℤ pos w) *ℤ dd) = mul_nonneg-nonneg (pos (x * x + y * y) -ℤ pos w) dd (omega (arith, ints)) positive in
    let plain : pos (w * 1 + 0) ≡ pos w = omega (arith, ints) in
    subst (λ z. (z *ℤ dd) ≤ℤ ((dx *ℤ dx +ℤ dy *ℤ dy) *ℤ pos 1)) (sym plain)
    (joined (pos w *ℤ dd) (pos x *ℤ pos x *ℤ dd) (pos y *ℤ pos y *ℤ dd) (dx *ℤ dx) (dy *ℤ dy) ((pos (x * x + y * y) -ℤ pos w) *ℤ dd)
    (ring ((pos x) ∷ (pos y) ∷ (pos w) ∷ dd ∷ []) (mul (dif (sum (mul (var 0) (var 0)) (mul (var 1) (var 1))) (var 2)) (var 3)) (dif (sum (mul (mul (var 0) (var 0)) (var 3)) (mul (mul (var 1) (var 1)) (var 3))) (mul (var 2) (var 3))) refl) rest h k)
  where
    joined : (a b c d e r : ℤ) → r ≡ b +ℤ c -ℤ a → pos 0 ≤ℤ r → b ≤ℤ d → c ≤ℤ e → a ≤ℤ ((d +ℤ e) *ℤ pos 1)
    joined a b c d e r f g h k = omega (arith, ints)

min-first-nat : (a b : ℕ) → min a b ≤ a
min-first-nat a b = omega arith

pub apart_by : (a b : Extent) (square : Mixed) → square ≡ record { whole = min (gap_square a b) (2 ^ 64 - 1); rest = 0; den = 1 } → AreApartBy a b square
apart_by a b square is =
    subst (λ (s : Mixed). AreApartBy a b s) (sym is)
    (λ p q o i h k.
    let first = and_parts (within a.min_x a.max_x (x_of p)) (within a.min_y a.max_y (y_of p)) h in
    let second = and_parts (within b.min_x b.max_x (x_of q)) (within b.min_y b.max_y (y_of q)) k in
    let x : ℕ = unsigned_abs (axis_gap a.min_x a.max_x b.min_x b.max_x) in
    let y : ℕ = unsigned_abs (axis_gap a.min_y a.max_y b.min_y b.max_y) in
    test_from_le _ _
    (summed x y (min (gap_square a b) (2 ^ 64 - 1)) ((pos p.d *ℤ pos q.d) *ℤ (pos p.d *ℤ pos q.d)) (p.x *ℤ pos q.d -ℤ q.x *ℤ pos p.d) (p.y *ℤ pos q.d -ℤ q.y *ℤ pos p.d)
    (min-first-nat (gap_square a b) (2 ^ 64 - 1)) (square_nonneg (pos p.d *ℤ pos q.d))
    (square_at_most a.min_x a.max_x b.min_x b.max_x p.x q.x p.d q.d first.0 second.0)
    (square_at_most a.min_y a.max_y b.min_y b.max_y p.y q.y p.d q.d first.1 second.1)))
