-- Right above a grid point inside closed chains lies a triangle inside them.
use Rattle.std.proofs.Common.{◌≡◌, ℕ, suc, ◌+◌, ◌*◌, ◌<◌, arith, lit<, refl, ap, sym, ◌∙◌, subst, ℤ, pos, ◌+ℤ◌, ◌-ℤ◌, ◌*ℤ◌, ◌<ℤ◌, unsigned_abs, true, List, [], ◌∷◌}
use Rattle.std.specs.List.{AllByRecursion}
use Rattle.std.proofs.lemmas.Int.{ints}
use Rattle.sf_grid.specs.Plane.{Coordinates, IsPoint, Point, grid_point}
use Rattle.sf_grid.specs.Edge.{Edge as Line}
use Rattle.sf_grid.proofs.CallerLemmas.{dif, mul, num, ring, sum, var}
use Rattle.sf_plane.proofs.FormLaws.{ArePositive, Form, growths, inside_in, nudged, nudged-point, nudged_in, value}
use Rattle.sf_plane.specs.Dimension.{HasTriangle, PointSet, area}
use Rattle.sf_interiors.proofs.ChainLaws.{IsBalanced}
use Rattle.sf_interiors.proofs.InsideLaws.{IsInside, stays}
use Rattle.sf_interiors.proofs.NudgeLaws.{IsFine, swerve}

-- ---- forms that are positive near c
-- right of it, by less than 1; above it, by less than 1
abbrev right_of : Coordinates → Form
right_of c = record { x = pos 1; y = pos 0; d = pos 0 -ℤ c.x }

abbrev not_far_right : Coordinates → Form
not_far_right c = record { x = pos 0 -ℤ pos 1; y = pos 0; d = pos 1 +ℤ c.x }

abbrev above : Coordinates → Form
above c = record { x = pos 0; y = pos 1; d = pos 0 -ℤ c.y }

abbrev not_far_above : Coordinates → Form
not_far_above c = record { x = pos 0; y = pos 0 -ℤ pos 1; d = pos 1 +ℤ c.y }

-- the step there swerves by less than 1 from the line from u to v, either way
abbrev little_left : Coordinates → Coordinates → Coordinates → Form
little_left c u v = record { x = v.y -ℤ u.y; y = pos 0 -ℤ (v.x -ℤ u.x); d = pos 1 +ℤ (v.x -ℤ u.x) *ℤ c.y -ℤ (v.y -ℤ u.y) *ℤ c.x }

abbrev little_right : Coordinates → Coordinates → Coordinates → Form
little_right c u v = record { x = pos 0 -ℤ (v.y -ℤ u.y); y = v.x -ℤ u.x; d = pos 1 -ℤ (v.x -ℤ u.x) *ℤ c.y +ℤ (v.y -ℤ u.y) *ℤ c.x }

abbrev forms_of : Coordinates → List Line → List Form
forms_of c [] = not_far_right c ∷ not_far_above c ∷ []
forms_of c (e ∷ es) = little_left c e.a e.b ∷ little_right c e.a e.b ∷ forms_of c es

-- ---- at the corner itself
at-corner : (c : Coordinates) (es : List Line) → ArePositive (forms_of c es) (grid_point c)
at-corner c [] = (one (value (not_far_right c) (grid_point c)) (first c.x c.y), (one (value (not_far_above c) (grid_point c)) (second c.x c.y), tt))
  where
    one : (z : ℤ) → z ≡ pos 1 → pos 0 <ℤ z
    one z e = omega (arith, ints)

    first : (x y : ℤ) → (pos 0 -ℤ pos 1) *ℤ x +ℤ pos 0 *ℤ y +ℤ (pos 1 +ℤ x) *ℤ pos 1 ≡ pos 1
    first x y = omega (arith, ints)

    second : (x y : ℤ) → pos 0 *ℤ x +ℤ (pos 0 -ℤ pos 1) *ℤ y +ℤ (pos 1 +ℤ y) *ℤ pos 1 ≡ pos 1
    second x y = omega (arith, ints)
at-corner c (e ∷ es) = (
  one (value (little_left c e.a e.b) (grid_point c)) (left c.x c.y (e.b.x -ℤ e.a.x) (e.b.y -ℤ e.a.y)),
  (one (value (little_right c e.a e.b) (grid_point c)) (right c.x c.y (e.b.x -ℤ e.a.x) (e.b.y -ℤ e.a.y)), at-corner c es),
)
  where
    one : (z : ℤ) → z ≡ pos 1 → pos 0 <ℤ z
    one z e = omega (arith, ints)

    left : (x y r s : ℤ) → s *ℤ x +ℤ (pos 0 -ℤ r) *ℤ y +ℤ (pos 1 +ℤ r *ℤ y -ℤ s *ℤ x) *ℤ pos 1 ≡ pos 1
    left x y r s =
        ring (x ∷ y ∷ r ∷ s ∷ [])
        (sum (sum (mul (var 3) (var 0)) (mul (dif (num (pos 0)) (var 2)) (var 1))) (mul (dif (sum (num (pos 1)) (mul (var 2) (var 1))) (mul (var 3) (var 0))) (num (pos 1))))
        (num (pos 1)) refl

    right : (x y r s : ℤ) → (pos 0 -ℤ s) *ℤ x +ℤ r *ℤ y +ℤ (pos 1 -ℤ r *ℤ y +ℤ s *ℤ x) *ℤ pos 1 ≡ pos 1
    right x y r s =
        ring (x ∷ y ∷ r ∷ s ∷ [])
        (sum (sum (mul (dif (num (pos 0)) (var 3)) (var 0)) (mul (var 2) (var 1))) (mul (sum (dif (num (pos 1)) (mul (var 2) (var 1))) (mul (var 3) (var 0))) (num (pos 1))))
        (num (pos 1)) refl

-- ---- where they are positive the step is fine
abbrev run : Coordinates → Point → ℤ
run c q = q.x -ℤ c.x *ℤ pos q.d

abbrev rise : Coordinates → Point → ℤ
rise c q = q.y -ℤ c.y *ℤ pos q.d

between : (z : ℤ) (k : ℕ) (f g : ℤ) → f ≡ pos k -ℤ z → g ≡ pos k +ℤ z → pos 0 <ℤ f → pos 0 <ℤ g → unsigned_abs z < k
between z k f g e h i j = omega (arith, ints)

fine : (c : Coordinates) (q : Point) (es : List Line) → pos 0 <ℤ run c q → pos 0 <ℤ rise c q → ArePositive (forms_of c es) q → AllByRecursion (IsFine (run c q) (rise c q) q.d) es
fine c q [] right up h = tt
fine c q (e ∷ es) right up h =
    let ends = last es h.1.1 in (
      record {
        across = within (run c q) (value (not_far_right c) q) (first c.x q.x q.y (pos q.d)) right ends.0;
        up = within (rise c q) (value (not_far_above c) q) (second c.y q.x q.y (pos q.d)) up ends.1;
        onward = between (swerve (run c q) (rise c q) e.a e.b) q.d (value (little_left c e.a e.b) q) (value (little_right c e.a e.b) q) (left (e.b.x -ℤ e.a.x) (e.b.y -ℤ e.a.y)) (rightly (e.b.x -ℤ e.a.x) (e.b.y -ℤ e.a.y)) h.0 h.1.0;
        back = between (swerve (run c q) (rise c q) e.b e.a) q.d (value (little_right c e.a e.b) q) (value (little_left c e.a e.b) q) (left_back e.a.x e.b.x e.a.y e.b.y) (right_back e.a.x e.b.x e.a.y e.b.y) h.1.0 h.0;
      },
      fine c q es right up h.1.1,
    )
  where
    last : (fs : List Line) → ArePositive (forms_of c fs) q → (pos 0 <ℤ value (not_far_right c) q) × (pos 0 <ℤ value (not_far_above c) q)
    last [] k = (k.0, k.1.0)
    last (f ∷ fs) k = last fs k.1.1

    within : (z f : ℤ) → f ≡ pos q.d -ℤ z → pos 0 <ℤ z → pos 0 <ℤ f → unsigned_abs z < q.d
    within z f e i j = omega (arith, ints)

    first : (x qx qy d : ℤ) → (pos 0 -ℤ pos 1) *ℤ qx +ℤ pos 0 *ℤ qy +ℤ (pos 1 +ℤ x) *ℤ d ≡ d -ℤ (qx -ℤ x *ℤ d)
    first x qx qy d =
        ring (x ∷ qx ∷ qy ∷ d ∷ [])
        (sum (sum (mul (dif (num (pos 0)) (num (pos 1))) (var 1)) (mul (num (pos 0)) (var 2))) (mul (sum (num (pos 1)) (var 0)) (var 3)))
        (dif (var 3) (dif (var 1) (mul (var 0) (var 3)))) refl

    second : (y qx qy d : ℤ) → pos 0 *ℤ qx +ℤ (pos 0 -ℤ pos 1) *ℤ qy +ℤ (pos 1 +ℤ y) *ℤ d ≡ d -ℤ (qy -ℤ y *ℤ d)
    second y qx qy d =
        ring (y ∷ qx ∷ qy ∷ d ∷ [])
        (sum (sum (mul (num (pos 0)) (var 1)) (mul (dif (num (pos 0)) (num (pos 1))) (var 2))) (mul (sum (num (pos 1)) (var 0)) (var 3)))
        (dif (var 3) (dif (var 2) (mul (var 0) (var 3)))) refl

    left : (r s : ℤ) → s *ℤ q.x +ℤ (pos 0 -ℤ r) *ℤ q.y +ℤ (pos 1 +ℤ r *ℤ c.y -ℤ s *ℤ c.x) *ℤ pos q.d ≡ pos q.d -ℤ (r *ℤ rise c q -ℤ s *ℤ run c q)
    left r s =
        ring (q.x ∷ q.y ∷ pos q.d ∷ c.x ∷ c.y ∷ r ∷ s ∷ [])
        (sum (sum (mul (var 6) (var 0)) (mul (dif (num (pos 0)) (var 5)) (var 1))) (mul (dif (sum (num (pos 1)) (mul (var 5) (var 4))) (mul (var 6) (var 3))) (var 2)))
        (dif (var 2) (dif (mul (var 5) (dif (var 1) (mul (var 4) (var 2)))) (mul (var 6) (dif (var 0) (mul (var 3) (var 2))))))
        refl

    rightly : (r s : ℤ) → (pos 0 -ℤ s) *ℤ q.x +ℤ r *ℤ q.y +ℤ (pos 1 -ℤ r *ℤ c.y +ℤ s *ℤ c.x) *ℤ pos q.d ≡ pos q.d +ℤ (r *ℤ rise c q -ℤ s *ℤ run c q)
    rightly r s =
        ring (q.x ∷ q.y ∷ pos q.d ∷ c.x ∷ c.y ∷ r ∷ s ∷ [])
        (sum (sum (mul (dif (num (pos 0)) (var 6)) (var 0)) (mul (var 5) (var 1))) (mul (sum (dif (num (pos 1)) (mul (var 5) (var 4))) (mul (var 6) (var 3))) (var 2)))
        (sum (var 2) (dif (mul (var 5) (dif (var 1) (mul (var 4) (var 2)))) (mul (var 6) (dif (var 0) (mul (var 3) (var 2))))))
        refl

    left_back : (x u y v : ℤ) → (pos 0 -ℤ (v -ℤ y)) *ℤ q.x +ℤ (u -ℤ x) *ℤ q.y +ℤ (pos 1 -ℤ (u -ℤ x) *ℤ c.y +ℤ (v -ℤ y) *ℤ c.x) *ℤ pos q.d ≡ pos q.d -ℤ ((x -ℤ u) *ℤ rise c q -ℤ (y -ℤ v) *ℤ run c q)
    left_back x u y v =
        ring (q.x ∷ q.y ∷ pos q.d ∷ c.x ∷ c.y ∷ x ∷ u ∷ y ∷ v ∷ [])
        (sum (sum (mul (dif (num (pos 0)) (dif (var 8) (var 7))) (var 0)) (mul (dif (var 6) (var 5)) (var 1))) (mul (sum (dif (num (pos 1)) (mul (dif (var 6) (var 5)) (var 4))) (mul (dif (var 8) (var 7)) (var 3))) (var 2)))
        (dif (var 2) (dif (mul (dif (var 5) (var 6)) (dif (var 1) (mul (var 4) (var 2)))) (mul (dif (var 7) (var 8)) (dif (var 0) (mul (var 3) (var 2))))))
        refl

    right_back : (x u y v : ℤ) → (v -ℤ y) *ℤ q.x +ℤ (pos 0 -ℤ (u -ℤ x)) *ℤ q.y +ℤ (pos 1 +ℤ (u -ℤ x) *ℤ c.y -ℤ (v -ℤ y) *ℤ c.x) *ℤ pos q.d ≡ pos q.d +ℤ ((x -ℤ u) *ℤ rise c q -ℤ (y -ℤ v) *ℤ run c q)
    right_back x u y v =
        ring (q.x ∷ q.y ∷ pos q.d ∷ c.x ∷ c.y ∷ x ∷ u ∷ y ∷ v ∷ [])
        (sum (sum (mul (dif (var 8) (var 7)) (var 0)) (mul (dif (num (pos 0)) (dif (var 6) (var 5))) (var 1))) (mul (dif (sum (num (pos 1)) (mul (dif (var 6) (var 5)) (var 4))) (mul (dif (var 8) (var 7)) (var 3))) (var 2)))
        (sum (var 2) (dif (mul (dif (var 5) (var 6)) (dif (var 1) (mul (var 4) (var 2)))) (mul (dif (var 7) (var 8)) (dif (var 0) (mul (var 3) (var 2))))))
        refl

-- so a point there is inside where c is
reached : (c : Coordinates) (q : Point) → nudged q.d (run c q) (rise c q) (grid_point c) ≡ q
reached c q = same q.x q.y q.d
  where
    at : ℤ → ℤ → ℕ → Point
    at x y d = record { x = x; y = y; d = d }

    same : (x y : ℤ) (d : ℕ) → at (c.x *ℤ pos d +ℤ (x -ℤ c.x *ℤ pos d)) (c.y *ℤ pos d +ℤ (y -ℤ c.y *ℤ pos d)) (1 * d) ≡ at x y d
    same x y d =
        ap (λ z. at z (c.y *ℤ pos d +ℤ (y -ℤ c.y *ℤ pos d)) (1 * d)) (back c.x x (pos d))
        ∙ ap (λ z. at x z (1 * d)) (back c.y y (pos d))
        ∙ ap (at x y) (once d)
      where
        back : (m z k : ℤ) → m *ℤ k +ℤ (z -ℤ m *ℤ k) ≡ z
        back m z k = ring (m ∷ z ∷ k ∷ []) (sum (mul (var 0) (var 2)) (dif (var 1) (mul (var 0) (var 2)))) (var 1) refl

        once : (n : ℕ) → 1 * n ≡ n
        once n = omega arith

inside-near : (c : Coordinates) (es : List Line) (q : Point) → IsBalanced es (grid_point c) → IsInside es (grid_point c) → pos 0 <ℤ run c q → pos 0 <ℤ rise c q →
    ArePositive (forms_of c es) q → IsInside es q
inside-near c es q b h right up near =
    subst (IsInside es) (reached c q) (stays es (grid_point c) (run c q) (rise c q) q.d (record { positive = lit< tt }) b (fine c q es right up near) h)

-- ---- the triangle
pub triangle-near : (c : Coordinates) (es : List Line) (set : PointSet) → IsBalanced es (grid_point c) → IsInside es (grid_point c) →
    ((q : Point) → IsPoint q → (c.x *ℤ pos q.d) <ℤ q.x → IsInside es q → set q ≡ true) → HasTriangle set
triangle-near c es set b h has =
    let fs = forms_of c es in
    let k : ℕ = suc (growths (pos 1) (pos 1) fs + growths (pos 2) (pos 1) fs + growths (pos 1) (pos 2) fs) in
    let is_c : IsPoint (grid_point c) = record { positive = lit< tt } in
    let at = at-corner c es in
    record {
      a = nudged k (pos 1) (pos 1) (grid_point c);
      b = nudged k (pos 2) (pos 1) (grid_point c);
      c = nudged k (pos 1) (pos 2) (grid_point c);
      is_a = nudged-point k (pos 1) (pos 1) (grid_point c) (omega arith) is_c;
      is_b = nudged-point k (pos 2) (pos 1) (grid_point c) (omega arith) is_c;
      is_c = nudged-point k (pos 1) (pos 2) (grid_point c) (omega arith) is_c;
      wide = λ z. not_zero k (omega arith) (sym (area-is k) ∙ z);
      has =
          λ q i j.
          let near =
          inside_in (right_of c ∷ above c ∷ fs) (nudged k (pos 1) (pos 1) (grid_point c)) (nudged k (pos 2) (pos 1) (grid_point c)) (nudged k (pos 1) (pos 2) (grid_point c)) q
          (nudged-point k (pos 1) (pos 1) (grid_point c) (omega arith) is_c) i j
          (to_right k (pos 1) (pos 1) (omega (arith, ints)), (to_above k (pos 1) (pos 1) (omega (arith, ints)), nudged_in fs k (pos 1) (pos 1) (grid_point c) (omega arith) at))
          (to_right k (pos 2) (pos 1) (omega (arith, ints)), (to_above k (pos 2) (pos 1) (omega (arith, ints)), nudged_in fs k (pos 2) (pos 1) (grid_point c) (omega arith) at))
          (to_right k (pos 1) (pos 2) (omega (arith, ints)), (to_above k (pos 1) (pos 2) (omega (arith, ints)), nudged_in fs k (pos 1) (pos 2) (grid_point c) (omega arith) at)) in
          let right = is_right q (value (right_of c) q) (right-is c.x q.x q.y (pos q.d)) near.0 in
          let up = is_up q (value (above c) q) (above-is c.y q.x q.y (pos q.d)) near.1.0 in
          has q i (beyond q right) (inside-near c es q b h right up near.1.1);
    }
  where
    not_zero : (n : ℕ) → 0 < n → pos n ≡ pos 0 → ⊥
    not_zero n l e = absurd (omega (arith, ints))

    area-is : (k : ℕ) → area (nudged k (pos 1) (pos 1) (grid_point c)) (nudged k (pos 2) (pos 1) (grid_point c)) (nudged k (pos 1) (pos 2) (grid_point c)) ≡ pos k
    area-is k =
        ring (c.x ∷ c.y ∷ pos k ∷ [])
        (sum (sum
        (mul (sum (mul (var 0) (var 2)) (num (pos 1))) (dif (mul (sum (mul (var 1) (var 2)) (num (pos 1))) (mul (num (pos 1)) (var 2))) (mul (sum (mul (var 1) (var 2)) (num (pos 2))) (mul (num (pos 1)) (var 2)))))
        (mul (sum (mul (var 0) (var 2)) (num (pos 2))) (dif (mul (sum (mul (var 1) (var 2)) (num (pos 2))) (mul (num (pos 1)) (var 2))) (mul (sum (mul (var 1) (var 2)) (num (pos 1))) (mul (num (pos 1)) (var 2))))))
        (mul (sum (mul (var 0) (var 2)) (num (pos 1))) (dif (mul (sum (mul (var 1) (var 2)) (num (pos 1))) (mul (num (pos 1)) (var 2))) (mul (sum (mul (var 1) (var 2)) (num (pos 1))) (mul (num (pos 1)) (var 2))))))
        (var 2)
        refl

    to_right : (k : ℕ) (i j : ℤ) → pos 0 <ℤ i → pos 0 <ℤ value (right_of c) (nudged k i j (grid_point c))
    to_right k i j l = positive (value (right_of c) (nudged k i j (grid_point c))) i (at_right c.x c.y (pos k) i j) l
      where
        positive : (z y : ℤ) → z ≡ y → pos 0 <ℤ y → pos 0 <ℤ z
        positive z y e m = omega (arith, ints)

        at_right : (x y n r s : ℤ) → pos 1 *ℤ (x *ℤ n +ℤ r) +ℤ pos 0 *ℤ (y *ℤ n +ℤ s) +ℤ (pos 0 -ℤ x) *ℤ (pos 1 *ℤ n) ≡ r
        at_right x y n r s =
            ring (x ∷ y ∷ n ∷ r ∷ s ∷ [])
            (sum (sum (mul (num (pos 1)) (sum (mul (var 0) (var 2)) (var 3))) (mul (num (pos 0)) (sum (mul (var 1) (var 2)) (var 4)))) (mul (dif (num (pos 0)) (var 0)) (mul (num (pos 1)) (var 2))))
            (var 3) refl

    to_above : (k : ℕ) (i j : ℤ) → pos 0 <ℤ j → pos 0 <ℤ value (above c) (nudged k i j (grid_point c))
    to_above k i j l = positive (value (above c) (nudged k i j (grid_point c))) j (at_above c.x c.y (pos k) i j) l
      where
        positive : (z y : ℤ) → z ≡ y → pos 0 <ℤ y → pos 0 <ℤ z
        positive z y e m = omega (arith, ints)

        at_above : (x y n r s : ℤ) → pos 0 *ℤ (x *ℤ n +ℤ r) +ℤ pos 1 *ℤ (y *ℤ n +ℤ s) +ℤ (pos 0 -ℤ y) *ℤ (pos 1 *ℤ n) ≡ s
        at_above x y n r s =
            ring (x ∷ y ∷ n ∷ r ∷ s ∷ [])
            (sum (sum (mul (num (pos 0)) (sum (mul (var 0) (var 2)) (var 3))) (mul (num (pos 1)) (sum (mul (var 1) (var 2)) (var 4)))) (mul (dif (num (pos 0)) (var 1)) (mul (num (pos 1)) (var 2))))
            (var 4) refl

    right-is : (x qx qy d : ℤ) → pos 1 *ℤ qx +ℤ pos 0 *ℤ qy +ℤ (pos 0 -ℤ x) *ℤ d ≡ qx -ℤ x *ℤ d
    right-is x qx qy d = ring (x ∷ qx ∷ qy ∷ d ∷ []) (sum (sum (mul (num (pos 1)) (var 1)) (mul (num (pos 0)) (var 2))) (mul (dif (num (pos 0)) (var 0)) (var 3))) (dif (var 1) (mul (var 0) (var 3))) refl

    above-is : (y qx qy d : ℤ) → pos 0 *ℤ qx +ℤ pos 1 *ℤ qy +ℤ (pos 0 -ℤ y) *ℤ d ≡ qy -ℤ y *ℤ d
    above-is y qx qy d = ring (y ∷ qx ∷ qy ∷ d ∷ []) (sum (sum (mul (num (pos 0)) (var 1)) (mul (num (pos 1)) (var 2))) (mul (dif (num (pos 0)) (var 0)) (var 3))) (dif (var 2) (mul (var 0) (var 3))) refl

    is_right : (q : Point) (z : ℤ) → z ≡ run c q → pos 0 <ℤ z → pos 0 <ℤ run c q
    is_right q z e l = subst (λ y. pos 0 <ℤ y) e l

    is_up : (q : Point) (z : ℤ) → z ≡ rise c q → pos 0 <ℤ z → pos 0 <ℤ rise c q
    is_up q z e l = subst (λ y. pos 0 <ℤ y) e l

    beyond : (q : Point) → pos 0 <ℤ run c q → (c.x *ℤ pos q.d) <ℤ q.x
    beyond q l = from q.x (c.x *ℤ pos q.d) l
      where
        from : (m n : ℤ) → pos 0 <ℤ (m -ℤ n) → n <ℤ m
        from m n k = omega (arith, ints)
