-- From a point of an edge towards another point of it: the points that small steps lead to are on the edge, and on no
-- other edge that shares one point with it at most.
use Rattle.std.proofs.Common.{◌≡◌, ◌≢◌, ℕ, ◌+◌, ◌*◌, ◌<◌, arith, lit<, refl, ap, sym, ◌∙◌, ℤ, pos, ◌+ℤ◌, ◌-ℤ◌, ◌*ℤ◌, ◌<ℤ◌, ◌≤ℤ◌, true, false, List, [], ◌∷◌}
use Rattle.std.specs.Prelude.{int_le}
use Rattle.std.specs.Int.{int_max, int_min}
use Rattle.std.specs.List.{AllByRecursion}
use Rattle.std.specs.Ordering.{int_eq}
use Rattle.std.proofs.lemmas.Bool.{and_from, and_parts, false_from_ne_true}
use Rattle.std.proofs.lemmas.Int.{clamps, ints}
use Rattle.sf_grid.specs.Plane.{Coordinates, IsPoint, Point, grid_point, same_point, x_of}
use Rattle.sf_grid.specs.Edge.{Edge as Line, IsOnEdge, cross, on_edge, within}
use Rattle.sf_grid.proofs.CallerLemmas.{dif, eq_from_test, le_from_test, lies, mul, num, ring, sum, test_from_eq, var, zero_from_factor, zero_from_mul}
use Rattle.sf_plane.proofs.FormLaws.{nudged, nudged-point}
use Rattle.sf_plane.proofs.ShareLaws.{edge_is_convex}
use Rattle.sf_plane.specs.Laws.{ShareTwoPoints}
use Rattle.sf_interiors.proofs.InsideLaws.{IsOff}
use Rattle.sf_interiors.proofs.NudgeLaws.{IsFine, on-again}

positive_number : (d : ℕ) → 0 < d → pos 0 <ℤ pos d
positive_number d h = omega (arith, ints)

-- ---- the step from q to the grid point c, over q's denominator
abbrev pub run_to : Coordinates → Point → ℤ
run_to c q = c.x *ℤ pos q.d -ℤ q.x

abbrev pub rise_to : Coordinates → Point → ℤ
rise_to c q = c.y *ℤ pos q.d -ℤ q.y

-- the part 1/(m + 1) of it leads to a point between both
pub along-on : (e : Line) (c : Coordinates) (q : Point) (m : ℕ) → IsPoint q → 0 < m → IsOnEdge e q → IsOnEdge e (grid_point c) →
    IsOnEdge e (nudged (m + 1) (run_to c q) (rise_to c q) q)
along-on e c q m o h on there =
    edge_is_convex e q (grid_point c) (nudged (m + 1) (run_to c q) (rise_to c q) q) o (record { positive = lit< tt })
    (nudged-point (m + 1) (run_to c q) (rise_to c q) q (omega arith) o) on there
    (record {
      first = m;
      second = q.d;
      first_positive = h;
      second_positive = o.positive;
      same = and_from _ _ (test_from_eq _ _ (one q.x c.x)) (test_from_eq _ _ (one q.y c.y));
    })
  where
    one : (z t : ℤ) → (z *ℤ pos (m + 1) +ℤ (t *ℤ pos q.d -ℤ z)) *ℤ pos (q.d * m + 1 * q.d) ≡ (z *ℤ pos m +ℤ t *ℤ pos q.d) *ℤ pos (q.d * (m + 1))
    one z t =
        ring (z ∷ t ∷ pos q.d ∷ pos m ∷ [])
        (mul (sum (mul (var 0) (sum (var 3) (num (pos 1)))) (dif (mul (var 1) (var 2)) (var 0))) (sum (mul (var 2) (var 3)) (mul (num (pos 1)) (var 2))))
        (mul (sum (mul (var 0) (var 3)) (mul (var 1) (var 2))) (mul (var 2) (sum (var 3) (num (pos 1)))))
        refl

-- ---- two such points differ
step-zero : (z i : ℤ) (d k : ℕ) → 0 < d → (z *ℤ pos k +ℤ i) *ℤ pos (d * (k + 1)) ≡ (z *ℤ pos (k + 1) +ℤ i) *ℤ pos (d * k) → i ≡ pos 0
step-zero z i d k h e =
    zero_from_mul (pos d) i (positive_number d h)
    (ring (z ∷ i ∷ pos d ∷ pos k ∷ [])
    (mul (var 2) (var 1))
    (dif
    (mul (sum (mul (var 0) (var 3)) (var 1)) (mul (var 2) (sum (var 3) (num (pos 1)))))
    (mul (sum (mul (var 0) (sum (var 3) (num (pos 1)))) (var 1)) (mul (var 2) (var 3))))
    refl
    ∙ gone ((z *ℤ pos k +ℤ i) *ℤ pos (d * (k + 1))) ((z *ℤ pos (k + 1) +ℤ i) *ℤ pos (d * k)) e)
  where
    gone : (s t : ℤ) → s ≡ t → s -ℤ t ≡ pos 0
    gone s t f = omega (arith, ints)

steps-differ : (q : Point) (i j : ℤ) (k : ℕ) → IsPoint q → (i ≡ pos 0 → j ≡ pos 0 → ⊥) → same_point (nudged k i j q) (nudged (k + 1) i j q) ≡ false
steps-differ q i j k o n =
    false_from_ne_true (same_point (nudged k i j q) (nudged (k + 1) i j q))
    (λ t.
    let parts = and_parts (int_eq ((q.x *ℤ pos k +ℤ i) *ℤ pos (q.d * (k + 1))) ((q.x *ℤ pos (k + 1) +ℤ i) *ℤ pos (q.d * k)))
    (int_eq ((q.y *ℤ pos k +ℤ j) *ℤ pos (q.d * (k + 1))) ((q.y *ℤ pos (k + 1) +ℤ j) *ℤ pos (q.d * k))) t in
    n (step-zero q.x i q.d k o.positive (eq_from_test _ _ parts.0)) (step-zero q.y j q.d k o.positive (eq_from_test _ _ parts.1)))

-- ---- off all edges that share one point with e at most
abbrev pub AreApart : Line → List Line → Type 0
AreApart e es = AllByRecursion (λ f. ¬ (ShareTwoPoints e f)) es

pub along-off : (e : Line) (q : Point) (i j : ℤ) (k : ℕ) (es : List Line) → IsPoint q → 0 < k → (i ≡ pos 0 → j ≡ pos 0 → ⊥) →
    IsOnEdge e (nudged k i j q) → IsOnEdge e (nudged (k + 1) i j q) → AllByRecursion (IsFine i j k) es → AllByRecursion (IsFine i j (k + 1)) es →
    AreApart e es → IsOff (nudged k i j q) es
along-off e q i j k [] o h n on there f g a = tt
along-off e q i j k (r ∷ es) o h n on there f g a = (
  false_from_ne_true (on_edge r (nudged k i j q))
      (λ t.
      a.0
      (record {
        first = nudged k i j q;
        second = nudged (k + 1) i j q;
        is_first = nudged-point k i j q h o;
        is_second = nudged-point (k + 1) i j q (omega arith) o;
        differ = steps-differ q i j k o n;
        first_on_both = (on, t);
        second_on_both = (there, on-again r q i j k (k + 1) f.0 g.0 t);
      })),
  along-off e q i j k es o h n on there f.1 g.1 a.1,
)

-- ---- whether the edge is vertical is seen by the step
pub column-of : (e : Line) (p : Point) → e.a.x ≡ e.b.x → IsOnEdge e p → e.a.x *ℤ pos p.d ≡ p.x
column-of e p v on =
    let l = lies e p on in
    let at : within e.a.x e.a.x (x_of p) ≡ true =
    ap (λ z. within e.a.x z (x_of p)) (sym (greatest e.a.x e.b.x v)) ∙ ap (λ z. within z (int_max e.a.x e.b.x) (x_of p)) (sym (least e.a.x e.b.x v)) ∙ l.x in
    let parts = and_parts (int_le (e.a.x *ℤ pos p.d) p.x) (int_le p.x (e.a.x *ℤ pos p.d)) at in
    both (e.a.x *ℤ pos p.d) (le_from_test (e.a.x *ℤ pos p.d) p.x parts.0) (le_from_test p.x (e.a.x *ℤ pos p.d) parts.1)
  where
    least : (s t : ℤ) → s ≡ t → int_min s t ≡ s
    least s t h = omega (arith, ints, clamps)

    greatest : (s t : ℤ) → s ≡ t → int_max s t ≡ s
    greatest s t h = omega (arith, ints, clamps)

    both : (s : ℤ) → s ≤ℤ p.x → p.x ≤ℤ s → s ≡ p.x
    both s h k = omega (arith, ints)

-- along a vertical edge it is no step to a side
pub no-run : (e : Line) (c : Coordinates) (q : Point) → IsOnEdge e q → IsOnEdge e (grid_point c) → e.a.x ≡ e.b.x → run_to c q ≡ pos 0
no-run e c q on there v =
    let here : e.a.x *ℤ pos q.d ≡ q.x = column-of e q v on in
    let at : e.a.x *ℤ pos 1 ≡ c.x = column-of e (grid_point c) v there in
    let same : e.a.x *ℤ pos q.d ≡ c.x *ℤ pos q.d = ap (λ z. z *ℤ pos q.d) (one e.a.x c.x at) in
    gone (c.x *ℤ pos q.d) (e.a.x *ℤ pos q.d) same here
  where
    one : (s t : ℤ) → s *ℤ pos 1 ≡ t → s ≡ t
    one s t h = omega (arith, ints)

    gone : (s t : ℤ) → t ≡ s → t ≡ q.x → s -ℤ q.x ≡ pos 0
    gone s t h k = omega (arith, ints)

-- and only along a vertical one
pub upright-from : (e : Line) (c : Coordinates) (q : Point) → IsOnEdge e q → IsOnEdge e (grid_point c) → run_to c q ≡ pos 0 → e.a.x ≢ e.b.x → rise_to c q ≡ pos 0
upright-from e c q on there v n =
    let here = (lies e q on).line in
    let at = (lies e (grid_point c) there).line in
    zero_from_factor (e.b.x -ℤ e.a.x) (rise_to c q) (λ z. n (differ e.a.x e.b.x z))
    (ring (e.a.x ∷ e.a.y ∷ e.b.x ∷ e.b.y ∷ q.x ∷ q.y ∷ pos q.d ∷ c.x ∷ c.y ∷ [])
    (mul (dif (var 2) (var 0)) (dif (mul (var 8) (var 6)) (var 5)))
    (sum
    (dif
    (mul (dif (mul (dif (var 2) (var 0)) (dif (var 8) (mul (var 1) (num (pos 1))))) (mul (dif (var 3) (var 1)) (dif (var 7) (mul (var 0) (num (pos 1)))))) (var 6))
    (dif (mul (dif (var 2) (var 0)) (dif (var 5) (mul (var 1) (var 6)))) (mul (dif (var 3) (var 1)) (dif (var 4) (mul (var 0) (var 6))))))
    (mul (dif (var 3) (var 1)) (dif (mul (var 7) (var 6)) (var 4))))
    refl
    ∙ ap (λ z. z *ℤ pos q.d -ℤ cross e.a e.b q +ℤ (e.b.y -ℤ e.a.y) *ℤ run_to c q) at
    ∙ ap (λ z. pos 0 *ℤ pos q.d -ℤ z +ℤ (e.b.y -ℤ e.a.y) *ℤ run_to c q) here
    ∙ ap (λ z. pos 0 *ℤ pos q.d -ℤ pos 0 +ℤ (e.b.y -ℤ e.a.y) *ℤ z) v
    ∙ none (pos q.d) (e.b.y -ℤ e.a.y))
  where
    differ : (s t : ℤ) → t -ℤ s ≡ pos 0 → s ≡ t
    differ s t z = omega (arith, ints)

    none : (s t : ℤ) → pos 0 *ℤ s -ℤ pos 0 +ℤ t *ℤ pos 0 ≡ pos 0
    none s t = ring (s ∷ t ∷ []) (sum (dif (mul (num (pos 0)) (var 0)) (num (pos 0))) (mul (var 1) (num (pos 0)))) (num (pos 0)) refl
