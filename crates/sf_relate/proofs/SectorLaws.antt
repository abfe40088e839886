-- Where two edges cross, each alone at the point: between them, on each side of either, lies a triangle of which all points have
-- one parity of each list's edges above them; and of each edge a piece on each side of the other. If a list's parities aren't
-- balanced, as those of lines aren't, the piece is off its edges all the same.
use Rattle.std.proofs.Common.{◌≡◌, ◌≢◌, ℕ, suc, ◌+◌, ◌*◌, ◌<◌, ◌≤◌, arith, refl, ap, sym, ◌∙◌, subst, ℤ, pos, ◌+ℤ◌, ◌-ℤ◌, ◌*ℤ◌, ◌<ℤ◌, ◌≤ℤ◌, Bool, true, false, cond, unsigned_abs, List, [], ◌∷◌, inl, inr}
use Rattle.std.specs.Prelude.{int_lt}
use Rattle.std.specs.List.{AllByRecursion, count_by}
use Rattle.std.specs.Ordering.{int_eq}
use Rattle.std.proofs.lemmas.Bool.{and_from, and_parts, both_ways, false_from_ne_true, or_cases}
use Rattle.std.proofs.lemmas.Int.{by_lt_z, ints}
use Rattle.std.proofs.lemmas.List.Sums.{sum_by-cons}
use native.Mathlib.Nat.{mul-lt-mul_of_pos_right}
use Rattle.sf_grid.specs.Edge.{Edge as Line, IsOnEdge, cross, edge_above, on_edge}
use Rattle.sf_grid.specs.EvenOdd.{edges_above, is_odd}
use Rattle.sf_grid.specs.Plane.{Coordinates, IsPoint, IsSamePoint, Point, grid_point, same_point}
use Rattle.sf_grid.proofs.CallerLemmas.{dif, eq_from_mul, eq_from_test, lies, lt_from_mul, lt_from_test, mul, mul_le, mul_lt, num, on_edge-swap, ring, same_point_is_equivalence, same_points_are_alike, same_tests, sum, test_from_eq, test_from_lt, var, zero_from_factor, zero_from_mul}
use Rattle.sf_grid.proofs.Products.{mul_assoc}
use Rattle.sf_slabs.proofs.CallerLemmas.{each-append, each-both, each-parts}
use Rattle.sf_plane.proofs.CombineLaws.{start_on_edge}
use Rattle.sf_plane.proofs.FormLaws.{mean-point, mean_of_three-point, nudged, nudged-point}
use Rattle.sf_plane.proofs.PlaceLaws.{IsIn}
use Rattle.sf_plane.proofs.ShareLaws.{edge_is_convex, in_from_contains}
use Rattle.sf_plane.specs.Dimension.{HasSegment, HasTriangle, PointSet, area, mean, mean_of_three}
use Rattle.sf_valid_rules.proofs.MemberLaws.{count-same, each-from_in, each-in}
use Rattle.sf_interiors.proofs.AlongLaws.{along-on, rise_to, run_to}
use Rattle.sf_interiors.proofs.ChainLaws.{IsBalanced}
use Rattle.sf_interiors.proofs.InsideLaws.{IsOff, balanced-off, each-fine, stays-off, swerves}
use Rattle.sf_interiors.proofs.NudgeLaws.{IsFine, above-left, above-right, swerve}
use Rattle.sf_interiors.proofs.SideLaws.{differ, edge_above_left}
use Rattle.sf_crossing.specs.Crossing.{HaveCrossing, are_parted}
use Rattle.sf_relate.proofs.CornerLaws.{HasAlone, IsAmid, IsSided, sided, stepped}

-- ---- the mean of two steps
small : (a b : ℤ) (x y u : ℕ) → 0 < u → a ≤ℤ pos x → (pos 0 -ℤ a) ≤ℤ pos x → b ≤ℤ pos y → (pos 0 -ℤ b) ≤ℤ pos y → unsigned_abs (a +ℤ b) < u + x + y
small a b x y u h l m n o = omega (arith, ints)

scaled : (s : ℤ) (k v : ℕ) → unsigned_abs s < k → ((s *ℤ pos v) ≤ℤ pos (k * v)) × ((pos 0 -ℤ s *ℤ pos v) ≤ℤ pos (k * v))
scaled s k v h = (
  mul_le s (pos k) v (below s h),
  moved (pos 0 -ℤ s *ℤ pos v) ((pos 0 -ℤ s) *ℤ pos v) (pos (k * v)) (ring (s ∷ pos v ∷ []) (dif (num (pos 0)) (mul (var 0) (var 1))) (mul (dif (num (pos 0)) (var 0)) (var 1)) refl)
      (mul_le (pos 0 -ℤ s) (pos k) v (above s h)),
)
  where
    below : (z : ℤ) → unsigned_abs z < k → z ≤ℤ pos k
    below z l = omega (arith, ints)

    above : (z : ℤ) → unsigned_abs z < k → (pos 0 -ℤ z) ≤ℤ pos k
    above z l = omega (arith, ints)

    moved : (a b c : ℤ) → a ≡ b → b ≤ℤ c → a ≤ℤ c
    moved a b c e l = omega (arith, ints)

-- with weights u, v and w of the point itself and of two steps with the factor k, the factor of the mean
abbrev factor : ℕ → ℕ → ℕ → ℕ → ℕ
factor k u v w = u + k * v + k * w

abbrev step : ℤ → ℤ → ℕ → ℕ → ℤ
step i m v w = i *ℤ pos v +ℤ m *ℤ pos w

small-mean : (s t : ℤ) (k u v w : ℕ) → unsigned_abs s < k → unsigned_abs t < k → 0 < u → unsigned_abs (step s t v w) < factor k u v w
small-mean s t k u v w h l some =
    let first = scaled s k v h in
    let second = scaled t k w l in
    small (s *ℤ pos v) (t *ℤ pos w) (k * v) (k * w) u some first.0 first.1 second.0 second.1

swerve-mean : (i j m n : ℤ) (v w : ℕ) (a b : Coordinates) → swerve (step i m v w) (step j n v w) a b ≡ step (swerve i j a b) (swerve m n a b) v w
swerve-mean i j m n v w a b =
    ring (a.x ∷ a.y ∷ b.x ∷ b.y ∷ i ∷ j ∷ m ∷ n ∷ pos v ∷ pos w ∷ [])
    (dif
    (mul (dif (var 2) (var 0)) (sum (mul (var 5) (var 8)) (mul (var 7) (var 9))))
    (mul (dif (var 3) (var 1)) (sum (mul (var 4) (var 8)) (mul (var 6) (var 9)))))
    (sum
    (mul (dif (mul (dif (var 2) (var 0)) (var 5)) (mul (dif (var 3) (var 1)) (var 4))) (var 8))
    (mul (dif (mul (dif (var 2) (var 0)) (var 7)) (mul (dif (var 3) (var 1)) (var 6))) (var 9)))
    refl

fine-mean : (i j m n : ℤ) (k u v w : ℕ) (e : Line) → 0 < u → IsFine i j k e → IsFine m n k e → IsFine (step i m v w) (step j n v w) (factor k u v w) e
fine-mean i j m n k u v w e some f g =
    record {
      across = small-mean i m k u v w f.across g.across some;
      up = small-mean j n k u v w f.up g.up some;
      onward = subst (λ z. unsigned_abs z < factor k u v w) (sym (swerve-mean i j m n v w e.a e.b)) (small-mean (swerve i j e.a e.b) (swerve m n e.a e.b) k u v w f.onward g.onward some);
      back = subst (λ z. unsigned_abs z < factor k u v w) (sym (swerve-mean i j m n v w e.b e.a)) (small-mean (swerve i j e.b e.a) (swerve m n e.b e.a) k u v w f.back g.back some);
    }

-- ---- the same point has the same edges
off-same : (es : List Line) (z q : Point) → IsPoint z → IsPoint q → IsSamePoint z q → IsOff q es → IsOff z es
off-same es z q i j s h =
    each-from_in (λ e. on_edge e z ≡ false) es (λ e among. (same_points_are_alike e z q i j s).on ∙ each-in (λ f. on_edge f q ≡ false) es h e among)

odd-same : (es : List Line) (z q : Point) → IsPoint z → IsPoint q → IsSamePoint z q → is_odd (edges_above z es) ≡ is_odd (edges_above q es)
odd-same es z q i j s =
    ap is_odd
    (count-same (λ e. edge_above e z) (λ e. edge_above e q) es (each-from_in (λ e. edge_above e z ≡ edge_above e q) es (λ e among. (same_points_are_alike e z q i j s).above)))

-- ---- signs of sums of two steps
sign-scaled : (t : ℤ) (k : ℕ) → 0 < k → int_lt (t *ℤ pos k) (pos 0) ≡ int_lt t (pos 0)
sign-scaled t k h =
    same_tests (int_lt (t *ℤ pos k) (pos 0)) (int_lt t (pos 0))
    (λ l. test_from_lt t (pos 0) (lt_from_mul t (pos 0) k (more (t *ℤ pos k) (pos 0 *ℤ pos k) (none (pos k)) (lt_from_test _ _ l))))
    (λ l. test_from_lt (t *ℤ pos k) (pos 0) (less (t *ℤ pos k) (pos 0 *ℤ pos k) (none (pos k)) (mul_lt t (pos 0) k h (lt_from_test _ _ l))))
  where
    none : (z : ℤ) → pos 0 *ℤ z ≡ pos 0
    none z = omega (arith, ints)

    more : (a b : ℤ) → b ≡ pos 0 → a <ℤ pos 0 → a <ℤ b
    more a b e l = omega (arith, ints)

    less : (a b : ℤ) → b ≡ pos 0 → a <ℤ b → a <ℤ pos 0
    less a b e l = omega (arith, ints)

nonzero-scaled : (t : ℤ) (k : ℕ) → 0 < k → t ≢ pos 0 → t *ℤ pos k ≢ pos 0
nonzero-scaled t k h n e = n (eq_from_mul t (pos 0) k h (e ∙ sym (none (pos k))))
  where
    none : (z : ℤ) → pos 0 *ℤ z ≡ pos 0
    none z = omega (arith, ints)

-- one step leads along the edge, so the other one alone tells the side
second-step : (s t : ℤ) (v w : ℕ) → s ≡ pos 0 → step s t v w ≡ t *ℤ pos w
second-step s t v w e = ap (λ z. z *ℤ pos v +ℤ t *ℤ pos w) e ∙ none (pos v) (t *ℤ pos w)
  where
    none : (z y : ℤ) → pos 0 *ℤ z +ℤ y ≡ y
    none z y = omega (arith, ints)

first-step : (s t : ℤ) (v w : ℕ) → t ≡ pos 0 → step s t v w ≡ s *ℤ pos v
first-step s t v w e = ap (λ z. s *ℤ pos v +ℤ z *ℤ pos w) e ∙ none (pos w) (s *ℤ pos v)
  where
    none : (z y : ℤ) → y +ℤ pos 0 *ℤ z ≡ y
    none z y = omega (arith, ints)

-- the step to a grid point leads to the side on which that is
toward : (c : Coordinates) (p : Point) (u v : Coordinates) → cross u v p ≡ pos 0 → swerve (run_to c p) (rise_to c p) u v ≡ cross u v (grid_point c) *ℤ pos p.d
toward c p u v line =
    ring (c.x ∷ c.y ∷ p.x ∷ p.y ∷ pos p.d ∷ u.x ∷ u.y ∷ v.x ∷ v.y ∷ [])
    (dif (mul (dif (var 7) (var 5)) (dif (mul (var 1) (var 4)) (var 3))) (mul (dif (var 8) (var 6)) (dif (mul (var 0) (var 4)) (var 2))))
    (dif
    (mul (dif (mul (dif (var 7) (var 5)) (dif (var 1) (mul (var 6) (num (pos 1))))) (mul (dif (var 8) (var 6)) (dif (var 0) (mul (var 5) (num (pos 1)))))) (var 4))
    (dif (mul (dif (var 7) (var 5)) (dif (var 3) (mul (var 6) (var 4)))) (mul (dif (var 8) (var 6)) (dif (var 2) (mul (var 5) (var 4))))))
    refl
    ∙ ap (λ z. cross u v (grid_point c) *ℤ pos p.d -ℤ z) line
    ∙ rest (cross u v (grid_point c) *ℤ pos p.d)
  where
    rest : (z : ℤ) → z -ℤ pos 0 ≡ z
    rest z = omega (arith, ints)

-- the points of one parity of the edges above, off them all
pub record IsAt (es : List Line) (odd : Bool) (q : Point) : Type 0 where
  pub off : IsOff q es
  pub parity : is_odd (edges_above q es) ≡ odd

-- ---- off the edge that alone has the point, a small step leads to a point of no edge
abbrev IsClear : List Line → Line → Point → Type 0
IsClear es e p = (i j : ℤ) (k : ℕ) → AllByRecursion (IsFine i j k) es → swerve i j e.a e.b ≢ pos 0 → IsOff (nudged k i j p) es

clear : (es : List Line) (e : Line) (p : Point) → IsOnEdge e p → HasAlone es e p → IsClear es e p
clear es e p on h i j k fine n =
    let q = nudged k i j p in
    let parts = each-parts (IsFine i j k) h.before (e ∷ h.after) (subst (λ gs. AllByRecursion (IsFine i j k) gs) h.is fine) in
    subst (IsOff q) (sym h.is)
    (each-append (λ f. on_edge f q ≡ false) h.before (e ∷ h.after) (stays-off h.before p i j k parts.0 h.off_before)
    (false_from_ne_true (on_edge e q) (λ t. n (sym (stepped e.a e.b p i j k (lies e p on).line) ∙ (lies e q t).line)), stays-off h.after p i j k parts.1.1 h.off_after))

differ-twice : (a b : Bool) → differ a (differ a b) ≡ b
differ-twice true true = refl
differ-twice true false = refl
differ-twice false b = refl

-- ---- a point that both steps lead to
-- with their weights, the side of the edge that they lead to, and whether that is below
record IsReached (es : List Line) (e : Line) (p : Point) (below : Bool) (z : Point) : Type 0 where
  i : ℤ
  j : ℤ
  m : ℤ
  n : ℤ
  k : ℕ
  first : AllByRecursion (IsFine i j k) es
  second : AllByRecursion (IsFine m n k) es
  u : ℕ
  v : ℕ
  w : ℕ
  some : 0 < u
  side : ℤ
  l : ℕ
  large : 0 < l
  off : side ≢ pos 0
  is : step (swerve i j e.a e.b) (swerve m n e.a e.b) v w ≡ side *ℤ pos l
  signed : int_lt side (pos 0) ≡ below
  same : IsSamePoint z (nudged (factor k u v w) (step i m v w) (step j n v w) p)

module _ (es : List Line) (e : Line) (p : Point) (is_p : IsPoint p) (below : Bool) (z : Point) (is_z : IsPoint z) (r : IsReached es e p below z) where
  abbrev across : ℤ
  across = step r.i r.m r.v r.w

  abbrev up : ℤ
  up = step r.j r.n r.v r.w

  abbrev parts : ℕ
  parts = factor r.k r.u r.v r.w

  near-point : IsPoint (nudged parts across up p)
  near-point = nudged-point parts across up p (more r.u (r.k * r.v) (r.k * r.w) r.some) is_p
    where
      more : (u x y : ℕ) → 0 < u → 0 < u + x + y
      more u x y h = omega (arith, h)

  near-fine : AllByRecursion (IsFine across up parts) es
  near-fine = each-both (IsFine r.i r.j r.k) (IsFine r.m r.n r.k) (IsFine across up parts) es (λ g f h. fine-mean r.i r.j r.m r.n r.k r.u r.v r.w g r.some f h) r.first r.second

  near-side : swerve across up e.a e.b ≡ r.side *ℤ pos r.l
  near-side = swerve-mean r.i r.j r.m r.n r.v r.w e.a e.b ∙ r.is

  leaves : swerve across up e.a e.b ≢ pos 0
  leaves q = nonzero-scaled r.side r.l r.large r.off (sym near-side ∙ q)

  off-near : IsClear es e p → IsOff z es
  off-near c = off-same es z (nudged parts across up p) is_z near-point r.same (c across up parts near-fine leaves)

  told : (s : IsSided es e p) (odd : Bool) → below ≡ differ s.base odd → IsAt es odd z
  told s odd b =
      record {
        off = off-near s.off;
        parity =
            odd-same es z (nudged parts across up p) is_z near-point r.same
            ∙ s.odd across up parts near-fine leaves
            ∙ ap (differ s.base) (ap (λ q. int_lt q (pos 0)) near-side ∙ sign-scaled r.side r.l r.large ∙ r.signed ∙ b)
            ∙ differ-twice s.base odd;
      }

-- ---- triangles
-- two steps of which the one leads along an edge and the other one off it aren't parallel
wide-steps : (x y i j m n : ℤ) → x *ℤ j -ℤ y *ℤ i ≡ pos 0 → x *ℤ n -ℤ y *ℤ m ≢ pos 0 → (i ≡ pos 0 → j ≡ pos 0 → ⊥) → i *ℤ n -ℤ j *ℤ m ≢ pos 0
wide-steps x y i j m n along off some parallel =
    some
    (zero_from_factor (x *ℤ n -ℤ y *ℤ m) i off
    (ring (x ∷ y ∷ i ∷ j ∷ m ∷ n ∷ [])
    (mul (dif (mul (var 0) (var 5)) (mul (var 1) (var 4))) (var 2))
    (sum (mul (var 0) (dif (mul (var 2) (var 5)) (mul (var 3) (var 4)))) (mul (var 4) (dif (mul (var 0) (var 3)) (mul (var 1) (var 2)))))
    refl
    ∙ ap (λ z. x *ℤ z +ℤ m *ℤ (x *ℤ j -ℤ y *ℤ i)) parallel ∙ ap (λ z. x *ℤ pos 0 +ℤ m *ℤ z) along ∙ none x m))
    (zero_from_factor (x *ℤ n -ℤ y *ℤ m) j off
    (ring (x ∷ y ∷ i ∷ j ∷ m ∷ n ∷ [])
    (mul (dif (mul (var 0) (var 5)) (mul (var 1) (var 4))) (var 3))
    (sum (mul (var 1) (dif (mul (var 2) (var 5)) (mul (var 3) (var 4)))) (mul (var 5) (dif (mul (var 0) (var 3)) (mul (var 1) (var 2)))))
    refl
    ∙ ap (λ z. y *ℤ z +ℤ n *ℤ (x *ℤ j -ℤ y *ℤ i)) parallel ∙ ap (λ z. y *ℤ pos 0 +ℤ n *ℤ z) along ∙ none y n))
  where
    none : (a b : ℤ) → a *ℤ pos 0 +ℤ b *ℤ pos 0 ≡ pos 0
    none a b = ring (a ∷ b ∷ []) (sum (mul (var 0) (num (pos 0))) (mul (var 1) (num (pos 0)))) (num (pos 0)) refl

triangle-area : (p : Point) (i j m n : ℤ) (k : ℕ) → area p (nudged k i j p) (nudged k m n p) ≡ (i *ℤ n -ℤ j *ℤ m) *ℤ pos p.d
triangle-area p i j m n k =
    ring (p.x ∷ p.y ∷ pos p.d ∷ pos k ∷ i ∷ j ∷ m ∷ n ∷ [])
    (sum
    (sum
    (mul (var 0) (dif (mul (sum (mul (var 1) (var 3)) (var 5)) (mul (var 2) (var 3))) (mul (sum (mul (var 1) (var 3)) (var 7)) (mul (var 2) (var 3)))))
    (mul (sum (mul (var 0) (var 3)) (var 4)) (dif (mul (sum (mul (var 1) (var 3)) (var 7)) (var 2)) (mul (var 1) (mul (var 2) (var 3))))))
    (mul (sum (mul (var 0) (var 3)) (var 6)) (dif (mul (var 1) (mul (var 2) (var 3))) (mul (sum (mul (var 1) (var 3)) (var 5)) (var 2)))))
    (mul (dif (mul (var 4) (var 7)) (mul (var 5) (var 6))) (var 2))
    refl

mean-near : (p : Point) (i j m n : ℤ) (k u v w : ℕ) →
    IsSamePoint (mean_of_three u v w p (nudged k i j p) (nudged k m n p)) (nudged (factor k u v w) (step i m v w) (step j n v w) p)
mean-near p i j m n k u v w = and_from _ _ (test_from_eq _ _ (one p.x i m)) (test_from_eq _ _ (one p.y j n))
  where
    one : (x a b : ℤ) →
        (x *ℤ pos u +ℤ (x *ℤ pos k +ℤ a) *ℤ pos v +ℤ (x *ℤ pos k +ℤ b) *ℤ pos w) *ℤ pos (p.d * (u + k * v + k * w))
        ≡ (x *ℤ pos (u + k * v + k * w) +ℤ (a *ℤ pos v +ℤ b *ℤ pos w)) *ℤ pos (p.d * u + p.d * k * v + p.d * k * w)
    one x a b =
        ring (x ∷ a ∷ b ∷ pos p.d ∷ pos k ∷ pos u ∷ pos v ∷ pos w ∷ [])
        (mul
        (sum (sum (mul (var 0) (var 5)) (mul (sum (mul (var 0) (var 4)) (var 1)) (var 6))) (mul (sum (mul (var 0) (var 4)) (var 2)) (var 7)))
        (mul (var 3) (sum (sum (var 5) (mul (var 4) (var 6))) (mul (var 4) (var 7)))))
        (mul
        (sum (mul (var 0) (sum (sum (var 5) (mul (var 4) (var 6))) (mul (var 4) (var 7)))) (sum (mul (var 1) (var 6)) (mul (var 2) (var 7))))
        (sum (sum (mul (var 3) (var 5)) (mul (mul (var 3) (var 4)) (var 6))) (mul (mul (var 3) (var 4)) (var 7))))
        refl

triangle-near : (p : Point) (i j m n : ℤ) (k : ℕ) (set : PointSet) → IsPoint p → 0 < k → i *ℤ n -ℤ j *ℤ m ≢ pos 0 →
    ((z : Point) (u v w : ℕ) → IsPoint z → 0 < u → 0 < v → 0 < w → IsSamePoint z (nudged (factor k u v w) (step i m v w) (step j n v w) p) → set z ≡ true) → HasTriangle set
triangle-near p i j m n k set is_p some wide has =
    record {
      a = p;
      b = nudged k i j p;
      c = nudged k m n p;
      is_a = is_p;
      is_b = nudged-point k i j p some is_p;
      is_c = nudged-point k m n p some is_p;
      wide = λ z. nonzero-scaled (i *ℤ n -ℤ j *ℤ m) p.d is_p.positive wide (sym (triangle-area p i j m n k) ∙ z);
      has =
          λ z is_z h.
          has z h.first h.second h.third is_z h.first_positive h.second_positive h.third_positive
          (same_point_is_equivalence.transitive z (mean_of_three h.first h.second h.third p (nudged k i j p) (nudged k m n p)) (nudged (factor k h.first h.second h.third) (step i m h.second h.third) (step j n h.second h.third) p)
          (mean_of_three-point h.first h.second h.third p (nudged k i j p) (nudged k m n p) is_p h.first_positive) h.same (mean-near p i j m n k h.first h.second h.third));
    }

-- ---- pieces of edges
-- between a point and the end of a step towards an end of its edge
segment-near : (e : Line) (c : Coordinates) (p : Point) (l : ℕ) (set : PointSet) → IsPoint p → 0 < l → IsOnEdge e p → IsOnEdge e (grid_point c) → (run_to c p ≡ pos 0 → rise_to c p ≡ pos 0 → ⊥) →
    ((z : Point) (u v w : ℕ) → IsPoint z → IsOnEdge e z → 0 < u → 0 < v → 0 < w
    → IsSamePoint z (nudged (factor (l + 1) u v w) (step (run_to c p) (pos 0) v w) (step (rise_to c p) (pos 0) v w) p) → set z ≡ true) → HasSegment set
segment-near e c p l set is_p some on there apart has =
    let q = nudged (l + 1) (run_to c p) (rise_to c p) p in
    let is_q = nudged-point (l + 1) (run_to c p) (rise_to c p) p (omega arith) is_p in
    let on_q = along-on e c p l is_p some on there in
    record {
      a = p;
      b = q;
      is_a = is_p;
      is_b = is_q;
      differ =
          false_from_ne_true (same_point p q)
          (λ t.
          let parts = and_parts (int_eq (p.x *ℤ pos (p.d * (l + 1))) ((p.x *ℤ pos (l + 1) +ℤ run_to c p) *ℤ pos p.d)) (int_eq (p.y *ℤ pos (p.d * (l + 1))) ((p.y *ℤ pos (l + 1) +ℤ rise_to c p) *ℤ pos p.d)) t in
          apart (no-step p.x (run_to c p) (eq_from_test _ _ parts.0)) (no-step p.y (rise_to c p) (eq_from_test _ _ parts.1)));
      has =
          λ z is_z b.
          has z b.first (b.second * (l + 2)) b.first is_z (edge_is_convex e p q z is_p is_q is_z on on_q b) b.first_positive (many b.second b.second_positive) b.first_positive
          (same_point_is_equivalence.transitive z (mean b.first b.second p q) (nudged (factor (l + 1) b.first (b.second * (l + 2)) b.first) (step (run_to c p) (pos 0) (b.second * (l + 2)) b.first) (step (rise_to c p) (pos 0) (b.second * (l + 2)) b.first) p)
          (mean-point b.first b.second p q is_p b.first_positive) b.same
          (and_from _ _ (test_from_eq _ _ (one p.x (run_to c p) b.first b.second)) (test_from_eq _ _ (one p.y (rise_to c p) b.first b.second))));
    }
  where
    no-step : (x a : ℤ) → x *ℤ pos (p.d * (l + 1)) ≡ (x *ℤ pos (l + 1) +ℤ a) *ℤ pos p.d → a ≡ pos 0
    no-step x a h =
        zero_from_mul (pos p.d) a (positive_number p.d is_p.positive)
        (ring (x ∷ a ∷ pos p.d ∷ pos l ∷ [])
        (mul (var 2) (var 1))
        (dif (mul (sum (mul (var 0) (sum (var 3) (num (pos 1)))) (var 1)) (var 2)) (mul (var 0) (mul (var 2) (sum (var 3) (num (pos 1))))))
        refl
        ∙ gone ((x *ℤ pos (l + 1) +ℤ a) *ℤ pos p.d) (x *ℤ pos (p.d * (l + 1))) (sym h))
      where
        gone : (s t : ℤ) → s ≡ t → s -ℤ t ≡ pos 0
        gone s t f = omega (arith, ints)

        positive_number : (d : ℕ) → 0 < d → pos 0 <ℤ pos d
        positive_number d q = omega (arith, ints)

    many : (v : ℕ) → 0 < v → 0 < v * (l + 2)
    many v h = let two : 0 < l + 2 = omega arith in omega (arith, mul-lt-mul_of_pos_right h two)

    one : (x a : ℤ) (u v : ℕ) →
        (x *ℤ pos u +ℤ (x *ℤ pos (l + 1) +ℤ a) *ℤ pos v) *ℤ pos (p.d * (u + (l + 1) * (v * (l + 2)) + (l + 1) * u))
        ≡ (x *ℤ pos (u + (l + 1) * (v * (l + 2)) + (l + 1) * u) +ℤ (a *ℤ pos (v * (l + 2)) +ℤ pos 0 *ℤ pos u)) *ℤ pos (p.d * u + p.d * (l + 1) * v)
    one x a u v =
        ring (x ∷ a ∷ pos p.d ∷ pos l ∷ pos u ∷ pos v ∷ [])
        (mul
        (sum (mul (var 0) (var 4)) (mul (sum (mul (var 0) (sum (var 3) (num (pos 1)))) (var 1)) (var 5)))
        (mul (var 2) (sum (sum (var 4) (mul (sum (var 3) (num (pos 1))) (mul (var 5) (sum (var 3) (num (pos 2)))))) (mul (sum (var 3) (num (pos 1))) (var 4)))))
        (mul
        (sum
        (mul (var 0) (sum (sum (var 4) (mul (sum (var 3) (num (pos 1))) (mul (var 5) (sum (var 3) (num (pos 2)))))) (mul (sum (var 3) (num (pos 1))) (var 4))))
        (sum (mul (var 1) (mul (var 5) (sum (var 3) (num (pos 2))))) (mul (num (pos 0)) (var 4))))
        (sum (mul (var 2) (var 4)) (mul (mul (var 2) (sum (var 3) (num (pos 1)))) (var 5))))
        refl

-- ---- two edges that cross
-- an end of an edge on the wanted side of another one
record HasEnd (e f : Line) (below : Bool) : Type 0 where
  corner : Coordinates
  on : IsOnEdge f (grid_point corner)
  off : cross e.a e.b (grid_point corner) ≢ pos 0
  side : int_lt (cross e.a e.b (grid_point corner)) (pos 0) ≡ below

side-below : (z : ℤ) → int_lt z (pos 0) ≡ true → z ≢ pos 0
side-below z h e = absurd (grind (arith, ints, h, e))

side-above : (z : ℤ) → int_lt (pos 0) z ≡ true → (z ≢ pos 0) × (int_lt z (pos 0) ≡ false)
side-above z h = (λ e. absurd (grind (arith, ints, h, e)), grind (arith, ints, h))

end_on_edge : (e : Line) → IsOnEdge e (grid_point e.b)
end_on_edge e = on_edge-swap e.a e.b (grid_point e.b) ∙ start_on_edge e.b e.a

has-end : (e f : Line) (below : Bool) → are_parted e f.a f.b ≡ true → HasEnd e f below
has-end e f below h =
    elim (or_cases _ _ h) [
      | inl t ↦ let parts = and_parts _ _ t in pick below f.a f.b (start_on_edge f.a f.b) (end_on_edge f) parts.0 parts.1
      | inr t ↦ let parts = and_parts _ _ t in pick below f.b f.a (end_on_edge f) (start_on_edge f.a f.b) parts.1 parts.0
    ]
  where
    pick : (b : Bool) (c d : Coordinates) → IsOnEdge f (grid_point c) → IsOnEdge f (grid_point d) → int_lt (cross e.a e.b (grid_point c)) (pos 0) ≡ true →
        int_lt (pos 0) (cross e.a e.b (grid_point d)) ≡ true → HasEnd e f b
    pick true c d on_c on_d low high = record { corner = c; on = on_c; off = side-below _ low; side = low }
    pick false c d on_c on_d low high = let more = side-above _ high in record { corner = d; on = on_d; off = more.0; side = more.1 }

-- ---- the edge that alone has the point
count-cons : (t : Line → Bool) (e : Line) (es : List Line) → count_by t (e ∷ es) ≡ cond (t e) 1 0 + count_by t es
count-cons t e es = sum_by-cons (λ f. cond (t f) 1 0) e es

none-on : (p : Point) (es : List Line) → count_by (λ e. on_edge e p) es ≤ 0 → IsOff p es
none-on p [] h = tt
none-on p (e ∷ es) h = by_test (on_edge e p) refl (none-on p es)
  where
    by_test : (b : Bool) → on_edge e p ≡ b → (count_by (λ f. on_edge f p) es ≤ 0 → IsOff p es) → IsOff p (e ∷ es)
    by_test true t rest =
        let one : count_by (λ f. on_edge f p) (e ∷ es) ≡ 1 + count_by (λ f. on_edge f p) es = count-cons (λ f. on_edge f p) e es ∙ ap (λ b. cond b 1 0 + count_by (λ f. on_edge f p) es) t in
        absurd (omega (arith, h, one))
    by_test false t rest =
        let none : count_by (λ f. on_edge f p) (e ∷ es) ≡ 0 + count_by (λ f. on_edge f p) es = count-cons (λ f. on_edge f p) e es ∙ ap (λ b. cond b 1 0 + count_by (λ f. on_edge f p) es) t in
        (t, rest (omega (arith, h, none)))

pub alone-from : (p : Point) (es : List Line) (e : Line) → IsIn es e → on_edge e p ≡ true → count_by (λ f. on_edge f p) es ≤ 1 → HasAlone es e p
alone-from p [] e i on h = absurd i
alone-from p (f ∷ es) e i on h = by_place (λ among l. alone-from p es e among on l) i
  where
    counted : (b : Bool) → on_edge f p ≡ b → cond b 1 0 + count_by (λ g. on_edge g p) es ≤ 1
    counted b t = subst (λ n. n ≤ 1) (count-cons (λ g. on_edge g p) f es ∙ ap (λ c. cond c 1 0 + count_by (λ g. on_edge g p) es) t) h

    behind : (IsIn es e → count_by (λ g. on_edge g p) es ≤ 1 → HasAlone es e p) → (b : Bool) → on_edge f p ≡ b → IsIn es e → HasAlone (f ∷ es) e p
    behind again true t among =
        let off = none-on p es (one (count_by (λ g. on_edge g p) es) (counted true t)) in
        absurd (both_ways (on_edge e p) (each-in (λ g. on_edge g p ≡ false) es off e among) on)
      where
        one : (n : ℕ) → 1 + n ≤ 1 → n ≤ 0
        one n l = omega (arith, l)
    behind again false t among =
        let rest = again among (none (count_by (λ g. on_edge g p) es) (counted false t)) in
        record {
          before = f ∷ rest.before;
          after = rest.after;
          is = ap (λ gs. f ∷ gs) rest.is;
          off_before = (t, rest.off_before);
          off_after = rest.off_after;
        }
      where
        none : (n : ℕ) → 0 + n ≤ 1 → n ≤ 1
        none n l = omega (arith, l)

    by_place : (IsIn es e → count_by (λ g. on_edge g p) es ≤ 1 → HasAlone es e p) → IsIn (f ∷ es) e → HasAlone (f ∷ es) e p
    by_place again (inl same) =
        record {
          before = [];
          after = es;
          is = ap (λ g. g ∷ es) same;
          off_before = tt;
          off_after = none-on p es (one (count_by (λ g. on_edge g p) es) (counted true (ap (λ g. on_edge g p) same ∙ on)));
        }
      where
        one : (n : ℕ) → 1 + n ≤ 1 → n ≤ 0
        one n l = omega (arith, l)
    by_place again (inr among) = behind again (on_edge f p) refl among

-- ---- the point is no end
parted-off : (e : Line) (c d : Coordinates) → are_parted e c d ≡ true → (cross e.a e.b (grid_point c) ≢ pos 0) × (cross e.a e.b (grid_point d) ≢ pos 0)
parted-off e c d h =
    elim (or_cases _ _ h) [
      | inl t ↦ let parts = and_parts _ _ t in (side-below _ parts.0, (side-above _ parts.1).0)
      | inr t ↦ let parts = and_parts _ _ t in ((side-above _ parts.0).0, side-below _ parts.1)
    ]

no-end : (f : Line) (c : Coordinates) (p : Point) → IsPoint p → cross f.a f.b p ≡ pos 0 → cross f.a f.b (grid_point c) ≢ pos 0 → run_to c p ≡ pos 0 → rise_to c p ≡ pos 0 → ⊥
no-end f c p is_p line off run rise =
    nonzero-scaled (cross f.a f.b (grid_point c)) p.d is_p.positive off
    (sym (toward c p f.a f.b line)
    ∙ ap (λ z. swerve z (rise_to c p) f.a f.b) run ∙ ap (λ z. swerve (pos 0) z f.a f.b) rise ∙ none (f.b.x -ℤ f.a.x) (f.b.y -ℤ f.a.y))
  where
    none : (a b : ℤ) → a *ℤ pos 0 -ℤ b *ℤ pos 0 ≡ pos 0
    none a b = ring (a ∷ b ∷ []) (dif (mul (var 0) (num (pos 0))) (mul (var 1) (num (pos 0)))) (num (pos 0)) refl

amid : (e f : Line) (p : Point) → IsPoint p → IsOnEdge e p → IsOnEdge f p → are_parted f e.a e.b ≡ true → IsAmid e p
amid e f p is_p on_e on_f h =
    let off = parted-off f e.a e.b h in
    record {
      on = on_e;
      off_start = no-end f e.a p is_p (lies f p on_f).line off.0;
      off_end = no-end f e.b p is_p (lies f p on_f).line off.1;
    }

-- ---- what a crossing tells
product_positive : (d m : ℕ) → 0 < d → 0 < m → 0 < d * m
product_positive d m h k = omega (arith, mul-lt-mul_of_pos_right h k)

-- a crossing is one of either list
abbrev pub swapped : (es fs : List Line) → HaveCrossing es fs → HaveCrossing fs es
swapped es fs h =
    let parts = and_parts (are_parted h.first h.second.a h.second.b) (are_parted h.second h.first.a h.first.b) h.crossing in
    record {
      first = h.second;
      second = h.first;
      point = h.point;
      is_point = h.is_point;
      of_first = h.of_second;
      of_second = h.of_first;
      on_first = h.on_second;
      on_second = h.on_first;
      crossing = and_from (are_parted h.second h.first.a h.first.b) (are_parted h.first h.second.a h.second.b) parts.1 parts.0;
      first_alone = h.second_alone;
      second_alone = h.first_alone;
    }

-- each edge has the ends of the other on its two sides
abbrev parted : (es fs : List Line) (h : HaveCrossing es fs) → (are_parted h.first h.second.a h.second.b ≡ true) × (are_parted h.second h.first.a h.first.b ≡ true)
parted es fs h = and_parts (are_parted h.first h.second.a h.second.b) (are_parted h.second h.first.a h.first.b) h.crossing

-- the first edge doesn't end at the point, and no other edge of its list has it
pub first-amid : (es fs : List Line) (h : HaveCrossing es fs) → IsAmid h.first h.point
first-amid es fs h = amid h.first h.second h.point h.is_point h.on_first h.on_second (parted es fs h).1

pub first-alone : (es fs : List Line) (h : HaveCrossing es fs) → HasAlone es h.first h.point
first-alone es fs h = alone-from h.point es h.first (in_from_contains es h.first h.of_first) h.on_first h.first_alone

first-sided : (es fs : List Line) (h : HaveCrossing es fs) → ((q : Point) → IsPoint q → IsBalanced es q) → IsSided es h.first h.point
first-sided es fs h balanced = sided es h.first h.point h.is_point (first-amid es fs h) (first-alone es fs h) (balanced h.point h.is_point)

module _ (es fs : List Line) (h : HaveCrossing es fs) where
  -- a triangle on one side of each edge
  triangle-beside : (first_below second_below : Bool) (set : PointSet) →
      ((q : Point) → IsPoint q → IsReached es h.first h.point first_below q → IsReached fs h.second h.point second_below q → set q ≡ true) → HasTriangle set
  triangle-beside first_below second_below set has =
      let d = has-end h.first h.second first_below (parted es fs h).0 in
      let c = has-end h.second h.first second_below (parted es fs h).1 in
      let p = h.point in
      let i = run_to c.corner p in
      let j = rise_to c.corner p in
      let m = run_to d.corner p in
      let n = rise_to d.corner p in
      let k : ℕ = suc (swerves i j es + swerves i j fs + swerves m n es + swerves m n fs) in
      let line_first = (lies h.first p h.on_first).line in
      let line_second = (lies h.second p h.on_second).line in
      let along_first = toward c.corner p h.first.a h.first.b line_first ∙ ap (λ z. z *ℤ pos p.d) (lies h.first (grid_point c.corner) c.on).line ∙ none (pos p.d) in
      let along_second = toward d.corner p h.second.a h.second.b line_second ∙ ap (λ z. z *ℤ pos p.d) (lies h.second (grid_point d.corner) d.on).line ∙ none (pos p.d) in
      let off_first = toward d.corner p h.first.a h.first.b line_first in
      let off_second = toward c.corner p h.second.a h.second.b line_second in
      triangle-near p i j m n k set h.is_point (omega arith)
      (wide-steps (h.first.b.x -ℤ h.first.a.x) (h.first.b.y -ℤ h.first.a.y) i j m n along_first
      (λ z. nonzero-scaled (cross h.first.a h.first.b (grid_point d.corner)) p.d h.is_point.positive d.off (sym off_first ∙ z))
      (no-end h.second c.corner p h.is_point line_second c.off))
      (λ z u v w is_z u_some v_some w_some same.
      has z is_z
      (record {
        i = i;
        j = j;
        m = m;
        n = n;
        k = k;
        first = each-fine i j es k (omega arith);
        second = each-fine m n es k (omega arith);
        u = u;
        v = v;
        w = w;
        some = u_some;
        side = cross h.first.a h.first.b (grid_point d.corner);
        l = p.d * w;
        large = product_positive p.d w h.is_point.positive w_some;
        off = d.off;
        is = second-step (swerve i j h.first.a h.first.b) (swerve m n h.first.a h.first.b) v w along_first ∙ ap (λ y. y *ℤ pos w) off_first ∙ together (cross h.first.a h.first.b (grid_point d.corner)) p.d w;
        signed = d.side;
        same = same;
      })
      (record {
        i = i;
        j = j;
        m = m;
        n = n;
        k = k;
        first = each-fine i j fs k (omega arith);
        second = each-fine m n fs k (omega arith);
        u = u;
        v = v;
        w = w;
        some = u_some;
        side = cross h.second.a h.second.b (grid_point c.corner);
        l = p.d * v;
        large = product_positive p.d v h.is_point.positive v_some;
        off = c.off;
        is = first-step (swerve i j h.second.a h.second.b) (swerve m n h.second.a h.second.b) v w along_second ∙ ap (λ y. y *ℤ pos v) off_second ∙ together (cross h.second.a h.second.b (grid_point c.corner)) p.d v;
        signed = c.side;
        same = same;
      }))
    where
      none : (z : ℤ) → pos 0 *ℤ z ≡ pos 0
      none z = omega (arith, ints)

      together : (z : ℤ) (x y : ℕ) → (z *ℤ pos x) *ℤ pos y ≡ z *ℤ pos (x * y)
      together z x y = mul_assoc z (pos x) (pos y)

  -- a piece of the first edge on one side of the second one
  piece-beside : (below : Bool) (set : PointSet) →
      ((q : Point) → IsPoint q → IsOnEdge h.first q → IsReached fs h.second h.point below q → set q ≡ true) → HasSegment set
  piece-beside below set has =
      let c = has-end h.second h.first below (parted es fs h).1 in
      let p = h.point in
      let i = run_to c.corner p in
      let j = rise_to c.corner p in
      let l : ℕ = suc (swerves i j fs + swerves (pos 0) (pos 0) fs) in
      let line = (lies h.second p h.on_second).line in
      segment-near h.first c.corner p l set h.is_point (omega arith) h.on_first c.on (no-end h.second c.corner p h.is_point line c.off)
      (λ z u v w is_z on u_some v_some w_some same.
      has z is_z on
      (record {
        i = i;
        j = j;
        m = pos 0;
        n = pos 0;
        k = l + 1;
        first = each-fine i j fs (l + 1) (omega arith);
        second = each-fine (pos 0) (pos 0) fs (l + 1) (omega arith);
        u = u;
        v = v;
        w = w;
        some = u_some;
        side = cross h.second.a h.second.b (grid_point c.corner);
        l = p.d * v;
        large = product_positive p.d v h.is_point.positive v_some;
        off = c.off;
        is =
            first-step (swerve i j h.second.a h.second.b) (swerve (pos 0) (pos 0) h.second.a h.second.b) v w (still (h.second.b.x -ℤ h.second.a.x) (h.second.b.y -ℤ h.second.a.y))
            ∙ ap (λ y. y *ℤ pos v) (toward c.corner p h.second.a h.second.b line)
            ∙ mul_assoc (cross h.second.a h.second.b (grid_point c.corner)) (pos p.d) (pos v);
        signed = c.side;
        same = same;
      }))
    where
      still : (a b : ℤ) → a *ℤ pos 0 -ℤ b *ℤ pos 0 ≡ pos 0
      still a b = ring (a ∷ b ∷ []) (dif (mul (var 0) (num (pos 0))) (mul (var 1) (num (pos 0)))) (num (pos 0)) refl

  -- a piece of the first edge off the second list
  pub crossing-clear : (set : PointSet) → ((q : Point) → IsPoint q → IsOnEdge h.first q → IsOff q fs → set q ≡ true) → HasSegment set
  crossing-clear set has =
      let back = swapped es fs h in
      piece-beside true set
      (λ q i on r. has q i on (off-near fs h.second h.point h.is_point true q i r (clear fs h.second h.point h.on_second (first-alone fs es back))))

  -- one of each parity of the second list, where that is balanced
  pub crossing-piece : ((q : Point) → IsPoint q → IsBalanced fs q) → (odd : Bool) (set : PointSet) →
      ((q : Point) → IsPoint q → IsOnEdge h.first q → IsAt fs odd q → set q ≡ true) → HasSegment set
  crossing-piece balanced odd set has =
      let s = first-sided fs es (swapped es fs h) balanced in
      piece-beside (differ s.base odd) set (λ q i on r. has q i on (told fs h.second h.point h.is_point (differ s.base odd) q i r s odd refl))

  -- where both are, a triangle of each pair of parities
  pub crossing-triangle : ((q : Point) → IsPoint q → IsBalanced es q) → ((q : Point) → IsPoint q → IsBalanced fs q) → (odd_first odd_second : Bool) (set : PointSet) →
      ((q : Point) → IsPoint q → IsAt es odd_first q → IsAt fs odd_second q → set q ≡ true) → HasTriangle set
  crossing-triangle first_balanced second_balanced odd_first odd_second set has =
      let s = first-sided es fs h first_balanced in
      let t = first-sided fs es (swapped es fs h) second_balanced in
      triangle-beside (differ s.base odd_first) (differ t.base odd_second) set
      (λ q i r o.
      has q i
      (told es h.first h.point h.is_point (differ s.base odd_first) q i r s odd_first refl)
      (told fs h.second h.point h.is_point (differ t.base odd_second) q i o t odd_second refl))

-- ---- beside a point that is off a list's edges
-- all small steps from it lead to points that have as many edges above them, up to an even number
stays-at : (es : List Line) (p : Point) (i j : ℤ) (k : ℕ) → IsPoint p → IsBalanced es p → AllByRecursion (IsFine i j k) es → IsOff p es →
    is_odd (edges_above (nudged k i j p) es) ≡ is_odd (edges_above p es)
stays-at es p i j k o b f h =
    by_lt_z i (pos 0)
    (λ l.
    ap is_odd
    (count-same (λ e. edge_above e (nudged k i j p)) (λ e. edge_above_left e p) es
    (each-both (IsFine i j k) (λ e. on_edge e p ≡ false) (λ e. edge_above e (nudged k i j p) ≡ edge_above_left e p) es (λ e g t. above-left e p i j k o g l t) f h))
    ∙ balanced-off es p b h)
    (λ l.
    ap is_odd
    (count-same (λ e. edge_above e (nudged k i j p)) (λ e. edge_above e p) es
    (each-both (IsFine i j k) (λ e. on_edge e p ≡ false) (λ e. edge_above e (nudged k i j p) ≡ edge_above e p) es (λ e g t. above-right e p i j k o g l t) f h)))

-- the point is one to which a small step leads
record IsStepped (fs : List Line) (p z : Point) : Type 0 where
  i : ℤ
  j : ℤ
  k : ℕ
  fine : AllByRecursion (IsFine i j k) fs
  is_point : IsPoint (nudged k i j p)
  same : IsSamePoint z (nudged k i j p)

-- the edge on which the point is has a piece of such points
piece-near : (e : Line) (c : Coordinates) (p : Point) (fs : List Line) (set : PointSet) → IsPoint p → IsOnEdge e p → IsOnEdge e (grid_point c) →
    (run_to c p ≡ pos 0 → rise_to c p ≡ pos 0 → ⊥) → ((q : Point) → IsPoint q → IsOnEdge e q → IsStepped fs p q → set q ≡ true) → HasSegment set
piece-near e c p fs set is_p on there apart has =
    let i = run_to c p in
    let j = rise_to c p in
    let l : ℕ = suc (swerves i j fs + swerves (pos 0) (pos 0) fs) in
    segment-near e c p l set is_p (omega arith) on there apart
    (λ z u v w is_z on_z u_some v_some w_some same.
    has z is_z on_z
    (record {
      i = step i (pos 0) v w;
      j = step j (pos 0) v w;
      k = factor (l + 1) u v w;
      fine =
          each-both (IsFine i j (l + 1)) (IsFine (pos 0) (pos 0) (l + 1)) (IsFine (step i (pos 0) v w) (step j (pos 0) v w) (factor (l + 1) u v w)) fs
          (λ g f h. fine-mean i j (pos 0) (pos 0) (l + 1) u v w g u_some f h)
          (each-fine i j fs (l + 1) (omega arith)) (each-fine (pos 0) (pos 0) fs (l + 1) (omega arith));
      is_point = nudged-point (factor (l + 1) u v w) (step i (pos 0) v w) (step j (pos 0) v w) p (more u ((l + 1) * v) ((l + 1) * w) u_some) is_p;
      same = same;
    }))
  where
    more : (u x y : ℕ) → 0 < u → 0 < u + x + y
    more u x y h = omega (arith, h)

-- these are off the list's edges
pub piece-off : (e : Line) (c : Coordinates) (p : Point) (fs : List Line) (set : PointSet) → IsPoint p → IsOnEdge e p → IsOnEdge e (grid_point c) →
    (run_to c p ≡ pos 0 → rise_to c p ≡ pos 0 → ⊥) → IsOff p fs → ((q : Point) → IsPoint q → IsOnEdge e q → IsOff q fs → set q ≡ true) → HasSegment set
piece-off e c p fs set is_p on there apart off has =
    piece-near e c p fs set is_p on there apart
    (λ z is_z on_z r. has z is_z on_z (off-same fs z (nudged r.k r.i r.j p) is_z r.is_point r.same (stays-off fs p r.i r.j r.k r.fine off)))

-- and where the list is balanced they have its parity too
pub piece-at : (e : Line) (c : Coordinates) (p : Point) (fs : List Line) (odd : Bool) (set : PointSet) → IsPoint p → IsOnEdge e p → IsOnEdge e (grid_point c) →
    (run_to c p ≡ pos 0 → rise_to c p ≡ pos 0 → ⊥) → IsBalanced fs p → IsAt fs odd p → ((q : Point) → IsPoint q → IsOnEdge e q → IsAt fs odd q → set q ≡ true) → HasSegment set
piece-at e c p fs odd set is_p on there apart balanced at has =
    piece-near e c p fs set is_p on there apart
    (λ z is_z on_z r.
    has z is_z on_z
    (record {
      off = off-same fs z (nudged r.k r.i r.j p) is_z r.is_point r.same (stays-off fs p r.i r.j r.k r.fine at.off);
      parity = odd-same fs z (nudged r.k r.i r.j p) is_z r.is_point r.same ∙ stays-at fs p r.i r.j r.k is_p balanced r.fine at.off ∙ at.parity;
    }))
