-- Inside a list of edges whose parities are balanced, as those of closed chains are: a point stays inside a little off.
use Rattle.std.proofs.Common.{◌≡◌, ℕ, ◌+◌, ◌<◌, arith, refl, ap, sym, ◌∙◌, ℤ, pos, ◌-ℤ◌, ◌*ℤ◌, ◌<ℤ◌, ◌≤ℤ◌, Bool, true, false, ◌&&◌, unsigned_abs, List, [], ◌∷◌}
use Rattle.std.specs.Prelude.{int_lt}
use Rattle.std.specs.Int.{int_max, int_min}
use Rattle.std.specs.List.{AllByRecursion, count_by}
use Rattle.std.specs.Ordering.{int_eq}
use Rattle.std.proofs.lemmas.Bool.{and_from, and_parts, both_ways, false_from_ne_true}
use Rattle.std.proofs.lemmas.Int.{by_lt_z, clamps, ints}
use Rattle.sf_grid.specs.Plane.{Coordinates, IsPoint, Point, x_of, y_of}
use Rattle.sf_grid.specs.Edge.{Edge as Line, IsOnEdge, edge_above, edge_between, is_vertical, on_edge, within}
use Rattle.sf_grid.specs.EvenOdd.{edges_above, is_odd}
use Rattle.sf_grid.proofs.CallerLemmas.{dif, eq_from_test, ge_from_test, lt_from_mul, lt_from_test, mul, num, on_edge-swap, on_edge_from, ring, test_from_eq, test_from_le, var}
use Rattle.sf_slabs.proofs.CallerLemmas.{each-both, each-map}
use Rattle.sf_plane.proofs.FormLaws.{nudged}
use Rattle.sf_valid_rules.proofs.MemberLaws.{count-same}
use Rattle.sf_interiors.proofs.ChainLaws.{IsBalanced, odd-count}
use Rattle.sf_interiors.proofs.NudgeLaws.{IsFine, above-left, above-right, off-nudged, swerve}
use Rattle.sf_interiors.proofs.SideLaws.{differ, edge_above_left, is_over, straddles}

-- ---- a vertical edge that straddles a point is on it
pub upright-on : (a b : Coordinates) (p : Point) → a.x ≡ b.x → a.x *ℤ pos p.d ≡ p.x → (b.y *ℤ pos p.d) ≤ℤ p.y → p.y <ℤ (a.y *ℤ pos p.d) → IsOnEdge (edge_between a b) p
upright-on a b p e f low high =
    let under : b.y <ℤ a.y = lt_from_mul b.y a.y p.d (chain (b.y *ℤ pos p.d) (a.y *ℤ pos p.d) low high) in
    on_edge_from (edge_between a b) p
    (record {
      line =
          ap (λ z. z *ℤ (p.y -ℤ a.y *ℤ pos p.d) -ℤ (b.y -ℤ a.y) *ℤ (p.x -ℤ a.x *ℤ pos p.d)) (no_run b.x a.x (sym e))
          ∙ ap (λ z. pos 0 *ℤ (p.y -ℤ a.y *ℤ pos p.d) -ℤ (b.y -ℤ a.y) *ℤ z) (no_run p.x (a.x *ℤ pos p.d) (sym f))
          ∙ nothing (p.y -ℤ a.y *ℤ pos p.d) (b.y -ℤ a.y);
      x =
          ap (λ z. within z (int_max a.x b.x) (x_of p)) (least a.x b.x e)
          ∙ ap (λ z. within a.x z (x_of p)) (greatest a.x b.x e)
          ∙ and_from _ _ (test_from_le (a.x *ℤ pos p.d) p.x (level (a.x *ℤ pos p.d) f)) (test_from_le p.x (a.x *ℤ pos p.d) (level_back (a.x *ℤ pos p.d) f));
      y =
          ap (λ z. within z (int_max a.y b.y) (y_of p)) (least_second a.y b.y under)
          ∙ ap (λ z. within b.y z (y_of p)) (greatest_first a.y b.y under)
          ∙ and_from _ _ (test_from_le (b.y *ℤ pos p.d) p.y low) (test_from_le p.y (a.y *ℤ pos p.d) (weak (a.y *ℤ pos p.d) high));
    })
  where
    chain : (s t : ℤ) → s ≤ℤ p.y → p.y <ℤ t → s <ℤ t
    chain s t g h = omega (arith, ints)

    weak : (t : ℤ) → p.y <ℤ t → p.y ≤ℤ t
    weak t h = omega (arith, ints)

    level : (s : ℤ) → s ≡ p.x → s ≤ℤ p.x
    level s h = omega (arith, ints)

    level_back : (s : ℤ) → s ≡ p.x → p.x ≤ℤ s
    level_back s h = omega (arith, ints)

    no_run : (s t : ℤ) → s ≡ t → s -ℤ t ≡ pos 0
    no_run s t h = omega (arith, ints)

    nothing : (s t : ℤ) → pos 0 *ℤ s -ℤ t *ℤ pos 0 ≡ pos 0
    nothing s t = ring (s ∷ t ∷ []) (dif (mul (num (pos 0)) (var 0)) (mul (var 1) (num (pos 0)))) (num (pos 0)) refl

    least : (s t : ℤ) → s ≡ t → int_min s t ≡ s
    least s t h = omega (arith, ints, clamps)

    greatest : (s t : ℤ) → s ≡ t → int_max s t ≡ s
    greatest s t h = omega (arith, ints, clamps)

    least_second : (s t : ℤ) → t <ℤ s → int_min s t ≡ t
    least_second s t h = omega (arith, ints, clamps)

    greatest_first : (s t : ℤ) → t <ℤ s → int_max s t ≡ s
    greatest_first s t h = omega (arith, ints, clamps)

over-on : (a b : Coordinates) (p : Point) → a.x ≡ b.x → is_over a p ≡ true → is_over b p ≡ false → IsOnEdge (edge_between a b) p
over-on a b p e h k =
    let parts = and_parts (int_eq (a.x *ℤ pos p.d) p.x) (int_lt p.y (a.y *ℤ pos p.d)) h in
    let column : a.x *ℤ pos p.d ≡ p.x = eq_from_test (a.x *ℤ pos p.d) p.x parts.0 in
    let other : b.x *ℤ pos p.d ≡ p.x = ap (λ z. z *ℤ pos p.d) (sym e) ∙ column in
    upright-on a b p e column
    (ge_from_test p.y (b.y *ℤ pos p.d) (sym (ap (λ t. t && int_lt p.y (b.y *ℤ pos p.d)) (test_from_eq (b.x *ℤ pos p.d) p.x other)) ∙ k))
    (lt_from_test p.y (a.y *ℤ pos p.d) parts.1)

pub straddles-on : (e : Line) (p : Point) → straddles e p ≡ true → on_edge e p ≡ true
straddles-on e p h =
    let parts = and_parts (is_vertical e) (differ (is_over e.a p) (is_over e.b p)) h in
    by_tests (is_over e.a p) refl (is_over e.b p) refl (eq_from_test e.a.x e.b.x parts.0) parts.1
  where
    by_tests : (s : Bool) → is_over e.a p ≡ s → (t : Bool) → is_over e.b p ≡ t → e.a.x ≡ e.b.x → differ s t ≡ true → on_edge e p ≡ true
    by_tests true k true l v d = absurd (both_ways false refl d)
    by_tests true k false l v d = over-on e.a e.b p v k l
    by_tests false k true l v d = on_edge-swap e.a e.b p ∙ over-on e.b e.a p (sym v) l k
    by_tests false k false l v d = absurd (both_ways false refl d)

-- ---- off all edges both parities agree
pub none-odd : (s : Line → Bool) (es : List Line) → AllByRecursion (λ e. s e ≡ false) es → is_odd (count_by s es) ≡ false
none-odd s [] h = refl
none-odd s (e ∷ es) h = odd-count s e es ∙ ap (λ b. differ b (is_odd (count_by s es))) h.0 ∙ none-odd s es h.1

abbrev pub IsOff : Point → List Line → Type 0
IsOff p es = AllByRecursion (λ e. on_edge e p ≡ false) es

pub balanced-off : (es : List Line) (p : Point) → IsBalanced es p → IsOff p es → is_odd (count_by (λ e. edge_above_left e p) es) ≡ is_odd (edges_above p es)
balanced-off es p b h =
    none (is_odd (edges_above p es)) (is_odd (count_by (λ e. edge_above_left e p) es))
    (b ∙ none-odd (λ e. straddles e p) es
    (each-map (λ e. on_edge e p ≡ false) (λ e. straddles e p ≡ false) es
    (λ e k. false_from_ne_true (straddles e p) (λ t. both_ways (on_edge e p) k (straddles-on e p t))) h))
  where
    none : (s t : Bool) → differ s t ≡ false → t ≡ s
    none true true h = refl
    none true false h = sym h
    none false t h = h

-- ---- inside
pub record IsInside (es : List Line) (p : Point) : Type 0 where
  pub off : IsOff p es
  pub odd : is_odd (edges_above p es) ≡ true

pub stays-off : (es : List Line) (p : Point) (i j : ℤ) (k : ℕ) → AllByRecursion (IsFine i j k) es → IsOff p es → IsOff (nudged k i j p) es
stays-off es p i j k f h =
    each-both (IsFine i j k) (λ e. on_edge e p ≡ false) (λ e. on_edge e (nudged k i j p) ≡ false) es (λ e g t. off-nudged e p i j k g t) f h

pub stays : (es : List Line) (p : Point) (i j : ℤ) (k : ℕ) → IsPoint p → IsBalanced es p → AllByRecursion (IsFine i j k) es → IsInside es p → IsInside es (nudged k i j p)
stays es p i j k o b f h =
    record {
      off = stays-off es p i j k f h.off;
      odd =
          by_lt_z i (pos 0)
          (λ l.
          ap is_odd
          (count-same (λ e. edge_above e (nudged k i j p)) (λ e. edge_above_left e p) es
          (each-both (IsFine i j k) (λ e. on_edge e p ≡ false) (λ e. edge_above e (nudged k i j p) ≡ edge_above_left e p) es (λ e g t. above-left e p i j k o g l t) f h.off))
          ∙ balanced-off es p b h.off
          ∙ h.odd)
          (λ l.
          ap is_odd
          (count-same (λ e. edge_above e (nudged k i j p)) (λ e. edge_above e p) es
          (each-both (IsFine i j k) (λ e. on_edge e p ≡ false) (λ e. edge_above e (nudged k i j p) ≡ edge_above e p) es (λ e g t. above-right e p i j k o g l t) f h.off))
          ∙ h.odd);
    }

-- ---- a number above all that a step adds
abbrev pub swerves : ℤ → ℤ → List Line → ℕ
swerves i j [] = unsigned_abs i + unsigned_abs j
swerves i j (e ∷ es) = unsigned_abs (swerve i j e.a e.b) + unsigned_abs (swerve i j e.b e.a) + swerves i j es

pub each-fine : (i j : ℤ) (es : List Line) (k : ℕ) → swerves i j es < k → AllByRecursion (IsFine i j k) es
each-fine i j [] k h = tt
each-fine i j (e ∷ es) k h =
    let rest : swerves i j es < k = omega arith in
    let step = least-fine es k rest in (
      record { across = step.0; up = step.1; onward = omega arith; back = omega arith },
      each-fine i j es k rest,
    )
  where
    least-fine : (gs : List Line) (l : ℕ) → swerves i j gs < l → (unsigned_abs i < l) × (unsigned_abs j < l)
    least-fine [] l g = (omega arith, omega arith)
    least-fine (f ∷ gs) l g = least-fine gs l (omega arith)
