-- Round a point that one edge of a list has: a small step off that edge leads to a point of no edge, and on each side of it
-- all such points have an odd number of edges above them, or all an even one.
use Rattle.std.proofs.Common.{◌≡◌, ◌≢◌, ℕ, ◌*◌, ◌<◌, arith, refl, ap, sym, ◌∙◌, subst, ℤ, pos, ◌+ℤ◌, ◌-ℤ◌, ◌*ℤ◌, ◌<ℤ◌, ◌≤ℤ◌, Bool, true, false, ◌&&◌, ◌||◌, not, unsigned_abs, List, [], ◌∷◌, ◌++◌}
use Rattle.std.specs.Prelude.{int_le, int_lt}
use Rattle.std.specs.Int.{int_max, int_min}
use Rattle.std.specs.List.{AllByRecursion, count_by}
use Rattle.std.specs.Ordering.{int_eq}
use Rattle.std.proofs.lemmas.Bool.{and_parts, both_ways, false_from_ne_true}
use Rattle.std.proofs.lemmas.Int.{by_lt_z, clamps, ints}
use Rattle.sf_grid.specs.Edge.{Edge as Line, IsOnEdge, below_rightward, cross, edge_above, edge_between, is_vertical, on_edge}
use Rattle.sf_grid.specs.EvenOdd.{edges_above, is_odd}
use Rattle.sf_grid.specs.Plane.{Coordinates, IsPoint, Point, grid_point}
use Rattle.sf_grid.proofs.CallerLemmas.{cross-swap, dif, eq_from_test, le_from_test, lies, mul, mul_nonneg-nonneg, mul_pos-pos, num, on_edge-swap, ring, test_from_eq, test_from_le, test_from_lt, var}
use Rattle.sf_grid.proofs.Products.{mul_assoc}
use Rattle.sf_slabs.proofs.CallerLemmas.{each-append, each-both, each-map, each-parts}
use Rattle.sf_plane.proofs.CombineLaws.{start_on_edge}
use Rattle.sf_plane.proofs.FormLaws.{nudged}
use Rattle.sf_interiors.proofs.AlongLaws.{no-run, rise_to, run_to, upright-from}
use Rattle.sf_interiors.proofs.BesideLaws.{upright-above, upright-straddles}
use Rattle.sf_interiors.proofs.ChainLaws.{IsBalanced, exchange, odd-count}
use Rattle.sf_interiors.proofs.InsideLaws.{IsOff, none-odd, stays-off, straddles-on}
use Rattle.sf_interiors.proofs.NudgeLaws.{IsFine, above-left, above-right, cross-nudged, swerve}
use Rattle.sf_interiors.proofs.SideLaws.{below_leftward, differ, edge_above_left, is_over, no-rightward, straddles}
use Rattle.sf_interiors.proofs.StepLaws.{keeps_gt, keeps_lt}

-- ---- the edge itself
pub stepped : (u v : Coordinates) (p : Point) (i j : ℤ) (k : ℕ) → cross u v p ≡ pos 0 → cross u v (nudged k i j p) ≡ swerve i j u v
stepped u v p i j k line = cross-nudged u v p i j k ∙ ap (λ z. z *ℤ pos k +ℤ swerve i j u v) line ∙ none (pos k) (swerve i j u v)
  where
    none : (s t : ℤ) → pos 0 *ℤ s +ℤ t ≡ t
    none s t = omega (arith, ints)

off-edge : (e : Line) (p : Point) (i j : ℤ) (k : ℕ) → cross e.a e.b p ≡ pos 0 → swerve i j e.a e.b ≢ pos 0 → on_edge e (nudged k i j p) ≡ false
off-edge e p i j k line n = false_from_ne_true (on_edge e (nudged k i j p)) (λ t. n (sym (stepped e.a e.b p i j k line) ∙ (lies e (nudged k i j p) t).line))

below-beside : (u v : Coordinates) (p : Point) (i j : ℤ) (k : ℕ) → unsigned_abs i < k → (u.x *ℤ pos p.d) <ℤ p.x → p.x <ℤ (v.x *ℤ pos p.d) → cross u v p ≡ pos 0 →
    below_rightward u v (nudged k i j p) ≡ int_lt (swerve i j u v) (pos 0)
below-beside u v p i j k h low high line =
    let q = nudged k i j p in
    let from : int_le (u.x *ℤ pos (p.d * k)) (p.x *ℤ pos k +ℤ i) ≡ true =
    ap (λ z. int_le z (p.x *ℤ pos k +ℤ i)) (sym (mul_assoc u.x (pos p.d) (pos k))) ∙ test_from_le _ _ (weak _ _ (keeps_lt (u.x *ℤ pos p.d) p.x i k h low)) in
    let to : int_lt (p.x *ℤ pos k +ℤ i) (v.x *ℤ pos (p.d * k)) ≡ true =
    ap (λ z. int_lt (p.x *ℤ pos k +ℤ i) z) (sym (mul_assoc v.x (pos p.d) (pos k))) ∙ test_from_lt _ _ (keeps_gt (v.x *ℤ pos p.d) p.x i k h high) in
    ap (λ b. b && int_lt q.x (v.x *ℤ pos q.d) && int_lt (cross u v q) (pos 0)) from
    ∙ ap (λ b. b && int_lt (cross u v q) (pos 0)) to
    ∙ ap (λ z. int_lt z (pos 0)) (stepped u v p i j k line)
  where
    weak : (s t : ℤ) → s <ℤ t → s ≤ℤ t
    weak s t l = omega (arith, ints)

-- turned round, an edge has the other side
turned : (i j : ℤ) (u v : Coordinates) → swerve i j u v ≢ pos 0 → int_lt (swerve i j v u) (pos 0) ≡ not (int_lt (swerve i j u v) (pos 0))
turned i j u v n = other (swerve i j v u) (swerve i j u v) minus n
  where
    minus : swerve i j v u ≡ pos 0 -ℤ swerve i j u v
    minus = ring (u.x ∷ u.y ∷ v.x ∷ v.y ∷ i ∷ j ∷ [])
        (dif (mul (dif (var 0) (var 2)) (var 5)) (mul (dif (var 1) (var 3)) (var 4)))
        (dif (num (pos 0)) (dif (mul (dif (var 2) (var 0)) (var 5)) (mul (dif (var 3) (var 1)) (var 4))))
        refl

    other : (s t : ℤ) → s ≡ pos 0 -ℤ t → t ≢ pos 0 → int_lt s (pos 0) ≡ not (int_lt t (pos 0))
    other s t e m = by_lt_z t (pos 0) (λ l. grind (arith, ints, e, l)) (λ l. grind (arith, ints, e, l, m))

-- ---- a point of an edge that isn't one of its ends
pub record IsAmid (e : Line) (p : Point) : Type 0 where
  pub on : IsOnEdge e p
  pub off_start : run_to e.a p ≡ pos 0 → rise_to e.a p ≡ pos 0 → ⊥
  pub off_end : run_to e.b p ≡ pos 0 → rise_to e.b p ≡ pos 0 → ⊥

end_on_edge : (e : Line) → IsOnEdge e (grid_point e.b)
end_on_edge e = on_edge-swap e.a e.b (grid_point e.b) ∙ start_on_edge e.b e.a

amid-slants : (e : Line) (p : Point) → IsAmid e p → e.a.x ≢ e.b.x → (run_to e.a p ≢ pos 0) × (run_to e.b p ≢ pos 0)
amid-slants e p m s = (
  λ z. m.off_start z (upright-from e e.a p m.on (start_on_edge e.a e.b) z s),
  λ z. m.off_end z (upright-from e e.b p m.on (end_on_edge e) z s),
)

amid-upright : (e : Line) (p : Point) → IsAmid e p → e.a.x ≡ e.b.x → (rise_to e.a p ≢ pos 0) × (rise_to e.b p ≢ pos 0)
amid-upright e p m v = (
  λ z. m.off_start (no-run e e.a p m.on (start_on_edge e.a e.b) v) z,
  λ z. m.off_end (no-run e e.b p m.on (end_on_edge e) v) z,
)

-- ---- whether it is above a point near by
amid-columns : (e : Line) (p : Point) → IsAmid e p → e.a.x <ℤ e.b.x → ((e.a.x *ℤ pos p.d) <ℤ p.x) × (p.x <ℤ (e.b.x *ℤ pos p.d))
amid-columns e p m l =
    let parts = and_parts (int_le (int_min e.a.x e.b.x *ℤ pos p.d) p.x) (int_le p.x (int_max e.a.x e.b.x *ℤ pos p.d)) (lies e p m.on).x in
    let off = amid-slants e p m (λ h. apart e.a.x e.b.x l h) in (
      below (e.a.x *ℤ pos p.d) p.x (le_from_test (e.a.x *ℤ pos p.d) p.x (ap (λ z. int_le (z *ℤ pos p.d) p.x) (least e.a.x e.b.x l) ∙ parts.0)) off.0,
      above (e.b.x *ℤ pos p.d) p.x (le_from_test p.x (e.b.x *ℤ pos p.d) (ap (λ z. int_le p.x (z *ℤ pos p.d)) (greatest e.a.x e.b.x l) ∙ parts.1)) off.1,
    )
  where
    apart : (s t : ℤ) → s <ℤ t → s ≡ t → ⊥
    apart s t h k = absurd (omega (arith, ints))

    least : (s t : ℤ) → s <ℤ t → s ≡ int_min s t
    least s t h = omega (arith, ints, clamps)

    greatest : (s t : ℤ) → s <ℤ t → t ≡ int_max s t
    greatest s t h = omega (arith, ints, clamps)

    below : (s x : ℤ) → s ≤ℤ x → s -ℤ x ≢ pos 0 → s <ℤ x
    below s x h n = by_lt_z s x (λ k. k) (λ k. absurd (n (omega (arith, ints))))

    above : (s x : ℤ) → x ≤ℤ s → s -ℤ x ≢ pos 0 → x <ℤ s
    above s x h n = by_lt_z x s (λ k. k) (λ k. absurd (n (omega (arith, ints))))

amid-flipped : (e : Line) (p : Point) → IsAmid e p → IsAmid (edge_between e.b e.a) p
amid-flipped e p m = record { on = on_edge-swap e.b e.a p ∙ m.on; off_start = m.off_end; off_end = m.off_start }

slanted-above : (e : Line) (p : Point) (i j : ℤ) (k : ℕ) → IsAmid e p → unsigned_abs i < k → swerve i j e.a e.b ≢ pos 0 → e.a.x ≢ e.b.x →
    edge_above e (nudged k i j p) ≡ differ (int_lt e.b.x e.a.x) (int_lt (swerve i j e.a e.b) (pos 0))
slanted-above e p i j k m h n s =
    by_lt_z e.a.x e.b.x
    (λ l.
    let in_columns = amid-columns e p m l in
    ap (λ b. below_rightward e.a e.b (nudged k i j p) || b) (no-rightward e.b e.a (nudged k i j p) (weak e.a.x e.b.x l))
    ∙ or-none (below_rightward e.a e.b (nudged k i j p))
    ∙ below-beside e.a e.b p i j k h in_columns.0 in_columns.1 (lies e p m.on).line
    ∙ sym (ap (λ b. differ b (int_lt (swerve i j e.a e.b) (pos 0))) (not-behind e.a.x e.b.x l)))
    (λ l.
    let back = strict e.a.x e.b.x l s in
    let in_columns = amid-columns (edge_between e.b e.a) p (amid-flipped e p m) back in
    ap (λ b. b || below_rightward e.b e.a (nudged k i j p)) (no-rightward e.a e.b (nudged k i j p) l)
    ∙ below-beside e.b e.a p i j k h in_columns.0 in_columns.1 (cross-swap e.a e.b p (lies e p m.on).line)
    ∙ turned i j e.a e.b n
    ∙ sym (ap (λ b. differ b (int_lt (swerve i j e.a e.b) (pos 0))) (test_from_lt e.b.x e.a.x back)))
  where
    weak : (x y : ℤ) → x <ℤ y → x ≤ℤ y
    weak x y l = omega (arith, ints)

    strict : (x y : ℤ) → y ≤ℤ x → x ≢ y → y <ℤ x
    strict x y l d = by_lt_z y x (λ q. q) (λ q. absurd (d (omega (arith, ints))))

    or-none : (b : Bool) → (b || false) ≡ b
    or-none true = refl
    or-none false = refl

    not-behind : (x y : ℤ) → x <ℤ y → int_lt y x ≡ false
    not-behind x y l = grind (arith, ints, l)

-- the edge is not above the point itself, by neither count
level : (a b c : Bool) → c ≡ false → (a && b && c) ≡ false
level true true c e = e
level true false c e = refl
level false b c e = refl

no-side : (z : ℤ) → z ≡ pos 0 → int_lt z (pos 0) ≡ false
no-side z e = ap (λ y. int_lt y (pos 0)) e

here-above : (e : Line) (p : Point) → IsOnEdge e p → edge_above e p ≡ false
here-above e p on =
    let line = (lies e p on).line in
    ap (λ b. b || below_rightward e.b e.a p) (level (int_le (e.a.x *ℤ pos p.d) p.x) (int_lt p.x (e.b.x *ℤ pos p.d)) _ (no-side (cross e.a e.b p) line))
    ∙ level (int_le (e.b.x *ℤ pos p.d) p.x) (int_lt p.x (e.a.x *ℤ pos p.d)) _ (no-side (cross e.b e.a p) (cross-swap e.a e.b p line))

here-above_left : (e : Line) (p : Point) → IsOnEdge e p → edge_above_left e p ≡ false
here-above_left e p on =
    let line = (lies e p on).line in
    ap (λ b. b || below_leftward e.b e.a p) (level (int_lt (e.a.x *ℤ pos p.d) p.x) (int_le p.x (e.b.x *ℤ pos p.d)) _ (no-side (cross e.a e.b p) line))
    ∙ level (int_lt (e.b.x *ℤ pos p.d) p.x) (int_le p.x (e.a.x *ℤ pos p.d)) _ (no-side (cross e.b e.a p) (cross-swap e.a e.b p line))

-- ---- the sign of a product
product-left : (d i s : ℤ) → s ≡ d *ℤ i → s ≢ pos 0 → i <ℤ pos 0 → differ (int_lt d (pos 0)) (int_lt s (pos 0)) ≡ true
product-left d i s e n l =
    by_lt_z d (pos 0)
    (λ m.
    ap (λ b. differ b (int_lt s (pos 0))) (test_from_lt d (pos 0) m)
    ∙ ap not (more s ((pos 0 -ℤ d) *ℤ (pos 0 -ℤ i)) (e ∙ both) (mul_pos-pos (pos 0 -ℤ d) (pos 0 -ℤ i) (minus d m) (minus i l))))
    (λ m.
    ap (λ b. differ b (int_lt s (pos 0))) (least d m)
    ∙ less s (d *ℤ (pos 0 -ℤ i)) (e ∙ one) (mul_nonneg-nonneg d (pos 0 -ℤ i) m (weak (pos 0 -ℤ i) (minus i l))) n)
  where
    minus : (z : ℤ) → z <ℤ pos 0 → pos 0 <ℤ (pos 0 -ℤ z)
    minus z h = omega (arith, ints)

    weak : (z : ℤ) → pos 0 <ℤ z → pos 0 ≤ℤ z
    weak z h = omega (arith, ints)

    least : (z : ℤ) → pos 0 ≤ℤ z → int_lt z (pos 0) ≡ false
    least z h = grind (arith, ints, h)

    both : d *ℤ i ≡ (pos 0 -ℤ d) *ℤ (pos 0 -ℤ i)
    both = ring (d ∷ i ∷ []) (mul (var 0) (var 1)) (mul (dif (num (pos 0)) (var 0)) (dif (num (pos 0)) (var 1))) refl

    one : d *ℤ i ≡ pos 0 -ℤ d *ℤ (pos 0 -ℤ i)
    one = ring (d ∷ i ∷ []) (mul (var 0) (var 1)) (dif (num (pos 0)) (mul (var 0) (dif (num (pos 0)) (var 1)))) refl

    more : (a b : ℤ) → a ≡ b → pos 0 <ℤ b → int_lt a (pos 0) ≡ false
    more a b f h = grind (arith, ints, f, h)

    less : (a b : ℤ) → a ≡ pos 0 -ℤ b → pos 0 ≤ℤ b → a ≢ pos 0 → int_lt a (pos 0) ≡ true
    less a b f h m = by_lt_z (pos 0) b (λ l. grind (arith, ints, f, l)) (λ l. absurd (m (omega (arith, ints))))

product-right : (d i s : ℤ) → s ≡ d *ℤ i → s ≢ pos 0 → pos 0 ≤ℤ i → differ (int_lt d (pos 0)) (int_lt s (pos 0)) ≡ false
product-right d i s e n l =
    ap (λ b. differ (int_lt d (pos 0)) b) (flipped s (pos 0 -ℤ s) refl n)
    ∙ turn (int_lt d (pos 0)) (int_lt (pos 0 -ℤ s) (pos 0))
    (product-left d (pos 0 -ℤ i) (pos 0 -ℤ s) (ap (λ z. pos 0 -ℤ z) e ∙ back) (λ z. n (zero s z)) (strict i (λ z. n (e ∙ ap (λ y. d *ℤ y) z ∙ none d)) l))
  where
    flipped : (a b : ℤ) → b ≡ pos 0 -ℤ a → a ≢ pos 0 → int_lt a (pos 0) ≡ not (int_lt b (pos 0))
    flipped a b f m = by_lt_z a (pos 0) (λ h. grind (arith, ints, f, h)) (λ h. grind (arith, ints, f, h, m))

    turn : (a b : Bool) → differ a b ≡ true → differ a (not b) ≡ false
    turn true true h = absurd (both_ways false refl h)
    turn true false h = refl
    turn false true h = refl
    turn false false h = absurd (both_ways false refl h)

    zero : (a : ℤ) → pos 0 -ℤ a ≡ pos 0 → a ≡ pos 0
    zero a h = omega (arith, ints)

    none : (a : ℤ) → a *ℤ pos 0 ≡ pos 0
    none a = ring (a ∷ []) (mul (var 0) (num (pos 0))) (num (pos 0)) refl

    strict : (a : ℤ) → a ≢ pos 0 → pos 0 ≤ℤ a → (pos 0 -ℤ a) <ℤ pos 0
    strict a m h = by_lt_z (pos 0) a (λ k. omega (arith, ints)) (λ k. absurd (m (omega (arith, ints))))

    back : pos 0 -ℤ d *ℤ i ≡ d *ℤ (pos 0 -ℤ i)
    back = ring (d ∷ i ∷ []) (dif (num (pos 0)) (mul (var 0) (var 1))) (mul (var 0) (dif (num (pos 0)) (var 1))) refl

differ-more : (a b c : Bool) → differ a (differ b c) ≡ differ (differ a b) c
differ-more true true true = refl
differ-more true true false = refl
differ-more true false c = refl
differ-more false b c = refl

-- ---- the edges of the list
-- the edge that has the point, among the others, which don't
pub record HasAlone (es : List Line) (e : Line) (p : Point) : Type 0 where
  pub before : List Line
  pub after : List Line
  pub is : es ≡ before ++ e ∷ after
  pub off_before : IsOff p before
  pub off_after : IsOff p after

differ-none : (b : Bool) → differ b false ≡ b
differ-none true = refl
differ-none false = refl

one-differs : (s : Line → Bool) (fs gs : List Line) (e : Line) → AllByRecursion (λ f. s f ≡ false) fs → AllByRecursion (λ f. s f ≡ false) gs → is_odd (count_by s (fs ++ e ∷ gs)) ≡ s e
one-differs s [] gs e h k = odd-count s e gs ∙ ap (differ (s e)) (none-odd s gs k) ∙ differ-none (s e)
one-differs s (f ∷ fs) gs e h k = odd-count s f (fs ++ e ∷ gs) ∙ ap (λ b. differ b (is_odd (count_by s (fs ++ e ∷ gs)))) h.0 ∙ one-differs s fs gs e h.1 k

differ-odd : (s t : Line → Bool) (es : List Line) → differ (is_odd (count_by s es)) (is_odd (count_by t es)) ≡ is_odd (count_by (λ e. differ (s e) (t e)) es)
differ-odd s t [] = refl
differ-odd s t (e ∷ es) =
    ap (λ b. differ b (is_odd (count_by t (e ∷ es)))) (odd-count s e es)
    ∙ ap (λ b. differ (differ (s e) (is_odd (count_by s es))) b) (odd-count t e es)
    ∙ exchange (s e) (is_odd (count_by s es)) (t e) (is_odd (count_by t es))
    ∙ ap (λ b. differ (differ (s e) (t e)) b) (differ-odd s t es)
    ∙ sym (odd-count (λ f. differ (s f) (t f)) e es)

moved : (a b c : Bool) → differ a b ≡ c → a ≡ differ b c
moved true true c h = ap not h
moved true false c h = h
moved false true c h = ap not h
moved false false c h = h

same-differ : (a b : Bool) → a ≡ b → differ a b ≡ false
same-differ true b e = ap not (sym e)
same-differ false b e = sym e

-- with tests that agree on all edges but one, of which it fails
module _ (fs gs : List Line) (e : Line) where
  by-one : (s t : Line → Bool) → AllByRecursion (λ f. s f ≡ t f) fs → AllByRecursion (λ f. s f ≡ t f) gs → t e ≡ false →
      is_odd (count_by s (fs ++ e ∷ gs)) ≡ differ (is_odd (count_by t (fs ++ e ∷ gs))) (s e)
  by-one s t h k n =
      moved (is_odd (count_by s (fs ++ e ∷ gs))) (is_odd (count_by t (fs ++ e ∷ gs))) (s e)
      (differ-odd s t (fs ++ e ∷ gs)
      ∙ one-differs (λ f. differ (s f) (t f)) fs gs e (equal fs h) (equal gs k)
      ∙ ap (differ (s e)) n
      ∙ differ-none (s e))
    where
      equal : (hs : List Line) → AllByRecursion (λ f. s f ≡ t f) hs → AllByRecursion (λ f. differ (s f) (t f) ≡ false) hs
      equal hs q = each-map (λ f. s f ≡ t f) (λ f. differ (s f) (t f) ≡ false) hs (λ f l. same-differ (s f) (t f) l) q

  -- the point itself, by either count
  module _ (p : Point) (is_p : IsPoint p) (on : IsOnEdge e p) (off_fs : IsOff p fs) (off_gs : IsOff p gs) (balanced : IsBalanced (fs ++ e ∷ gs) p) where
    abbrev whole : List Line
    whole = fs ++ e ∷ gs

    abbrev here : Bool
    here = is_odd (edges_above p whole)

    -- counted by right ends, by whether the edge is upright
    here-left : is_odd (count_by (λ f. edge_above_left f p) whole) ≡ differ here (straddles e p)
    here-left = moved_second here (is_odd (count_by (λ f. edge_above_left f p) whole)) (straddles e p) (balanced ∙ one-differs (λ f. straddles f p) fs gs e (none fs off_fs) (none gs off_gs))
      where
        none : (hs : List Line) → IsOff p hs → AllByRecursion (λ f. straddles f p ≡ false) hs
        none hs h = each-map (λ f. on_edge f p ≡ false) (λ f. straddles f p ≡ false) hs (λ f m. false_from_ne_true (straddles f p) (λ t. both_ways (on_edge f p) m (straddles-on f p t))) h

        moved_second : (a b c : Bool) → differ a b ≡ c → b ≡ differ a c
        moved_second true true c h = ap not h
        moved_second true false c h = ap not h
        moved_second false b c h = h

    -- a step to the right, and one to the left
    to-right : (i j : ℤ) (k : ℕ) → pos 0 ≤ℤ i → AllByRecursion (IsFine i j k) fs → AllByRecursion (IsFine i j k) gs →
        is_odd (edges_above (nudged k i j p) whole) ≡ differ here (edge_above e (nudged k i j p))
    to-right i j k r fine_fs fine_gs =
        by-one (λ f. edge_above f (nudged k i j p)) (λ f. edge_above f p) (each fs fine_fs off_fs) (each gs fine_gs off_gs) (here-above e p on)
      where
        each : (hs : List Line) → AllByRecursion (IsFine i j k) hs → IsOff p hs → AllByRecursion (λ f. edge_above f (nudged k i j p) ≡ edge_above f p) hs
        each hs h o = each-both (IsFine i j k) (λ f. on_edge f p ≡ false) (λ f. edge_above f (nudged k i j p) ≡ edge_above f p) hs (λ f m n. above-right f p i j k is_p m r n) h o

    to-left : (i j : ℤ) (k : ℕ) → i <ℤ pos 0 → AllByRecursion (IsFine i j k) fs → AllByRecursion (IsFine i j k) gs →
        is_odd (edges_above (nudged k i j p) whole) ≡ differ (differ here (straddles e p)) (edge_above e (nudged k i j p))
    to-left i j k l fine_fs fine_gs =
        by-one (λ f. edge_above f (nudged k i j p)) (λ f. edge_above_left f p) (each fs fine_fs off_fs) (each gs fine_gs off_gs) (here-above_left e p on)
        ∙ ap (λ b. differ b (edge_above e (nudged k i j p))) here-left
      where
        each : (hs : List Line) → AllByRecursion (IsFine i j k) hs → IsOff p hs → AllByRecursion (λ f. edge_above f (nudged k i j p) ≡ edge_above_left f p) hs
        each hs h o = each-both (IsFine i j k) (λ f. on_edge f p ≡ false) (λ f. edge_above f (nudged k i j p) ≡ edge_above_left f p) hs (λ f m n. above-left f p i j k is_p m l n) h o

    -- an edge that slants
    by-slanted : (i j : ℤ) (k : ℕ) → IsAmid e p → e.a.x ≢ e.b.x → AllByRecursion (IsFine i j k) fs → IsFine i j k e → AllByRecursion (IsFine i j k) gs → swerve i j e.a e.b ≢ pos 0 →
        is_odd (edges_above (nudged k i j p) whole) ≡ differ (differ here (int_lt e.b.x e.a.x)) (int_lt (swerve i j e.a e.b) (pos 0))
    by-slanted i j k m s fine_fs fine gs_fine n =
        by_lt_z i (pos 0)
        (λ l. to-left i j k l fine_fs gs_fine ∙ ap (λ b. differ b (edge_above e (nudged k i j p))) (ap (differ here) slants ∙ differ-none here) ∙ rest)
        (λ l. to-right i j k l fine_fs gs_fine ∙ rest)
      where
        slants : straddles e p ≡ false
        slants = ap (λ b. b && differ (is_over e.a p) (is_over e.b p)) (false_from_ne_true (is_vertical e) (λ t. s (eq_from_test e.a.x e.b.x t)))

        rest : differ here (edge_above e (nudged k i j p)) ≡ differ (differ here (int_lt e.b.x e.a.x)) (int_lt (swerve i j e.a e.b) (pos 0))
        rest = ap (differ here) (slanted-above e p i j k m fine.across n s) ∙ differ-more here (int_lt e.b.x e.a.x) (int_lt (swerve i j e.a e.b) (pos 0))

    -- an upright one
    by-upright : (i j : ℤ) (k : ℕ) → IsAmid e p → e.a.x ≡ e.b.x → AllByRecursion (IsFine i j k) fs → AllByRecursion (IsFine i j k) gs → swerve i j e.a e.b ≢ pos 0 →
        is_odd (edges_above (nudged k i j p) whole) ≡ differ (differ here (int_lt e.a.y e.b.y)) (int_lt (swerve i j e.a e.b) (pos 0))
    by-upright i j k m v fine_fs fine_gs n =
        let off = amid-upright e p m v in
        let across : straddles e p ≡ true = upright-straddles e p v m.on (λ z. off.0 (level-with (e.a.y *ℤ pos p.d) z)) (λ z. off.1 (level-with (e.b.y *ℤ pos p.d) z)) in
        by_lt_z i (pos 0)
        (λ l.
        to-left i j k l fine_fs fine_gs
        ∙ ap (λ b. differ (differ here b) (edge_above e (nudged k i j p))) across
        ∙ ap (differ (differ here true)) (upright-above e (nudged k i j p) v)
        ∙ differ-none (differ here true)
        ∙ ap (differ here) (sym (product-left (e.a.y -ℤ e.b.y) i (swerve i j e.a e.b) product n l) ∙ ap (λ b. differ b (int_lt (swerve i j e.a e.b) (pos 0))) (lower e.a.y e.b.y))
        ∙ differ-more here (int_lt e.a.y e.b.y) (int_lt (swerve i j e.a e.b) (pos 0)))
        (λ l.
        to-right i j k l fine_fs fine_gs
        ∙ ap (differ here) (upright-above e (nudged k i j p) v)
        ∙ ap (differ here) (sym (product-right (e.a.y -ℤ e.b.y) i (swerve i j e.a e.b) product n l) ∙ ap (λ b. differ b (int_lt (swerve i j e.a e.b) (pos 0))) (lower e.a.y e.b.y))
        ∙ differ-more here (int_lt e.a.y e.b.y) (int_lt (swerve i j e.a e.b) (pos 0)))
      where
        level-with : (s : ℤ) → s ≡ p.y → s -ℤ p.y ≡ pos 0
        level-with s h = omega (arith, ints)

        lower : (s t : ℤ) → int_lt (s -ℤ t) (pos 0) ≡ int_lt s t
        lower s t = grind (arith, ints)

        product : swerve i j e.a e.b ≡ (e.a.y -ℤ e.b.y) *ℤ i
        product =
            ap (λ z. (z -ℤ e.a.x) *ℤ j -ℤ (e.b.y -ℤ e.a.y) *ℤ i) (sym v)
            ∙ ring (e.a.x ∷ e.a.y ∷ e.b.y ∷ i ∷ j ∷ [])
            (dif (mul (dif (var 0) (var 0)) (var 4)) (mul (dif (var 2) (var 1)) (var 3)))
            (mul (dif (var 1) (var 2)) (var 3)) refl

-- ---- on each side of the edge all points near have one parity
pub record IsSided (es : List Line) (e : Line) (p : Point) : Type 0 where
  pub base : Bool
  pub off : (i j : ℤ) (k : ℕ) → AllByRecursion (IsFine i j k) es → swerve i j e.a e.b ≢ pos 0 → IsOff (nudged k i j p) es
  pub odd : (i j : ℤ) (k : ℕ) → AllByRecursion (IsFine i j k) es → swerve i j e.a e.b ≢ pos 0 →
      is_odd (edges_above (nudged k i j p) es) ≡ differ base (int_lt (swerve i j e.a e.b) (pos 0))

sided-around : (fs gs : List Line) (e : Line) (p : Point) → IsPoint p → IsAmid e p → IsOff p fs → IsOff p gs → IsBalanced (fs ++ e ∷ gs) p → IsSided (fs ++ e ∷ gs) e p
sided-around fs gs e p is_p m off_fs off_gs balanced = by_test (int_eq e.a.x e.b.x) refl
  where
    off-all : (i j : ℤ) (k : ℕ) → AllByRecursion (IsFine i j k) (fs ++ e ∷ gs) → swerve i j e.a e.b ≢ pos 0 → IsOff (nudged k i j p) (fs ++ e ∷ gs)
    off-all i j k fine n =
        let parts = each-parts (IsFine i j k) fs (e ∷ gs) fine in
        each-append (λ f. on_edge f (nudged k i j p) ≡ false) fs (e ∷ gs) (stays-off fs p i j k parts.0 off_fs)
        (off-edge e p i j k (lies e p m.on).line n, stays-off gs p i j k parts.1.1 off_gs)

    by_test : (t : Bool) → int_eq e.a.x e.b.x ≡ t → IsSided (fs ++ e ∷ gs) e p
    by_test true t =
        record {
          base = differ (is_odd (edges_above p (fs ++ e ∷ gs))) (int_lt e.a.y e.b.y);
          off = off-all;
          odd =
              λ i j k fine n.
              let parts = each-parts (IsFine i j k) fs (e ∷ gs) fine in
              by-upright fs gs e p is_p m.on off_fs off_gs balanced i j k m (eq_from_test e.a.x e.b.x t) parts.0 parts.1.1 n;
        }
    by_test false t =
        record {
          base = differ (is_odd (edges_above p (fs ++ e ∷ gs))) (int_lt e.b.x e.a.x);
          off = off-all;
          odd =
              λ i j k fine n.
              let parts = each-parts (IsFine i j k) fs (e ∷ gs) fine in
              by-slanted fs gs e p is_p m.on off_fs off_gs balanced i j k m (λ v. both_ways (int_eq e.a.x e.b.x) t (test_from_eq e.a.x e.b.x v)) parts.0 parts.1.0 parts.1.1 n;
        }

pub sided : (es : List Line) (e : Line) (p : Point) → IsPoint p → IsAmid e p → HasAlone es e p → IsBalanced es p → IsSided es e p
sided es e p is_p m h balanced = subst (λ gs. IsSided gs e p) (sym h.is) (sided-around h.before h.after e p is_p m h.off_before h.off_after (subst (λ gs. IsBalanced gs p) h.is balanced))
