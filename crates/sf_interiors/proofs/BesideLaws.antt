-- Points beside a point of an edge that isn't in line with its ends: above and below an edge that slants, left and right
-- of one that is vertical.
use Rattle.std.proofs.Common.{◌≡◌, ◌≢◌, ℕ, ◌<◌, arith, refl, ap, sym, ◌∙◌, ℤ, pos, negsuc, ◌+ℤ◌, ◌-ℤ◌, ◌*ℤ◌, ◌<ℤ◌, ◌≤ℤ◌, Bool, true, false, ◌&&◌, ◌||◌, unsigned_abs}
use Rattle.std.specs.Prelude.{int_le, int_lt}
use Rattle.std.specs.Int.{int_max, int_min}
use Rattle.std.proofs.lemmas.Bool.{and_from, and_parts, both_ways, false_from_ne_true}
use Rattle.std.proofs.lemmas.Int.{by_lt_z, clamps, ints}
use Rattle.sf_grid.specs.Plane.{Coordinates, Point}
use Rattle.sf_grid.specs.Edge.{Edge as Line, IsOnEdge, below_rightward, cross, edge_above, is_vertical, on_edge}
use Rattle.sf_grid.proofs.CallerLemmas.{cross-swap, ge_from_test, le_from_test, lies, lt_from_test, test_from_eq, test_from_le, test_from_lt}
use Rattle.sf_grid.proofs.Products.{mul_assoc}
use Rattle.sf_plane.proofs.FormLaws.{nudged}
use Rattle.sf_interiors.proofs.AlongLaws.{column-of}
use Rattle.sf_interiors.proofs.NudgeLaws.{cross-nudged}
use Rattle.sf_interiors.proofs.SideLaws.{below_leftward, differ, edge_above_left, is_over, no-leftward, no-rightward, straddles}
use Rattle.sf_interiors.proofs.StepLaws.{le_right, lt_right, not_level}

-- both points are off the edge, and one of them is below it
pub record IsBeside (e : Line) (p r : Point) : Type 0 where
  pub first : on_edge e p ≡ false
  pub second : on_edge e r ≡ false
  pub turned : differ (edge_above e p) (edge_above e r) ≡ true

-- ---- an edge that slants
cross-up : (u v : Coordinates) (p : Point) (j : ℤ) (k : ℕ) → cross u v p ≡ pos 0 → cross u v (nudged k (pos 0) j p) ≡ (v.x -ℤ u.x) *ℤ j
cross-up u v p j k h = cross-nudged u v p (pos 0) j k ∙ ap (λ z. z *ℤ pos k +ℤ ((v.x -ℤ u.x) *ℤ j -ℤ (v.y -ℤ u.y) *ℤ pos 0)) h ∙ rest (pos k) ((v.x -ℤ u.x) *ℤ j) (v.y -ℤ u.y)
  where
    rest : (s t w : ℤ) → pos 0 *ℤ s +ℤ (t -ℤ w *ℤ pos 0) ≡ t
    rest s t w = omega (arith, ints)

below-up : (u v : Coordinates) (p : Point) (k : ℕ) → u.x <ℤ v.x → cross u v p ≡ pos 0 → below_rightward u v (nudged k (pos 0) (pos 1) p) ≡ false
below-up u v p k l h =
    let q = nudged k (pos 0) (pos 1) p in
    by_tests (int_le (u.x *ℤ pos q.d) q.x) (int_lt q.x (v.x *ℤ pos q.d)) (int_lt (cross u v q) (pos 0))
    (false_from_ne_true (int_lt (cross u v q) (pos 0)) (λ t. clash u.x v.x (cross u v q) l (cross-up u v p (pos 1) k h) (lt_from_test (cross u v q) (pos 0) t)))
  where
    by_tests : (a b c : Bool) → c ≡ false → (a && b && c) ≡ false
    by_tests true true c e = e
    by_tests true false c e = refl
    by_tests false b c e = refl

    clash : (s t z : ℤ) → s <ℤ t → z ≡ (t -ℤ s) *ℤ pos 1 → z <ℤ pos 0 → ⊥
    clash s t z f e g = omega (arith, ints)

below-down : (u v : Coordinates) (p : Point) (k : ℕ) → 0 < k → u.x <ℤ v.x → cross u v p ≡ pos 0 → (u.x *ℤ pos p.d) ≤ℤ p.x → p.x <ℤ (v.x *ℤ pos p.d) →
    below_rightward u v (nudged k (pos 0) (negsuc 0) p) ≡ true
below-down u v p k o l h low high =
    let q = nudged k (pos 0) (negsuc 0) p in
    let from : int_le (u.x *ℤ pos q.d) q.x ≡ true =
    ap (λ z. int_le z (p.x *ℤ pos k +ℤ pos 0)) (sym (mul_assoc u.x (pos p.d) (pos k)))
    ∙ le_right (u.x *ℤ pos p.d) p.x (pos 0) k none (omega (arith, ints)) ∙ test_from_le (u.x *ℤ pos p.d) p.x low in
    let to : int_lt q.x (v.x *ℤ pos q.d) ≡ true =
    ap (λ z. int_lt (p.x *ℤ pos k +ℤ pos 0) z) (sym (mul_assoc v.x (pos p.d) (pos k)))
    ∙ lt_right (v.x *ℤ pos p.d) p.x (pos 0) k none (omega (arith, ints)) ∙ test_from_lt p.x (v.x *ℤ pos p.d) high in
    by_tests (int_le (u.x *ℤ pos q.d) q.x) (int_lt q.x (v.x *ℤ pos q.d)) (int_lt (cross u v q) (pos 0)) from to
    (test_from_lt (cross u v q) (pos 0) (falls u.x v.x (cross u v q) l (cross-up u v p (negsuc 0) k h)))
  where
    none : unsigned_abs (pos 0) < k
    none = omega arith

    by_tests : (a b c : Bool) → a ≡ true → b ≡ true → c ≡ true → (a && b && c) ≡ true
    by_tests true true c e f g = g
    by_tests true false c e f g = absurd (both_ways false refl f)
    by_tests false b c e f g = absurd (both_ways false refl e)

    falls : (s t z : ℤ) → s <ℤ t → z ≡ (t -ℤ s) *ℤ negsuc 0 → z <ℤ pos 0
    falls s t z f e = omega (arith, ints)

off-line : (e : Line) (p : Point) (z : ℤ) → cross e.a e.b p ≡ z → (z ≡ pos 0 → ⊥) → on_edge e p ≡ false
off-line e p z h n = false_from_ne_true (on_edge e p) (λ t. n (sym h ∙ (lies e p t).line))

columns : (s t x : ℤ) (d : ℕ) → s <ℤ t → int_le (int_min s t *ℤ pos d) x ≡ true → int_le x (int_max s t *ℤ pos d) ≡ true → ((s *ℤ pos d) ≤ℤ x) × (x ≤ℤ (t *ℤ pos d))
columns s t x d l f g = (
  le_from_test (s *ℤ pos d) x (ap (λ z. int_le (z *ℤ pos d) x) (least s t l) ∙ f),
  le_from_test x (t *ℤ pos d) (ap (λ z. int_le x (z *ℤ pos d)) (greatest s t l) ∙ g),
)
  where
    least : (m n : ℤ) → m <ℤ n → m ≡ int_min m n
    least m n h = omega (arith, ints, clamps)

    greatest : (m n : ℤ) → m <ℤ n → n ≡ int_max m n
    greatest m n h = omega (arith, ints, clamps)

turn : (a b c d : Bool) → a ≡ false → b ≡ false → c ≡ true → differ (a || b) (c || d) ≡ true
turn a b c d f g h = ap (λ z. differ (z || b) (c || d)) f ∙ ap (λ z. differ z (c || d)) g ∙ ap (λ z. z || d) h

turn_back : (a b c d : Bool) → a ≡ false → b ≡ false → d ≡ true → differ (a || b) (c || d) ≡ true
turn_back a b c d f g h = ap (λ z. differ (z || b) (c || d)) f ∙ ap (λ z. differ z (c || d)) g ∙ ap (λ z. c || z) h ∙ always c
  where
    always : (z : Bool) → (z || true) ≡ true
    always true = refl
    always false = refl

pub slanted-beside : (e : Line) (p : Point) (k : ℕ) → 0 < k → IsOnEdge e p → e.a.x ≢ e.b.x → e.a.x *ℤ pos p.d ≢ p.x → e.b.x *ℤ pos p.d ≢ p.x →
    IsBeside e (nudged k (pos 0) (pos 1) p) (nudged k (pos 0) (negsuc 0) p)
slanted-beside e p k o on slants off_a off_b =
    let l = lies e p on in
    let high = nudged k (pos 0) (pos 1) p in
    let low = nudged k (pos 0) (negsuc 0) p in
    record {
      first = off-line e (nudged k (pos 0) (pos 1) p) ((e.b.x -ℤ e.a.x) *ℤ pos 1) (cross-up e.a e.b p (pos 1) k l.line) (λ z. slants (up e.a.x e.b.x z));
      second = off-line e (nudged k (pos 0) (negsuc 0) p) ((e.b.x -ℤ e.a.x) *ℤ negsuc 0) (cross-up e.a e.b p (negsuc 0) k l.line) (λ z. slants (down e.a.x e.b.x z));
      turned =
          by_lt_z e.a.x e.b.x
          (λ m.
          let parts = and_parts (int_le (int_min e.a.x e.b.x *ℤ pos p.d) p.x) (int_le p.x (int_max e.a.x e.b.x *ℤ pos p.d)) l.x in
          let range = columns e.a.x e.b.x p.x p.d m parts.0 parts.1 in
          turn (below_rightward e.a e.b high) (below_rightward e.b e.a high) (below_rightward e.a e.b low) (below_rightward e.b e.a low)
          (below-up e.a e.b p k m l.line) (no-rightward e.b e.a high (weak e.a.x e.b.x m))
          (below-down e.a e.b p k o m l.line range.0 (strict (e.b.x *ℤ pos p.d) range.1 off_b)))
          (λ n.
          let m : e.b.x <ℤ e.a.x = less e.a.x e.b.x n slants in
          let line = cross-swap e.a e.b p l.line in
          let parts = and_parts (int_le (int_min e.a.x e.b.x *ℤ pos p.d) p.x) (int_le p.x (int_max e.a.x e.b.x *ℤ pos p.d)) l.x in
          let range = columns e.b.x e.a.x p.x p.d m (ap (λ z. int_le (z *ℤ pos p.d) p.x) (min_comm e.b.x e.a.x) ∙ parts.0) (ap (λ z. int_le p.x (z *ℤ pos p.d)) (max_comm e.b.x e.a.x) ∙ parts.1) in
          turn_back (below_rightward e.a e.b high) (below_rightward e.b e.a high) (below_rightward e.a e.b low) (below_rightward e.b e.a low)
          (no-rightward e.a e.b high n) (below-up e.b e.a p k m line)
          (below-down e.b e.a p k o m line range.0 (strict (e.a.x *ℤ pos p.d) range.1 off_a)));
    }
  where
    up : (s t : ℤ) → (t -ℤ s) *ℤ pos 1 ≡ pos 0 → s ≡ t
    up s t h = omega (arith, ints)

    down : (s t : ℤ) → (t -ℤ s) *ℤ negsuc 0 ≡ pos 0 → s ≡ t
    down s t h = omega (arith, ints)

    weak : (s t : ℤ) → s <ℤ t → s ≤ℤ t
    weak s t h = omega (arith, ints)

    less : (s t : ℤ) → t ≤ℤ s → s ≢ t → t <ℤ s
    less s t h n = by_lt_z t s (λ l. l) (λ l. absurd (n (omega (arith, ints))))

    strict : (s : ℤ) → p.x ≤ℤ s → s ≢ p.x → p.x <ℤ s
    strict s h n = by_lt_z p.x s (λ l. l) (λ l. absurd (n (omega (arith, ints))))

    min_comm : (s t : ℤ) → int_min s t ≡ int_min t s
    min_comm s t = omega (arith, ints, clamps)

    max_comm : (s t : ℤ) → int_max s t ≡ int_max t s
    max_comm s t = omega (arith, ints, clamps)

-- ---- a vertical edge
at_most : (s t : ℤ) → s ≡ t → s ≤ℤ t
at_most s t h = omega (arith, ints)

pub upright-above : (e : Line) (p : Point) → e.a.x ≡ e.b.x → edge_above e p ≡ false
upright-above e p v =
    ap (λ b. b || below_rightward e.b e.a p) (no-rightward e.a e.b p (at_most e.b.x e.a.x (sym v))) ∙ no-rightward e.b e.a p (at_most e.a.x e.b.x v)

pub upright-above_left : (e : Line) (p : Point) → e.a.x ≡ e.b.x → edge_above_left e p ≡ false
upright-above_left e p v =
    ap (λ b. b || below_leftward e.b e.a p) (no-leftward e.a e.b p (at_most e.b.x e.a.x (sym v))) ∙ no-leftward e.b e.a p (at_most e.a.x e.b.x v)

pub upright-off : (e : Line) (p : Point) (i j : ℤ) (k : ℕ) → unsigned_abs i < k → i ≢ pos 0 → e.a.x ≡ e.b.x → IsOnEdge e p → on_edge e (nudged k i j p) ≡ false
upright-off e p i j k h n v on =
    false_from_ne_true (on_edge e (nudged k i j p))
    (λ t.
    not_level (e.a.x *ℤ pos p.d) p.x i k h n (mul_assoc e.a.x (pos p.d) (pos k) ∙ column-of e (nudged k i j p) v t))

-- y is neither below both of two numbers nor above both
abbrev Between : ℤ → ℤ → ℤ → Type 0
Between y s t = (y <ℤ s → y <ℤ t → ⊥) × (s ≤ℤ y → t ≤ℤ y → s ≢ y → t ≢ y → ⊥)

ranged : (y s t : ℤ) → (s ≤ℤ y) × (y ≤ℤ t) → Between y s t
ranged y s t h = (λ f g. low h.0 f, λ f g m n. n (high h.1 g))
  where
    low : s ≤ℤ y → y <ℤ s → ⊥
    low f g = omega (arith, ints)

    high : y ≤ℤ t → t ≤ℤ y → t ≡ y
    high f g = omega (arith, ints)

turned_round : (y s t : ℤ) → Between y t s → Between y s t
turned_round y s t h = (λ f g. h.0 g f, λ f g m n. h.1 g f n m)

-- between its ends it straddles a point
pub upright-straddles : (e : Line) (p : Point) → e.a.x ≡ e.b.x → IsOnEdge e p → e.a.y *ℤ pos p.d ≢ p.y → e.b.y *ℤ pos p.d ≢ p.y → straddles e p ≡ true
upright-straddles e p v on off_a off_b =
    let column : e.a.x *ℤ pos p.d ≡ p.x = column-of e p v on in
    let other : e.b.x *ℤ pos p.d ≡ p.x = ap (λ z. z *ℤ pos p.d) (sym v) ∙ column in
    let parts = and_parts (int_le (int_min e.a.y e.b.y *ℤ pos p.d) p.y) (int_le p.y (int_max e.a.y e.b.y *ℤ pos p.d)) (lies e p on).y in
    and_from (is_vertical e) (differ (is_over e.a p) (is_over e.b p)) (test_from_eq e.a.x e.b.x v)
    (ap (λ t. differ (t && int_lt p.y (e.a.y *ℤ pos p.d)) (is_over e.b p)) (test_from_eq (e.a.x *ℤ pos p.d) p.x column)
    ∙ ap (λ t. differ (int_lt p.y (e.a.y *ℤ pos p.d)) (t && int_lt p.y (e.b.y *ℤ pos p.d))) (test_from_eq (e.b.x *ℤ pos p.d) p.x other)
    ∙ by_tests (int_lt p.y (e.a.y *ℤ pos p.d)) refl (int_lt p.y (e.b.y *ℤ pos p.d)) refl
    (by_lt_z e.a.y e.b.y
    (λ l. ranged p.y (e.a.y *ℤ pos p.d) (e.b.y *ℤ pos p.d) (columns e.a.y e.b.y p.y p.d l parts.0 parts.1))
    (λ l. by_lt_z e.b.y e.a.y
    (λ m.
    turned_round p.y (e.a.y *ℤ pos p.d) (e.b.y *ℤ pos p.d)
    (ranged p.y (e.b.y *ℤ pos p.d) (e.a.y *ℤ pos p.d)
    (columns e.b.y e.a.y p.y p.d m (ap (λ z. int_le (z *ℤ pos p.d) p.y) (min_comm e.b.y e.a.y) ∙ parts.0) (ap (λ z. int_le p.y (z *ℤ pos p.d)) (max_comm e.b.y e.a.y) ∙ parts.1))))
    (λ m. absurd (off_a
    (both (e.a.y *ℤ pos p.d) (le_from_test (e.a.y *ℤ pos p.d) p.y (ap (λ z. int_le (z *ℤ pos p.d) p.y) (least e.a.y e.b.y l m) ∙ parts.0))
    (le_from_test p.y (e.a.y *ℤ pos p.d) (ap (λ z. int_le p.y (z *ℤ pos p.d)) (greatest e.a.y e.b.y l m) ∙ parts.1))))))))
  where
    both : (s : ℤ) → s ≤ℤ p.y → p.y ≤ℤ s → s ≡ p.y
    both s h k = omega (arith, ints)

    min_comm : (s t : ℤ) → int_min s t ≡ int_min t s
    min_comm s t = omega (arith, ints, clamps)

    max_comm : (s t : ℤ) → int_max s t ≡ int_max t s
    max_comm s t = omega (arith, ints, clamps)

    least : (s t : ℤ) → t ≤ℤ s → s ≤ℤ t → s ≡ int_min s t
    least s t h k = omega (arith, ints, clamps)

    greatest : (s t : ℤ) → t ≤ℤ s → s ≤ℤ t → s ≡ int_max s t
    greatest s t h k = omega (arith, ints, clamps)

    by_tests : (s : Bool) → int_lt p.y (e.a.y *ℤ pos p.d) ≡ s → (t : Bool) → int_lt p.y (e.b.y *ℤ pos p.d) ≡ t → Between p.y (e.a.y *ℤ pos p.d) (e.b.y *ℤ pos p.d) → differ s t ≡ true
    by_tests true h true k m = absurd (m.0 (lt_from_test p.y (e.a.y *ℤ pos p.d) h) (lt_from_test p.y (e.b.y *ℤ pos p.d) k))
    by_tests true h false k m = refl
    by_tests false h true k m = refl
    by_tests false h false k m = absurd (m.1 (ge_from_test p.y (e.a.y *ℤ pos p.d) h) (ge_from_test p.y (e.b.y *ℤ pos p.d) k) off_a off_b)
