-- A point on an edge of a ring, or inside the ring, is in each box that has the ends of its edges.
use Rattle.std.proofs.Common.{◌≡◌, refl, ap, sym, ◌∙◌, ℕ, ◌+◌, ◌<◌, ℤ, pos, ◌+ℤ◌, ◌-ℤ◌, ◌*ℤ◌, ◌≤ℤ◌, ◌<ℤ◌, arith, Bool, true, false, ◌&&◌, ◌||◌, not, cond, List, [], ◌∷◌, inl, inr}
use Rattle.std.specs.Prelude.{int_le, int_lt}
use Rattle.std.specs.Int.{int_max, int_min}
use Rattle.std.specs.List.{AllByRecursion, count_by}
use Rattle.std.proofs.lemmas.Bool.{and_from, and_parts, both_ways, or_cases}
use Rattle.std.proofs.lemmas.Int.{clamps, ints, by_lt_z}
use Rattle.std.proofs.lemmas.List.Elements.{recursion_from_All}
use Rattle.std.proofs.lemmas.List.Sums.{sum_by-cons}
use Rattle.sf_grid.specs.Plane.{Coordinates, IsPoint, Point, grid_point, x_of, y_of}
use Rattle.sf_grid.specs.Edge.{Edge as Line, below_rightward, cross, edge_above, within}
use Rattle.sf_grid.proofs.CallerLemmas.{dif, le_from_mul, le_from_test, lies, lt_from_test, mul, mul_le, mul_nonneg-nonneg, mul_pos, mul_pos-pos, num, ring, sum, test_from_le, test_from_lt, var}
use Rattle.sf_plane.specs.Boxes.{Box, CommonPointMeets, EdgeIsInBox, HasEnds, IsChain, IsClosedChain, RingIsInBox, in_box}
use Rattle.sf_grid.specs.EvenOdd.{edges_above, is_odd}

-- ---- what the tests say
record Bounds (box : Box) (a : Coordinates) : Type 0 where
  left : box.min_x ≤ℤ a.x
  right : a.x ≤ℤ box.max_x
  bottom : box.min_y ≤ℤ a.y
  top : a.y ≤ℤ box.max_y

once : (a b : ℤ) → (a *ℤ pos 1) ≤ℤ b → a ≤ℤ b
once a b h = omega (arith, ints)

once_right : (a b : ℤ) → a ≤ℤ (b *ℤ pos 1) → a ≤ℤ b
once_right a b h = omega (arith, ints)

bounds : (box : Box) (a : Coordinates) → in_box box (grid_point a) ≡ true → Bounds box a
bounds box a h =
    let parts = and_parts (within box.min_x box.max_x (x_of (grid_point a))) (within box.min_y box.max_y (y_of (grid_point a))) h in
    let x = and_parts (int_le (box.min_x *ℤ pos 1) a.x) (int_le a.x (box.max_x *ℤ pos 1)) parts.0 in
    let y = and_parts (int_le (box.min_y *ℤ pos 1) a.y) (int_le a.y (box.max_y *ℤ pos 1)) parts.1 in
    record {
      left = once box.min_x a.x (le_from_test _ _ x.0);
      right = once_right a.x box.max_x (le_from_test _ _ x.1);
      bottom = once box.min_y a.y (le_from_test _ _ y.0);
      top = once_right a.y box.max_y (le_from_test _ _ y.1);
    }

least : (l a b : ℤ) → l ≤ℤ a → l ≤ℤ b → l ≤ℤ int_min a b
least l a b h k = omega (arith, ints, clamps)

greatest : (l a b : ℤ) → a ≤ℤ l → b ≤ℤ l → int_max a b ≤ℤ l
greatest l a b h k = omega (arith, ints, clamps)

chain_le : (a b c : ℤ) → a ≤ℤ b → b ≤ℤ c → a ≤ℤ c
chain_le a b c h k = omega (arith, ints)

wider : (l m n h z : ℤ) (d : ℕ) → l ≤ℤ m → n ≤ℤ h → (int_le (m *ℤ pos d) z && int_le z (n *ℤ pos d)) ≡ true → (int_le (l *ℤ pos d) z && int_le z (h *ℤ pos d)) ≡ true
wider l m n h z d low high t =
    let parts = and_parts (int_le (m *ℤ pos d) z) (int_le z (n *ℤ pos d)) t in
    and_from _ _
    (test_from_le (l *ℤ pos d) z (chain_le (l *ℤ pos d) (m *ℤ pos d) z (mul_le l m d low) (le_from_test (m *ℤ pos d) z parts.0)))
    (test_from_le z (h *ℤ pos d) (chain_le z (n *ℤ pos d) (h *ℤ pos d) (le_from_test z (n *ℤ pos d) parts.1) (mul_le n h d high)))

pub edge_in_box : EdgeIsInBox
edge_in_box box e p h i k =
    let l = lies e p k in
    let a = bounds box e.a h.0 in
    let b = bounds box e.b h.1 in
    and_from _ _
    (wider box.min_x (int_min e.a.x e.b.x) (int_max e.a.x e.b.x) box.max_x p.x p.d (least box.min_x e.a.x e.b.x a.left b.left) (greatest box.max_x e.a.x e.b.x a.right b.right) l.x)
    (wider box.min_y (int_min e.a.y e.b.y) (int_max e.a.y e.b.y) box.max_y p.y p.d (least box.min_y e.a.y e.b.y a.bottom b.bottom) (greatest box.max_y e.a.y e.b.y a.top b.top) l.y)

-- ---- an edge above a point
-- the side of a point is a mean of how far it is above the ends
side_mean : (u v : Coordinates) (p : Point) →
    cross u v p *ℤ pos p.d
    ≡ (p.x -ℤ u.x *ℤ pos p.d) *ℤ (p.y -ℤ v.y *ℤ pos p.d) +ℤ (v.x *ℤ pos p.d -ℤ p.x) *ℤ (p.y -ℤ u.y *ℤ pos p.d)
side_mean u v p =
    ring (u.x ∷ u.y ∷ v.x ∷ v.y ∷ p.x ∷ p.y ∷ pos p.d ∷ [])
    (mul (dif (mul (dif (var 2) (var 0)) (dif (var 5) (mul (var 1) (var 6)))) (mul (dif (var 3) (var 1)) (dif (var 4) (mul (var 0) (var 6))))) (var 6))
    (sum
    (mul (dif (var 4) (mul (var 0) (var 6))) (dif (var 5) (mul (var 3) (var 6))))
    (mul (dif (mul (var 2) (var 6)) (var 4)) (dif (var 5) (mul (var 1) (var 6)))))
    refl

-- above both ends, a point of the columns from u on, up to v, is above the line
over_both : (u v : Coordinates) (p : Point) → IsPoint p → (u.x *ℤ pos p.d) ≤ℤ p.x → p.x <ℤ (v.x *ℤ pos p.d) → (u.y *ℤ pos p.d) <ℤ p.y → (v.y *ℤ pos p.d) <ℤ p.y →
    cross u v p <ℤ pos 0 → ⊥
over_both u v p i l r h k c =
    let s = mul_nonneg-nonneg (p.x -ℤ u.x *ℤ pos p.d) (p.y -ℤ v.y *ℤ pos p.d) (omega (arith, ints)) (omega (arith, ints)) in
    let t = mul_pos-pos (v.x *ℤ pos p.d -ℤ p.x) (p.y -ℤ u.y *ℤ pos p.d) (omega (arith, ints)) (omega (arith, ints)) in
    let m = mul_pos (pos 0 -ℤ cross u v p) p.d i.positive (omega (arith, ints)) in
    clash (cross u v p) (pos p.d) _ _ (side_mean u v p) s t m
  where
    clash : (c d s t : ℤ) → c *ℤ d ≡ s +ℤ t → pos 0 ≤ℤ s → pos 0 <ℤ t → pos 0 <ℤ ((pos 0 -ℤ c) *ℤ d) → ⊥
    clash c d s t e f g n =
        let o : (pos 0 -ℤ c) *ℤ d ≡ pos 0 -ℤ c *ℤ d = ring (c ∷ d ∷ []) (mul (dif (num (pos 0)) (var 0)) (var 1)) (dif (num (pos 0)) (mul (var 0) (var 1))) refl in
        absurd (omega (arith, ints))

-- below both ends, such a point is below the line
under_both : (u v : Coordinates) (p : Point) → IsPoint p → (u.x *ℤ pos p.d) ≤ℤ p.x → p.x <ℤ (v.x *ℤ pos p.d) → p.y <ℤ (u.y *ℤ pos p.d) → p.y <ℤ (v.y *ℤ pos p.d) →
    cross u v p <ℤ pos 0
under_both u v p i l r h k =
    by_lt_z (cross u v p) (pos 0) (λ c. c)
    (λ c.
    let s = mul_nonneg-nonneg (p.x -ℤ u.x *ℤ pos p.d) (v.y *ℤ pos p.d -ℤ p.y) (omega (arith, ints)) (omega (arith, ints)) in
    let t = mul_pos-pos (v.x *ℤ pos p.d -ℤ p.x) (u.y *ℤ pos p.d -ℤ p.y) (omega (arith, ints)) (omega (arith, ints)) in
    let m = mul_nonneg-nonneg (cross u v p) (pos p.d) (omega (arith, ints)) (omega (arith, ints)) in
    absurd (clash (cross u v p) (pos p.d) (p.x -ℤ u.x *ℤ pos p.d) (p.y -ℤ v.y *ℤ pos p.d) (v.x *ℤ pos p.d -ℤ p.x) (p.y -ℤ u.y *ℤ pos p.d)
    (v.y *ℤ pos p.d -ℤ p.y) (u.y *ℤ pos p.d -ℤ p.y) (side_mean u v p) (turned p.y (v.y *ℤ pos p.d)) (turned p.y (u.y *ℤ pos p.d)) s t m))
  where
    turned : (y z : ℤ) → y -ℤ z ≡ pos 0 -ℤ (z -ℤ y)
    turned y z = omega (arith, ints)

    clash : (c d a f b g f' g' : ℤ) → c *ℤ d ≡ a *ℤ f +ℤ b *ℤ g → f ≡ pos 0 -ℤ f' → g ≡ pos 0 -ℤ g' → pos 0 ≤ℤ (a *ℤ f') → pos 0 <ℤ (b *ℤ g') → pos 0 ≤ℤ (c *ℤ d) → ⊥
    clash c d a f b g f' g' e x y s t m =
        let o : a *ℤ f ≡ pos 0 -ℤ a *ℤ f' = ap (λ z. a *ℤ z) x ∙ ring (a ∷ f' ∷ []) (mul (var 0) (dif (num (pos 0)) (var 1))) (dif (num (pos 0)) (mul (var 0) (var 1))) refl in
        let n : b *ℤ g ≡ pos 0 -ℤ b *ℤ g' = ap (λ z. b *ℤ z) y ∙ ring (b ∷ g' ∷ []) (mul (var 0) (dif (num (pos 0)) (var 1))) (dif (num (pos 0)) (mul (var 0) (var 1))) refl in
        absurd (omega (arith, ints))

-- ---- the bounds that an edge above a point gives
record Under (box : Box) (p : Point) : Type 0 where
  left : (box.min_x *ℤ pos p.d) ≤ℤ p.x
  right : p.x ≤ℤ (box.max_x *ℤ pos p.d)
  top : p.y ≤ℤ (box.max_y *ℤ pos p.d)

under_line : (box : Box) (u v : Coordinates) (p : Point) → IsPoint p → Bounds box u → Bounds box v → below_rightward u v p ≡ true → Under box p
under_line box u v p i a b h =
    let parts = and_parts (int_le (u.x *ℤ pos p.d) p.x && int_lt p.x (v.x *ℤ pos p.d)) (int_lt (cross u v p) (pos 0)) h in
    let columns = and_parts (int_le (u.x *ℤ pos p.d) p.x) (int_lt p.x (v.x *ℤ pos p.d)) parts.0 in
    let low = le_from_test (u.x *ℤ pos p.d) p.x columns.0 in
    let high = lt_from_test p.x (v.x *ℤ pos p.d) columns.1 in
    let side = lt_from_test (cross u v p) (pos 0) parts.1 in
    record {
      left = chain_le (box.min_x *ℤ pos p.d) (u.x *ℤ pos p.d) p.x (mul_le box.min_x u.x p.d a.left) low;
      right = chain_le p.x (v.x *ℤ pos p.d) (box.max_x *ℤ pos p.d) (weaker p.x (v.x *ℤ pos p.d) high) (mul_le v.x box.max_x p.d b.right);
      top =
          by_lt_z (box.max_y *ℤ pos p.d) p.y
          (λ l. absurd (over_both u v p i low high
          (le_lt (u.y *ℤ pos p.d) (box.max_y *ℤ pos p.d) p.y (mul_le u.y box.max_y p.d a.top) l)
          (le_lt (v.y *ℤ pos p.d) (box.max_y *ℤ pos p.d) p.y (mul_le v.y box.max_y p.d b.top) l)
          side))
          (λ l. l);
    }
  where
    weaker : (m n : ℤ) → m <ℤ n → m ≤ℤ n
    weaker m n l = omega (arith, ints)

    le_lt : (l m n : ℤ) → l ≤ℤ m → m <ℤ n → l <ℤ n
    le_lt l m n f g = omega (arith, ints)

under_edge : (box : Box) (e : Line) (p : Point) → IsPoint p → HasEnds box e → edge_above e p ≡ true → Under box p
under_edge box e p i h k =
    elim (or_cases (below_rightward e.a e.b p) (below_rightward e.b e.a p) k) [
      | inl forth ↦ under_line box e.a e.b p i (bounds box e.a h.0) (bounds box e.b h.1) forth
      | inr back ↦ under_line box e.b e.a p i (bounds box e.b h.1) (bounds box e.a h.0) back
    ]

-- ---- odd numbers
abbrev differs : Bool → Bool → Bool
differs true c = not c
differs false c = c

odd-next : (n : ℕ) → is_odd (1 + n) ≡ not (is_odd n)
odd-next n = grind arith

odd-count : (test : Line → Bool) (e : Line) (es : List Line) → is_odd (count_by test (e ∷ es)) ≡ differs (test e) (is_odd (count_by test es))
odd-count test e es = ap is_odd (sum_by-cons (λ f. cond (test f) 1 0) e es) ∙ by_test (test e)
  where
    by_test : (t : Bool) → is_odd (cond t 1 0 + count_by test es) ≡ differs t (is_odd (count_by test es))
    by_test true = odd-next (count_by test es)
    by_test false = ap is_odd (none (count_by test es))
      where
        none : (n : ℕ) → 0 + n ≡ n
        none n = omega arith

-- ---- of a closed chain an even number of edges cross a column
-- the point's column is right of the end, or in its column
abbrev is_left : Point → Coordinates → Bool
is_left p a = int_le (a.x *ℤ pos p.d) p.x

abbrev spans : Point → Line → Bool
spans p e = differs (is_left p e.a) (is_left p e.b)

differs-assoc : (a b c : Bool) → differs (differs a b) (differs b c) ≡ differs a c
differs-assoc true true true = refl
differs-assoc true true false = refl
differs-assoc true false true = refl
differs-assoc true false false = refl
differs-assoc false true true = refl
differs-assoc false true false = refl
differs-assoc false false true = refl
differs-assoc false false false = refl

differs-self : (a : Bool) → differs a a ≡ false
differs-self true = refl
differs-self false = refl

odd-chain : (p : Point) (a b : Coordinates) (es : List Line) → IsChain a es b → is_odd (count_by (spans p) es) ≡ differs (is_left p a) (is_left p b)
odd-chain p a b [] h = sym (differs-self (is_left p a)) ∙ ap (λ c. differs (is_left p a) (is_left p c)) h
odd-chain p a b (e ∷ es) h =
    odd-count (spans p) e es
    ∙ ap (differs (spans p e)) (odd-chain p e.b b es h.1)
    ∙ differs-assoc (is_left p e.a) (is_left p e.b) (is_left p b)
    ∙ ap (λ c. differs (is_left p c) (is_left p b)) h.0

even-closed : (p : Point) (es : List Line) → IsClosedChain es → is_odd (count_by (spans p) es) ≡ false
even-closed p es h = odd-chain p h.0 h.0 es h.1 ∙ differs-self (is_left p h.0)

-- ---- below all ends, the edges above a point are those that cross its column
above_spans : (box : Box) (e : Line) (p : Point) → IsPoint p → HasEnds box e → p.y <ℤ (box.min_y *ℤ pos p.d) → edge_above e p ≡ spans p e
above_spans box e p i h k =
    let a = bounds box e.a h.0 in
    let b = bounds box e.b h.1 in
    let ya = lt_le p.y (box.min_y *ℤ pos p.d) (e.a.y *ℤ pos p.d) k (mul_le box.min_y e.a.y p.d a.bottom) in
    let yb = lt_le p.y (box.min_y *ℤ pos p.d) (e.b.y *ℤ pos p.d) k (mul_le box.min_y e.b.y p.d b.bottom) in
    by_tests (is_left p e.a) refl (is_left p e.b) refl ya yb
  where
    lt_le : (l m n : ℤ) → l <ℤ m → m ≤ℤ n → l <ℤ n
    lt_le l m n f g = omega (arith, ints)

    not_left : (z : ℤ) (q : Point) → int_le (z *ℤ pos q.d) q.x ≡ false → int_lt q.x (z *ℤ pos q.d) ≡ true
    not_left z q f = grind (arith, ints)

    left_not : (z : ℤ) (q : Point) → int_le (z *ℤ pos q.d) q.x ≡ true → int_lt q.x (z *ℤ pos q.d) ≡ false
    left_not z q f = grind (arith, ints)

    line : (u v : Coordinates) → is_left p u ≡ true → is_left p v ≡ false → p.y <ℤ (u.y *ℤ pos p.d) → p.y <ℤ (v.y *ℤ pos p.d) → below_rightward u v p ≡ true
    line u v f g y z =
        and_from _ _ (and_from _ _ f (not_left v.x p g))
        (test_from_lt (cross u v p) (pos 0) (under_both u v p i (le_from_test (u.x *ℤ pos p.d) p.x f) (lt_from_test p.x (v.x *ℤ pos p.d) (not_left v.x p g)) y z))

    no_start : (u v : Coordinates) → is_left p u ≡ false → below_rightward u v p ≡ false
    no_start u v f = ap (λ t. t && int_lt p.x (v.x *ℤ pos p.d) && int_lt (cross u v p) (pos 0)) f

    no_end : (u v : Coordinates) → is_left p v ≡ true → below_rightward u v p ≡ false
    no_end u v f = ap (λ t. int_le (u.x *ℤ pos p.d) p.x && t && int_lt (cross u v p) (pos 0)) (left_not v.x p f) ∙ none (int_le (u.x *ℤ pos p.d) p.x) (int_lt (cross u v p) (pos 0))
      where
        none : (s t : Bool) → (s && false && t) ≡ false
        none true t = refl
        none false t = refl

    or_of : (b c b' c' : Bool) → b ≡ b' → c ≡ c' → (b || c) ≡ (b' || c')
    or_of b c b' c' f g = ap (λ t. t || c) f ∙ ap (λ t. b' || t) g

    by_tests : (s : Bool) → is_left p e.a ≡ s → (t : Bool) → is_left p e.b ≡ t → p.y <ℤ (e.a.y *ℤ pos p.d) → p.y <ℤ (e.b.y *ℤ pos p.d) → edge_above e p ≡ spans p e
    by_tests true f true g y z =
        or_of _ _ false false (no_end e.a e.b g) (no_end e.b e.a f) ∙ sym (ap (λ t. differs t (is_left p e.b)) f ∙ ap (differs true) g)
    by_tests true f false g y z =
        or_of _ _ true false (line e.a e.b f g y z) (no_start e.b e.a g) ∙ sym (ap (λ t. differs t (is_left p e.b)) f ∙ ap (differs true) g)
    by_tests false f true g y z =
        or_of _ _ false true (no_start e.a e.b f) (line e.b e.a g f z y) ∙ sym (ap (λ t. differs t (is_left p e.b)) f ∙ ap (differs false) g)
    by_tests false f false g y z =
        or_of _ _ false false (no_start e.a e.b f) (no_start e.b e.a g) ∙ sym (ap (λ t. differs t (is_left p e.b)) f ∙ ap (differs false) g)

counts_agree : (s t : Line → Bool) (es : List Line) → AllByRecursion (λ e. s e ≡ t e) es → count_by s es ≡ count_by t es
counts_agree s t [] h = refl
counts_agree s t (e ∷ es) h =
    sum_by-cons (λ f. cond (s f) 1 0) e es
    ∙ ap (λ b. cond b 1 0 + count_by s es) h.0
    ∙ ap (λ n. cond (t e) 1 0 + n) (counts_agree s t es h.1)
    ∙ sym (sum_by-cons (λ f. cond (t f) 1 0) e es)

-- an odd number is not that of none
some_above : (box : Box) (p : Point) (es : List Line) → IsPoint p → AllByRecursion (HasEnds box) es → is_odd (edges_above p es) ≡ true → Under box p
some_above box p [] i h k = absurd (both_ways _ none k)
  where
    none : is_odd 0 ≡ false
    none = refl
some_above box p (e ∷ es) i h k = by_test (edge_above e p) refl (sym (odd-count (λ f. edge_above f p) e es) ∙ k) (some_above box p es i h.1)
  where
    by_test : (t : Bool) → edge_above e p ≡ t → differs (edge_above e p) (is_odd (edges_above p es)) ≡ true → (is_odd (edges_above p es) ≡ true → Under box p) → Under box p
    by_test true f g rest = under_edge box e p i h.0 f
    by_test false f g rest = rest (sym (ap (λ b. differs b (is_odd (edges_above p es))) f) ∙ g)

pub ring_in_box : RingIsInBox
ring_in_box box es p closed h i odd =
    let each = recursion_from_All (HasEnds box) es h in
    let under = some_above box p es i each odd in
    and_from _ _
    (and_from _ _ (test_from_le (box.min_x *ℤ pos p.d) p.x under.left) (test_from_le p.x (box.max_x *ℤ pos p.d) under.right))
    (and_from _ _
    (test_from_le (box.min_y *ℤ pos p.d) p.y
    (by_lt_z p.y (box.min_y *ℤ pos p.d)
    (λ low. absurd (both_ways _ (ap is_odd (counts_agree (λ e. edge_above e p) (spans p) es (each-below es low each)) ∙ even-closed p es closed) odd))
    (λ l. l)))
    (test_from_le p.y (box.max_y *ℤ pos p.d) under.top))
  where
    each-below : (fs : List Line) → p.y <ℤ (box.min_y *ℤ pos p.d) → AllByRecursion (HasEnds box) fs → AllByRecursion (λ e. edge_above e p ≡ spans p e) fs
    each-below [] low k = tt
    each-below (e ∷ fs) low k = (above_spans box e p i k.0 low, each-below fs low k.1)

-- ---- two boxes
meet_along : (m m' n n' z : ℤ) (d : ℕ) → 0 < d → (int_le (m *ℤ pos d) z && int_le z (n *ℤ pos d)) ≡ true → (int_le (m' *ℤ pos d) z && int_le z (n' *ℤ pos d)) ≡ true →
    int_le (int_max m m') (int_min n n') ≡ true
meet_along m m' n n' z d p h k =
    let first = and_parts (int_le (m *ℤ pos d) z) (int_le z (n *ℤ pos d)) h in
    let second = and_parts (int_le (m' *ℤ pos d) z) (int_le z (n' *ℤ pos d)) k in
    let a = le_from_test (m *ℤ pos d) z first.0 in
    let b = le_from_test z (n *ℤ pos d) first.1 in
    let a' = le_from_test (m' *ℤ pos d) z second.0 in
    let b' = le_from_test z (n' *ℤ pos d) second.1 in
    test_from_le (int_max m m') (int_min n n')
    (all_below m m' n n'
    (le_from_mul m n d p (chain_le (m *ℤ pos d) z (n *ℤ pos d) a b))
    (le_from_mul m n' d p (chain_le (m *ℤ pos d) z (n' *ℤ pos d) a b'))
    (le_from_mul m' n d p (chain_le (m' *ℤ pos d) z (n *ℤ pos d) a' b))
    (le_from_mul m' n' d p (chain_le (m' *ℤ pos d) z (n' *ℤ pos d) a' b')))
  where
    all_below : (s s' t t' : ℤ) → s ≤ℤ t → s ≤ℤ t' → s' ≤ℤ t → s' ≤ℤ t' → int_max s s' ≤ℤ int_min t t'
    all_below s s' t t' e f g l = omega (arith, ints, clamps)

pub common_point_meets : CommonPointMeets
common_point_meets a b p i h k =
    let first = and_parts (within a.min_x a.max_x (x_of p)) (within a.min_y a.max_y (y_of p)) h in
    let second = and_parts (within b.min_x b.max_x (x_of p)) (within b.min_y b.max_y (y_of p)) k in
    and_from _ _
    (meet_along a.min_x b.min_x a.max_x b.max_x p.x p.d i.positive first.0 second.0)
    (meet_along a.min_y b.min_y a.max_y b.max_y p.y p.d i.positive first.1 second.1)
