-- Edges that share points: they are level there, they cross in one point, or they are parallel.
use Rattle.std.proofs.Common.{◌≡◌, ◌≢◌, refl, ap, sym, ◌∙◌, subst, ℤ, pos, ◌+ℤ◌, ◌-ℤ◌, ◌*ℤ◌, ◌<ℤ◌, ◌<◌, arith, Bool, true, false, cond, not, ◌&&◌, [], ◌∷◌, Option, Some, None, inl, inr, unsigned_abs}
use Rattle.std.specs.Prelude.{int_lt, neg_ℤ, if◌then◌else◌}
use Rattle.std.specs.Ordering.{int_eq}
use Rattle.std.specs.declared.cmp.Ordering.TheVariants.{Equal}
use Rattle.std.proofs.lemmas.Bool.{and_from, and_parts, both_ways, not-true}
use Rattle.std.proofs.lemmas.Int.{ints}
use Rattle.sf_grid.specs.Fraction.{Fraction, IsFraction, fraction_eq, fraction_lt, whole}
use Rattle.sf_grid.specs.Plane.{Coordinates, IsPoint, IsSamePoint, Point, grid_point, point_at, x_of, y_of}
use Rattle.sf_grid.specs.Edge.{Edge as Line, IsOnEdge, cross, cross_of_directions, crossing, edge_between, height_at, height_cmp, is_vertical, left_end, meeting_of_lines, on_edge, reaches, right_end, signed_as}
use Rattle.sf_grid.specs.Laws.{HasHeight}
use Rattle.sf_grid.specs.Sharing.{IsOnBoth}
use Rattle.sf_grid.proofs.CallerLemmas.{Same, dif, edge_gap, eq_from_mul, eq_from_test, equal_is, gap-between, height-IsFraction, height_cmp-gap, is_equal, lies, lt_from_test, meeting-x, meeting-y, mul, num, on_edge-mean, on_edge-same, on_edge-same_point, on_edge-swap, order_from_before, ring, same_point_is_equivalence, sum, test_from_eq, test_from_lt, var, way, zero_from_mul, zero_mul}
use Rattle.sf_strips.specs.declared.active.Active.{Active}
use Rattle.sf_strips.specs.Fronts.{IsRun, line_of}
use Rattle.sf_strips.specs.Slanted.{IsMeetingAfter, IsOneLine}
use Rattle.sf_strips.proofs.CallerLemmas.{slope_gap}
use Rattle.sf_slabs.proofs.NumberLaws.{Same-trans, rising_order}
use Rattle.sf_slabs.proofs.OnLaws.{IsPoint-point_at, on_edge-height, x_of-point_at, y_of-point_at}
use Rattle.sf_slabs.proofs.SampleLaws.{if_cases}
use Rattle.sf_slabs.proofs.SlopeLaws.{gap-grows}

-- ---- common points and common heights
-- a point's coordinates are numbers
pub place-IsFraction : (p : Point) → IsPoint p → IsFraction (x_of p)
place-IsFraction p i = record { positive = i.positive }

height_of-IsFraction : (p : Point) → IsPoint p → IsFraction (y_of p)
height_of-IsFraction p i = record { positive = i.positive }

-- a point on an edge that isn't vertical: the edge reaches its column, and has the point's height there
pub on_edge-column : (e : Line) (p : Point) (z : Fraction) → is_vertical e ≡ false → IsPoint p → IsFraction z → Same (x_of p) z → IsOnEdge e p →
    (reaches e z ≡ true) × Same (y_of p) (height_at e z)
on_edge-column e p z s i j m h =
    let there =
    on_edge-same e p (point_at z (y_of p)) i (IsPoint-point_at z (y_of p) j (height_of-IsFraction p i))
    (Same-trans (x_of p) z (x_of (point_at z (y_of p))) j m (sym (x_of-point_at z (y_of p))))
    (sym (y_of-point_at z (y_of p))) in
    let parts =
    and_parts (reaches e z) (fraction_eq (y_of p) (height_at e z))
    (sym (on_edge-height e z (y_of p) s j (height_of-IsFraction p i)) ∙ (sym there ∙ h)) in
    (parts.0, eq_from_test _ _ parts.1)

-- two edges are level in the column of a common point
pub level_at-point : (e f : Line) (p : Point) (z : Fraction) → is_vertical e ≡ false → is_vertical f ≡ false → IsPoint p → IsFraction z →
    Same (x_of p) z → IsOnBoth e f p → height_cmp e f z ≡ Equal
level_at-point e f p z s t i j m h =
    is_equal _ _
    (Same-trans (height_at e z) (y_of p) (height_at f z) (height_of-IsFraction p i)
    (sym (on_edge-column e p z s i j m h.0).1)
    (on_edge-column f p z t i j m h.1).1)

-- equal numbers pass the test
equal_test : (q r : Fraction) → Same q r → fraction_eq q r ≡ true
equal_test q r e = test_from_eq (q.num *ℤ pos r.den) (r.num *ℤ pos q.den) e

-- level edges have one height
pub level-same : (e f : Line) (z : Fraction) → height_cmp e f z ≡ Equal → Same (height_at e z) (height_at f z)
level-same e f z l = equal_is ((height_at e z).num *ℤ pos (height_at f z).den) ((height_at f z).num *ℤ pos (height_at e z).den) l

-- where two edges are level, they have a common point
pub both_at-level : (e f : Line) (z : Fraction) → HasHeight e z → HasHeight f z → IsFraction z → height_cmp e f z ≡ Equal →
    IsOnBoth e f (point_at z (height_at e z))
both_at-level e f z h k j l =
    let number = height-IsFraction e z h j in (
      on_edge-height e z (height_at e z) h.slants j number ∙ and_from _ _ h.reached (equal_test (height_at e z) (height_at e z) refl),
      on_edge-height f z (height_at e z) k.slants j number ∙ and_from _ _ k.reached (equal_test (height_at e z) (height_at f z) (level-same e f z l)),
    )

-- ---- parallel edges
zero_of : (a b : ℤ) → a ≡ pos 0 -ℤ b → b ≡ pos 0 → a ≡ pos 0
zero_of a b e f = omega (arith, ints)

-- their slopes are one
slope_gap-parallel : (e f : Line) → cross_of_directions e f ≡ pos 0 → slope_gap (left_end e) (right_end e) (left_end f) (right_end f) ≡ pos 0
slope_gap-parallel e f z = by_tests (int_lt e.b.x e.a.x) (int_lt f.b.x f.a.x)
  where
    flipped : (a b s t : Coordinates) → slope_gap a b s t ≡ pos 0 -ℤ cross_of_directions (edge_between a b) (edge_between s t)
    flipped a b s t =
        ring ((b.x -ℤ a.x) ∷ (b.y -ℤ a.y) ∷ (t.x -ℤ s.x) ∷ (t.y -ℤ s.y) ∷ [])
        (dif (mul (var 1) (var 2)) (mul (var 3) (var 0)))
        (dif (num (pos 0)) (dif (mul (var 0) (var 3)) (mul (var 1) (var 2))))
        refl

    first_back : (a b s t : Coordinates) → slope_gap b a s t ≡ pos 0 -ℤ slope_gap a b s t
    first_back a b s t =
        ring (a.x ∷ a.y ∷ b.x ∷ b.y ∷ (t.x -ℤ s.x) ∷ (t.y -ℤ s.y) ∷ [])
        (dif (mul (dif (var 1) (var 3)) (var 4)) (mul (var 5) (dif (var 0) (var 2))))
        (dif (num (pos 0)) (dif (mul (dif (var 3) (var 1)) (var 4)) (mul (var 5) (dif (var 2) (var 0)))))
        refl

    second_back : (a b s t : Coordinates) → slope_gap a b t s ≡ pos 0 -ℤ slope_gap a b s t
    second_back a b s t =
        ring (s.x ∷ s.y ∷ t.x ∷ t.y ∷ (b.x -ℤ a.x) ∷ (b.y -ℤ a.y) ∷ [])
        (dif (mul (var 5) (dif (var 0) (var 2))) (mul (dif (var 1) (var 3)) (var 4)))
        (dif (num (pos 0)) (dif (mul (var 5) (dif (var 2) (var 0))) (mul (dif (var 3) (var 1)) (var 4))))
        refl

    straight : slope_gap e.a e.b f.a f.b ≡ pos 0
    straight = zero_of _ _ (flipped e.a e.b f.a f.b) z

    by_tests : (t s : Bool) → slope_gap (cond t e.b e.a) (cond t e.a e.b) (cond s f.b f.a) (cond s f.a f.b) ≡ pos 0
    by_tests false false = straight
    by_tests true false = zero_of _ _ (first_back e.a e.b f.a f.b) straight
    by_tests false true = zero_of _ _ (second_back e.a e.b f.a f.b) straight
    by_tests true true = zero_of _ _ (first_back e.a e.b f.b f.a) (zero_of _ _ (second_back e.a e.b f.a f.b) straight)

-- the gap of two edges that are level is 0
gap_of-level : (e f : Line) (z : Fraction) → is_vertical e ≡ false → is_vertical f ≡ false → IsFraction z → height_cmp e f z ≡ Equal → edge_gap e f z ≡ pos 0
gap_of-level e f z s t i l = equal_is (edge_gap e f z) (pos 0) (sym (height_cmp-gap e f z s t i) ∙ l)

level_from-gap : (e f : Line) (z : Fraction) → is_vertical e ≡ false → is_vertical f ≡ false → IsFraction z → edge_gap e f z ≡ pos 0 → height_cmp e f z ≡ Equal
level_from-gap e f z s t i g = height_cmp-gap e f z s t i ∙ is_equal (edge_gap e f z) (pos 0) g

-- parallel edges that are level in one column are level in every one
pub level-parallel : (e f : Line) (x z : Fraction) → is_vertical e ≡ false → is_vertical f ≡ false → IsFraction x → IsFraction z →
    cross_of_directions e f ≡ pos 0 → height_cmp e f x ≡ Equal → height_cmp e f z ≡ Equal
level-parallel e f x z s t i j p l =
    level_from-gap e f z s t j
    (eq_from_mul (edge_gap e f z) (pos 0) x.den i.positive
    (gap-grows (left_end e) (right_end e) (left_end f) (right_end f) x z (gap_of-level e f x s t i l)
    ∙ ap (λ g. g *ℤ (z.num *ℤ pos x.den -ℤ x.num *ℤ pos z.den)) (slope_gap-parallel e f p)
    ∙ zero_mul (z.num *ℤ pos x.den -ℤ x.num *ℤ pos z.den)
    ∙ sym (zero_mul (pos x.den))))

-- edges that are level in two columns are level in every one
pub level-everywhere : (e f : Line) (x y z : Fraction) → is_vertical e ≡ false → is_vertical f ≡ false → IsFraction x → IsFraction y → IsFraction z →
    fraction_lt x y ≡ true → height_cmp e f x ≡ Equal → height_cmp e f y ≡ Equal → height_cmp e f z ≡ Equal
level-everywhere e f x y z s t i j k l m n =
    level_from-gap e f z s t k
    (mean_zero (edge_gap e f z) (y.num *ℤ pos x.den -ℤ x.num *ℤ pos y.den) (edge_gap e f x) (y.num *ℤ pos z.den -ℤ z.num *ℤ pos y.den) (edge_gap e f y)
    (z.num *ℤ pos x.den -ℤ x.num *ℤ pos z.den)
    (gap-between (left_end e) (right_end e) (left_end f) (right_end f) x y z)
    (positive (x.num *ℤ pos y.den) (y.num *ℤ pos x.den) (lt_from_test _ _ l))
    (gap_of-level e f x s t i m)
    (gap_of-level e f y s t j n))
  where
    positive : (a b : ℤ) → a <ℤ b → pos 0 <ℤ (b -ℤ a)
    positive a b h = omega (arith, ints)

    mean_zero : (g d h a o b : ℤ) → g *ℤ d ≡ h *ℤ a +ℤ o *ℤ b → pos 0 <ℤ d → h ≡ pos 0 → o ≡ pos 0 → g ≡ pos 0
    mean_zero g d h a o b e p q r =
        zero_from_mul d g p
        (ring (g ∷ d ∷ []) (mul (var 1) (var 0)) (mul (var 0) (var 1)) refl
        ∙ e
        ∙ ap (λ w. w *ℤ a +ℤ o *ℤ b) q
        ∙ ap (λ w. pos 0 *ℤ a +ℤ w *ℤ b) r
        ∙ ring (a ∷ b ∷ []) (sum (mul (num (pos 0)) (var 0)) (mul (num (pos 0)) (var 1))) (num (pos 0)) refl)

-- ---- edges that cross
-- the point of a column is not one further right
pub not_same_place : (x : Fraction) (h : Fraction) (p : Point) → IsFraction x → IsFraction h → fraction_lt x (x_of p) ≡ true → IsSamePoint (point_at x h) p → ⊥
not_same_place x h p i j l m =
    rising_order.apart x (x_of p)
    (Same-trans x (x_of (point_at x h)) (x_of p) (place-IsFraction (point_at x h) (IsPoint-point_at x h i j)) (sym (x_of-point_at x h))
    (eq_from_test _ _ (and_parts _ _ m).0))
    l

-- the one point that two edges share is on both
pub meeting-on_both : (e f : Line) (x : Fraction) (p : Point) → IsMeetingAfter e f x p → IsOnBoth e f p
meeting-on_both e f x p m = (m.only.1 p m.only.0).1 (same_point_is_equivalence.reflexive p)

-- two edges of the column x that share just one point, further right, aren't parallel
pub meeting-apart : (e f : Line) (x : Fraction) (p : Point) → HasHeight e x → HasHeight f x → IsFraction x → IsMeetingAfter e f x p →
    cross_of_directions e f ≢ pos 0
meeting-apart e f x p h k i m z =
    let number = place-IsFraction p m.only.0 in
    let level = level_at-point e f p (x_of p) h.slants k.slants m.only.0 number refl (meeting-on_both e f x p m) in
    let both = both_at-level e f x h k i (level-parallel e f (x_of p) x h.slants k.slants number i z level) in
    let height = height-IsFraction e x h i in
    not_same_place x (height_at e x) p i height m.after ((m.only.1 (point_at x (height_at e x)) (IsPoint-point_at x (height_at e x) i height)).0 both)

-- the meeting of the lines is any common point
no_more : (a k l y z : ℤ) → y ≡ pos 0 → z ≡ pos 0 → a +ℤ (k *ℤ y -ℤ l *ℤ z) ≡ a
no_more a k l y z e f =
    rw (e, f) (ring (a ∷ k ∷ l ∷ []) (sum (var 0) (dif (mul (var 1) (num (pos 0))) (mul (var 2) (num (pos 0))))) (var 0) refl)

signed-product : (s n d x : ℤ) → n *ℤ d ≡ x *ℤ s → signed_as s n *ℤ d ≡ x *ℤ pos (unsigned_abs s)
signed-product s n d x e = by_test (int_lt s (pos 0)) refl
  where
    negated : neg_ℤ n ≡ pos 0 -ℤ n
    negated = omega (arith, ints)

    size_negative : int_lt s (pos 0) ≡ true → pos (unsigned_abs s) ≡ pos 0 -ℤ s
    size_negative h = let l : s <ℤ pos 0 = lt_from_test s (pos 0) h in omega (arith, ints)

    size_positive : int_lt s (pos 0) ≡ false → pos (unsigned_abs s) ≡ s
    size_positive h = grind (arith, ints)

    by_test : (t : Bool) → int_lt s (pos 0) ≡ t → (if t then neg_ℤ n else n) *ℤ d ≡ x *ℤ pos (unsigned_abs s)
    by_test true h =
        ap (λ w. w *ℤ d) negated
        ∙ ring (n ∷ d ∷ []) (mul (dif (num (pos 0)) (var 0)) (var 1)) (dif (num (pos 0)) (mul (var 0) (var 1))) refl
        ∙ ap (λ w. pos 0 -ℤ w) e
        ∙ ring (x ∷ s ∷ []) (dif (num (pos 0)) (mul (var 0) (var 1))) (mul (var 0) (dif (num (pos 0)) (var 1))) refl
        ∙ ap (λ w. x *ℤ w) (sym (size_negative h))
    by_test false h = e ∙ ap (λ w. x *ℤ w) (sym (size_positive h))

pub meeting-same : (e f : Line) (p : Point) → IsOnBoth e f p → IsSamePoint (meeting_of_lines e f) p
meeting-same e f p h =
    let first = (lies e p h.0).line in
    let second = (lies f p h.1).line in
    and_from _ _
    (test_from_eq _ _
    (signed-product (cross_of_directions e f) (e.a.x *ℤ cross_of_directions e f +ℤ way e f *ℤ (e.b.x -ℤ e.a.x)) (pos p.d) p.x
    (meeting-x e f p ∙ no_more (p.x *ℤ cross_of_directions e f) (e.b.x -ℤ e.a.x) (f.b.x -ℤ f.a.x) (cross f.a f.b p) (cross e.a e.b p) second first)))
    (test_from_eq _ _
    (signed-product (cross_of_directions e f) (e.a.y *ℤ cross_of_directions e f +ℤ way e f *ℤ (e.b.y -ℤ e.a.y)) (pos p.d) p.y
    (meeting-y e f p ∙ no_more (p.y *ℤ cross_of_directions e f) (e.b.y -ℤ e.a.y) (f.b.y -ℤ f.a.y) (cross f.a f.b p) (cross e.a e.b p) second first)))

size_positive : (z : ℤ) → z ≢ pos 0 → 0 < unsigned_abs z
size_positive z n = omega (arith, ints)

not_zero : (z : ℤ) → z ≢ pos 0 → not (int_eq z (pos 0)) ≡ true
not_zero z n = grind (arith, ints)

chosen : {A : Type 0} (b : Bool) (x y : A) → b ≡ true → (if b then x else y) ≡ x
chosen true x y h = refl
chosen false x y h = cc

-- two edges that aren't parallel and have a common point cross there
pub crossing-is : (e f : Line) (p : Point) → cross_of_directions e f ≢ pos 0 → IsPoint p → IsOnBoth e f p → crossing e f ≡ Some (meeting_of_lines e f)
crossing-is e f p n i h =
    let same = meeting-same e f p h in
    let point : IsPoint (meeting_of_lines e f) = record { positive = size_positive (cross_of_directions e f) n } in
    chosen (not (int_eq (cross_of_directions e f) (pos 0)) && on_edge e (meeting_of_lines e f) && on_edge f (meeting_of_lines e f))
    (Some (meeting_of_lines e f)) None
    (and_from _ _
    (and_from _ _ (not_zero (cross_of_directions e f) n) (on_edge-same_point e (meeting_of_lines e f) p point i same h.0))
    (on_edge-same_point f (meeting_of_lines e f) p point i same h.1))

-- the crossing of two edges: they aren't parallel, and it is a point of both
pub record IsCrossing (e f : Line) (p : Point) : Type 0 where
  pub apart : cross_of_directions e f ≢ pos 0
  pub point : IsPoint p
  pub both : IsOnBoth e f p

pub is-crossing : (e f : Line) (p : Point) → crossing e f ≡ Some p → IsCrossing e f p
is-crossing e f p =
    let P : Option Point → Type 0 = λ o. o ≡ Some p → IsCrossing e f p in
    if_cases P (not (int_eq (cross_of_directions e f) (pos 0)) && on_edge e (meeting_of_lines e f) && on_edge f (meeting_of_lines e f))
    (Some (meeting_of_lines e f)) None
    (λ h m.
    let parts = and_parts (not (int_eq (cross_of_directions e f) (pos 0)) && on_edge e (meeting_of_lines e f)) (on_edge f (meeting_of_lines e f)) h in
    let slants = and_parts (not (int_eq (cross_of_directions e f) (pos 0))) (on_edge e (meeting_of_lines e f)) parts.0 in
    let apart : cross_of_directions e f ≢ pos 0 =
    λ z. both_ways _ (not-true _ slants.0) (test_from_eq (cross_of_directions e f) (pos 0) z) in
    subst (IsCrossing e f) (same_value (meeting_of_lines e f) p m)
    (record { apart = apart; point = record { positive = size_positive (cross_of_directions e f) apart }; both = (slants.1, parts.1) }))
    (λ _ m. absurd (never p m))
  where
    same_value : (a b : Point) → Some a ≡ Some b → a ≡ b
    same_value a b m = cc

    never : (b : Point) → None ≡ Some b → ⊥
    never b m = cc

-- ---- edges of one line
start_on_edge : (a b : Coordinates) → IsOnEdge (edge_between a b) (grid_point a)
start_on_edge a b =
    on_edge-mean (edge_between a b) (grid_point a) (pos 1) (pos 0)
    (record { first = omega (arith, ints); second = omega (arith, ints); total = omega (arith, ints); x = weighed a.x b.x; y = weighed a.y b.y })
  where
    weighed : (s t : ℤ) → (pos 1 +ℤ pos 0) *ℤ s ≡ (pos 1 *ℤ s +ℤ pos 0 *ℤ t) *ℤ pos 1
    weighed s t = omega (arith, ints)

end_on_edge : (a b : Coordinates) → IsOnEdge (edge_between a b) (grid_point b)
end_on_edge a b = on_edge-swap a b (grid_point b) ∙ start_on_edge b a

whole-IsPoint : (a : Coordinates) → IsPoint (grid_point a)
whole-IsPoint a = record { positive = omega arith }

-- edges that share a piece of one line are level in every column
pub level-one_line : (e f : Line) (z : Fraction) → is_vertical e ≡ false → is_vertical f ≡ false → IsFraction z → IsOneLine e f → height_cmp e f z ≡ Equal
level-one_line e f z s t i o =
    let first = (o.shared.1 (grid_point o.start) (whole-IsPoint o.start)).1 (start_on_edge o.start o.end) in
    let second = (o.shared.1 (grid_point o.end) (whole-IsPoint o.end)).1 (end_on_edge o.start o.end) in
    let at = λ (a : Coordinates) (h : IsOnBoth e f (grid_point a)).
    level_at-point e f (grid_point a) (whole a.x) s t (whole-IsPoint a) (place-IsFraction (grid_point a) (whole-IsPoint a)) refl h in
    elim (order_from_before o.start o.end o.shared.0) [
      | inl l ↦
          level-everywhere e f (whole o.start.x) (whole o.end.x) z s t
          (place-IsFraction (grid_point o.start) (whole-IsPoint o.start)) (place-IsFraction (grid_point o.end) (whole-IsPoint o.end)) i
          (test_from_lt (o.start.x *ℤ pos 1) (o.end.x *ℤ pos 1) (times_one o.start.x o.end.x l))
          (at o.start first) (at o.end second)
      | inr l ↦ absurd (one_height o.start o.end l.0 l.1 first.0 second.0)
    ]
  where
    times_one : (a b : ℤ) → a <ℤ b → (a *ℤ pos 1) <ℤ (b *ℤ pos 1)
    times_one a b l = omega (arith, ints)

    equal_only : (a b : ℤ) → a *ℤ pos 1 ≡ b *ℤ pos 1 → a ≡ b
    equal_only a b l = omega (arith, ints)

    once : (a b : ℤ) → a ≡ b → a <ℤ b → ⊥
    once a b l m = absurd (omega (arith, ints))

    one_height : (a b : Coordinates) → a.x ≡ b.x → a.y <ℤ b.y → IsOnEdge e (grid_point a) → IsOnEdge e (grid_point b) → ⊥
    one_height a b m l h k =
        let number = place-IsFraction (grid_point a) (whole-IsPoint a) in
        let low = on_edge-column e (grid_point a) (whole a.x) s (whole-IsPoint a) number refl h in
        let high = on_edge-column e (grid_point b) (whole a.x) s (whole-IsPoint b) number (ap (λ w. w *ℤ pos 1) (sym m)) k in
        once a.y b.y
        (equal_only a.y b.y
        (Same-trans (whole a.y) (height_at e (whole a.x)) (whole b.y) (height-IsFraction e (whole a.x) (record { slants = s; reached = low.0 }) number) low.1 (sym high.1)))
        l

-- ---- a piece's edge and its run from left to right
pub on_edge-run : (e : Line) (a : Active) (p : Point) → IsRun e a → on_edge (line_of a) p ≡ on_edge e p
on_edge-run e a p r =
    ap (λ u. on_edge (edge_between u a.edge.right) p) r.left
    ∙ ap (λ v. on_edge (edge_between (left_end e) v) p) r.right
    ∙ by_test (int_lt e.b.x e.a.x)
  where
    by_test : (t : Bool) → on_edge (edge_between (cond t e.b e.a) (cond t e.a e.b)) p ≡ on_edge e p
    by_test true = on_edge-swap e.b e.a p
    by_test false = refl

pub on_both-run : (e f : Line) (a b : Active) (p : Point) → IsRun e a → IsRun f b → IsOnBoth (line_of a) (line_of b) p → IsOnBoth e f p
on_both-run e f a b p r s h = (sym (on_edge-run e a p r) ∙ h.0, sym (on_edge-run f b p s) ∙ h.1)

pub run-on_both : (e f : Line) (a b : Active) (p : Point) → IsRun e a → IsRun f b → IsOnBoth e f p → IsOnBoth (line_of a) (line_of b) p
run-on_both e f a b p r s h = (on_edge-run e a p r ∙ h.0, on_edge-run f b p s ∙ h.1)

pub meeting-run : (e f : Line) (a b : Active) (x : Fraction) (p : Point) → IsRun e a → IsRun f b → IsMeetingAfter (line_of a) (line_of b) x p → IsMeetingAfter e f x p
meeting-run e f a b x p r s m =
    record {
      only =
          (m.only.0, λ q i. (λ h. (m.only.1 q i).0 (run-on_both e f a b q r s h), λ h. on_both-run e f a b q r s ((m.only.1 q i).1 h)));
      after = m.after;
    }
