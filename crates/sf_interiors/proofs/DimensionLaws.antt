-- The interior and the boundary of a valid geometry have the dimensions of its kind.
use Rattle.std.proofs.Common.{◌≡◌, ◌≢◌, ℕ, suc, ◌+◌, ◌*◌, ◌<◌, ◌≤◌, arith, lit<, refl, ap, sym, ◌∙◌, subst, ℤ, pos, ◌+ℤ◌, ◌-ℤ◌, ◌*ℤ◌, ◌<ℤ◌, ◌≤ℤ◌, Bool, true, false, ◌||◌, not, unsigned_abs, List, [], ◌∷◌, ◌++◌, length, map, inl, inr}
use Rattle.std.specs.Prelude.{if◌then◌else◌, nat_lt}
use Rattle.std.specs.List.{AllByRecursion, count_by, flat_map, list_any}
use Rattle.std.specs.Ordering.{int_eq}
use Rattle.std.proofs.lemmas.Bool.{and_from, and_parts, both_ways, false_from_ne_true, or_cases, or_left, or_parts, or_right}
use Rattle.std.proofs.lemmas.Bool.Decides.{nat_tests}
use Rattle.std.proofs.lemmas.Int.{by_lt_z, ints}
use Rattle.std.proofs.lemmas.List.Elements.{All-from_recursion, recursion_from_All}
use Rattle.sf_grid.specs.Plane.{Coordinates, IsPoint, Point, grid_point, same_point}
use Rattle.sf_grid.specs.Edge.{Edge as Line, IsOnEdge, cross, edge_between, on_edge}
use Rattle.sf_grid.specs.EvenOdd.{is_odd}
use Rattle.sf_grid.proofs.CallerLemmas.{dif, eq_from_mul, eq_from_test, lies, mul, mul_le, num, on_edge-swap, ring, same_coordinates, same_point_is_equivalence, same_tests, sum, var}
use Rattle.sf_slabs.proofs.CallerLemmas.{each-parts}
use Rattle.sf_plane.proofs.CombineLaws.{start_on_edge}
use Rattle.sf_plane.proofs.FormLaws.{nudged, nudged-point}
use Rattle.sf_plane.proofs.MissLaws.{lines_miss, points_miss}
use Rattle.sf_plane.proofs.ShareLaws.{edge_is_convex}
use Rattle.sf_plane.specs.Dimension.{HasDimension, HasSegment, HasTriangle, IsBetween, PointSet, mean}
use Rattle.sf_plane.specs.declared.dim.Dim.TheVariants.{Nothing, Zero}
use Rattle.sf_geometry.specs.declared.geometry.Geometry.TheVariants.{LineString, MultiLineString, MultiPoint, MultiPolygon, Point as OnePoint, Polygon}
use Rattle.sf_geometry.specs.Lists.{edges_between, edges_from, edges_of, ends_of, tight}
use Rattle.sf_geometry.specs.Parts.{joined}
use Rattle.sf_geometry.specs.PointSets.{in_boundary, in_interior, in_polygon, is_among, on_line, on_polygon}
use Rattle.sf_geometry.specs.Size.{is_empty}
use Rattle.sf_valid_rules.specs.Conditions.{Applies}
use Rattle.sf_valid_rules.specs.Rules.{Rule, polygon_rules, ring_rules}
use Rattle.sf_valid_rules.specs.Validity.{NoneApplies}
use Rattle.sf_valid_rules.proofs.MemberLaws.{any-one, count-same, each-from_in, each-in, each-to_flat, one-any}
use Rattle.sf_valid_rules.proofs.TightLaws.{edges-differ}
use Rattle.sf_interiors.specs.Dimensions.{BoundaryHasDimension, InteriorHasDimension}
use Rattle.sf_interiors.specs.Vertices.{beside, is_beside}
use Rattle.sf_interiors.proofs.AlongLaws.{along-on, rise_to, run_to}
use Rattle.sf_interiors.proofs.ApartLaws.{IsSound, common-edges, polygons-sound}
use Rattle.sf_interiors.proofs.ChainLaws.{balanced-chain}
use Rattle.sf_interiors.proofs.OpenLaws.{triangle-inside}
use Rattle.sf_interiors.proofs.ParityLaws.{on-edges, polygon-inside}
use Rattle.sf_interiors.proofs.RingLaws.{balanced-rings}
use Rattle.sf_interiors.proofs.SharingLaws.{rings-apart}
use Rattle.sf_interiors.proofs.SquareLaws.{square, square-beside, square-closed, square-inside}

pub is_grid : (p : Coordinates) → IsPoint (grid_point p)
is_grid p = record { positive = lit< tt }

-- ---- what finitely many points or edges have is thin
no-segment : (cs : List Coordinates) (set : PointSet) → ((p : Point) → IsPoint p → set p ≡ true → is_among cs p ≡ true) → ¬ (HasSegment set)
no-segment cs set among h =
    let missed = points_miss (map grid_point cs) h.a h.b (All-from_recursion IsPoint (map grid_point cs) (grid_points cs)) h.is_a h.is_b h.differ in
    both_ways (is_among cs missed.point) (none cs missed.point (recursion_from_All (λ c. same_point c missed.point ≡ false) (map grid_point cs) missed.missed))
    (among missed.point missed.is_point (h.has missed.point missed.is_point missed.between))
  where
    grid_points : (ps : List Coordinates) → AllByRecursion IsPoint (map grid_point ps)
    grid_points [] = tt
    grid_points (p ∷ ps) = (is_grid p, grid_points ps)

    none : (ps : List Coordinates) (q : Point) → AllByRecursion (λ c. same_point c q ≡ false) (map grid_point ps) → is_among ps q ≡ false
    none [] q k = refl
    none (p ∷ ps) q k = ap (λ t. t || is_among ps q) k.0 ∙ none ps q k.1

no-triangle : (es : List Line) (set : PointSet) → AllByRecursion (λ (e : Line). e.a ≢ e.b) es → ((p : Point) → IsPoint p → set p ≡ true → list_any (λ e. on_edge e p) es ≡ true) → ¬ (HasTriangle set)
no-triangle es set long on h =
    let missed = lines_miss es h.a h.b h.c (All-from_recursion (λ (e : Line). e.a ≢ e.b) es long) h.is_a h.is_b h.is_c h.wide in
    let one = any-one (λ e. on_edge e missed.point) es (on missed.point missed.is_point (h.has missed.point missed.is_point missed.inside)) in
    each-in (λ (e : Line). cross e.a e.b missed.point ≢ pos 0) es (recursion_from_All (λ (e : Line). cross e.a e.b missed.point ≢ pos 0) es missed.missed) one.one one.among (lies one.one missed.point one.passes).line

-- ---- an edge has a segment
grid-differ : (a b : Coordinates) → a ≢ b → same_point (grid_point a) (grid_point b) ≡ false
grid-differ a b n =
    false_from_ne_true (same_point (grid_point a) (grid_point b))
    (λ t.
    let parts = and_parts (int_eq (a.x *ℤ pos 1) (b.x *ℤ pos 1)) (int_eq (a.y *ℤ pos 1) (b.y *ℤ pos 1)) t in
    n (same_coordinates a b (one a.x b.x (eq_from_test _ _ parts.0)) (one a.y b.y (eq_from_test _ _ parts.1))))
  where
    one : (s t : ℤ) → s *ℤ pos 1 ≡ t *ℤ pos 1 → s ≡ t
    one s t f = omega (arith, ints)

end_on_edge : (a b : Coordinates) → IsOnEdge (edge_between a b) (grid_point b)
end_on_edge a b = on_edge-swap a b (grid_point b) ∙ start_on_edge b a

whole-segment : (e : Line) (set : PointSet) → e.a ≢ e.b → ((p : Point) → IsPoint p → IsOnEdge e p → set p ≡ true) → HasSegment set
whole-segment e set n on =
    record {
      a = grid_point e.a;
      b = grid_point e.b;
      is_a = is_grid e.a;
      is_b = is_grid e.b;
      differ = grid-differ e.a e.b n;
      has = λ p i b. on p i (edge_is_convex e (grid_point e.a) (grid_point e.b) p (is_grid e.a) (is_grid e.b) i (start_on_edge e.a e.b) (end_on_edge e.a e.b) b);
    }

-- near an end it has no grid point
no-step : (w d : ℤ) (f s m : ℕ) → 0 < f → unsigned_abs d ≤ m → w *ℤ (pos f +ℤ pos m *ℤ pos s) ≡ d *ℤ pos s → w ≡ pos 0
no-step w d f s m some less e =
    by_lt_z (pos 0) w
    (λ l. absurd (over (w *ℤ (pos f +ℤ pos m *ℤ pos s)) (d *ℤ pos s) (pos m *ℤ pos s) e (at_least w l) (at_most d (below d less))))
    (λ m1. by_lt_z w (pos 0)
    (λ l. absurd (under (w *ℤ (pos f +ℤ pos m *ℤ pos s)) (d *ℤ pos s) (pos m *ℤ pos s) e (at_most_minus w l) (at_least_minus d (above d less))))
    (λ m2. both w m1 m2))
  where
    both : (z : ℤ) → z ≤ℤ pos 0 → pos 0 ≤ℤ z → z ≡ pos 0
    both z h k = omega (arith, ints)

    below : (z : ℤ) → unsigned_abs z ≤ m → z ≤ℤ pos m
    below z h = omega (arith, ints)

    above : (z : ℤ) → unsigned_abs z ≤ m → (pos 0 -ℤ z) ≤ℤ pos m
    above z h = omega (arith, ints)

    total : ℤ
    total = pos f +ℤ pos m *ℤ pos s

    at_most : (z : ℤ) → z ≤ℤ pos m → (z *ℤ pos s) ≤ℤ (pos m *ℤ pos s)
    at_most z h = mul_le z (pos m) s h

    at_least_minus : (z : ℤ) → (pos 0 -ℤ z) ≤ℤ pos m → (pos 0 -ℤ z *ℤ pos s) ≤ℤ (pos m *ℤ pos s)
    at_least_minus z h = moved (pos 0 -ℤ z *ℤ pos s) ((pos 0 -ℤ z) *ℤ pos s) (pos m *ℤ pos s) (ring (z ∷ pos s ∷ []) (dif (num (pos 0)) (mul (var 0) (var 1))) (mul (dif (num (pos 0)) (var 0)) (var 1)) refl) (mul_le (pos 0 -ℤ z) (pos m) s h)
      where
        moved : (a b c : ℤ) → a ≡ b → b ≤ℤ c → a ≤ℤ c
        moved a b c g k = omega (arith, ints)

    at_least : (z : ℤ) → pos 0 <ℤ z → (pos f +ℤ pos m *ℤ pos s) ≤ℤ (z *ℤ (pos f +ℤ pos m *ℤ pos s))
    at_least z h = let k = mul_le (pos 1) z (f + m * s) (one z h) in let j = once (pos f +ℤ pos m *ℤ pos s) in moved (pos f +ℤ pos m *ℤ pos s) (pos 1 *ℤ (pos f +ℤ pos m *ℤ pos s)) (z *ℤ (pos f +ℤ pos m *ℤ pos s)) j k
      where
        one : (y : ℤ) → pos 0 <ℤ y → pos 1 ≤ℤ y
        one y g = omega (arith, ints)

        once : (y : ℤ) → y ≡ pos 1 *ℤ y
        once y = omega (arith, ints)

        moved : (a b c : ℤ) → a ≡ b → b ≤ℤ c → a ≤ℤ c
        moved a b c g k = omega (arith, ints)

    at_most_minus : (z : ℤ) → z <ℤ pos 0 → (z *ℤ (pos f +ℤ pos m *ℤ pos s)) ≤ℤ (pos 0 -ℤ (pos f +ℤ pos m *ℤ pos s))
    at_most_minus z h = moved (z *ℤ (pos f +ℤ pos m *ℤ pos s)) ((pos 0 -ℤ pos 1) *ℤ (pos f +ℤ pos m *ℤ pos s)) (pos f +ℤ pos m *ℤ pos s) (mul_le z (pos 0 -ℤ pos 1) (f + m * s) (one z h)) (ring ((pos f +ℤ pos m *ℤ pos s) ∷ []) (mul (dif (num (pos 0)) (num (pos 1))) (var 0)) (dif (num (pos 0)) (var 0)) refl)
      where
        one : (y : ℤ) → y <ℤ pos 0 → y ≤ℤ (pos 0 -ℤ pos 1)
        one y g = omega (arith, ints)

        moved : (a b c : ℤ) → a ≤ℤ b → b ≡ pos 0 -ℤ c → a ≤ℤ (pos 0 -ℤ c)
        moved a b c g k = omega (arith, ints)

    over : (a b c : ℤ) → a ≡ b → (pos f +ℤ c) ≤ℤ a → b ≤ℤ c → ⊥
    over a b c g h k = omega (arith, ints)

    under : (a b c : ℤ) → a ≡ b → a ≤ℤ (pos 0 -ℤ (pos f +ℤ c)) → (pos 0 -ℤ b) ≤ℤ c → ⊥
    under a b c g h k = omega (arith, ints)

-- the point of the edge a little behind its start
abbrev pub little : Line → ℕ → Point
little e m = nudged (m + 1) (run_to e.b (grid_point e.a)) (rise_to e.b (grid_point e.a)) (grid_point e.a)

abbrev pub size_of : Line → ℕ
size_of e = suc (unsigned_abs (run_to e.b (grid_point e.a)) + unsigned_abs (rise_to e.b (grid_point e.a)))

between-grid : (e : Line) (v : Coordinates) (p : Point) → e.a ≢ e.b → IsPoint p → IsBetween (grid_point e.a) (little e (size_of e)) p → same_point (grid_point v) p ≡ false
between-grid e v p n i b =
    false_from_ne_true (same_point (grid_point v) p)
    (λ t.
    let q = mean b.first b.second (grid_point e.a) (little e (size_of e)) in
    let same = same_point_is_equivalence.transitive (grid_point v) p q i t b.same in
    let parts = and_parts (int_eq (v.x *ℤ pos q.d) (q.x *ℤ pos 1)) (int_eq (v.y *ℤ pos q.d) (q.y *ℤ pos 1)) same in
    let x = no-step (v.x -ℤ e.a.x) (run_to e.b (grid_point e.a)) b.first b.second (size_of e + 1) b.first_positive (omega arith)
    (step v.x e.a.x (run_to e.b (grid_point e.a)) (eq_from_test _ _ parts.0)) in
    let y = no-step (v.y -ℤ e.a.y) (rise_to e.b (grid_point e.a)) b.first b.second (size_of e + 1) b.first_positive (omega arith)
    (step v.y e.a.y (rise_to e.b (grid_point e.a)) (eq_from_test _ _ parts.1)) in
    n (same_coordinates e.a e.b
    (ended e.a.x e.b.x (product_zero (run_to e.b (grid_point e.a)) b.second b.second_positive (vanished (v.x -ℤ e.a.x) _ (run_to e.b (grid_point e.a) *ℤ pos b.second) x (step v.x e.a.x (run_to e.b (grid_point e.a)) (eq_from_test _ _ parts.0)))))
    (ended e.a.y e.b.y (product_zero (rise_to e.b (grid_point e.a)) b.second b.second_positive (vanished (v.y -ℤ e.a.y) _ (rise_to e.b (grid_point e.a) *ℤ pos b.second) y (step v.y e.a.y (rise_to e.b (grid_point e.a)) (eq_from_test _ _ parts.1)))))))
  where
    step : (z a r : ℤ) → z *ℤ pos (1 * b.first + (1 * (size_of e + 1)) * b.second) ≡ (a *ℤ pos b.first +ℤ (a *ℤ pos (size_of e + 1) +ℤ r) *ℤ pos b.second) *ℤ pos 1 →
        (z -ℤ a) *ℤ (pos b.first +ℤ pos (size_of e + 1) *ℤ pos b.second) ≡ r *ℤ pos b.second
    step z a r h =
        ring (z ∷ a ∷ pos b.first ∷ pos (size_of e + 1) ∷ pos b.second ∷ [])
        (mul (dif (var 0) (var 1)) (sum (var 2) (mul (var 3) (var 4))))
        (dif (mul (var 0) (sum (mul (num (pos 1)) (var 2)) (mul (mul (num (pos 1)) (var 3)) (var 4)))) (mul (var 1) (sum (var 2) (mul (var 3) (var 4)))))
        refl
        ∙ ap (λ y. y -ℤ a *ℤ (pos b.first +ℤ pos (size_of e + 1) *ℤ pos b.second)) h
        ∙ ring (a ∷ r ∷ pos b.first ∷ pos (size_of e + 1) ∷ pos b.second ∷ [])
        (dif (mul (sum (mul (var 0) (var 2)) (mul (sum (mul (var 0) (var 3)) (var 1)) (var 4))) (num (pos 1))) (mul (var 0) (sum (var 2) (mul (var 3) (var 4)))))
        (mul (var 1) (var 4))
        refl

    vanished : (w c d : ℤ) → w ≡ pos 0 → w *ℤ c ≡ d → d ≡ pos 0
    vanished w c d h k = sym k ∙ ap (λ z. z *ℤ c) h ∙ zero c
      where
        zero : (y : ℤ) → pos 0 *ℤ y ≡ pos 0
        zero y = omega (arith, ints)

    product_zero : (r : ℤ) (s : ℕ) → 0 < s → r *ℤ pos s ≡ pos 0 → r ≡ pos 0
    product_zero r s h k = eq_from_mul r (pos 0) s h (k ∙ sym (zero (pos s)))
      where
        zero : (y : ℤ) → pos 0 *ℤ y ≡ pos 0
        zero y = omega (arith, ints)

    ended : (a c : ℤ) → c *ℤ pos 1 -ℤ a ≡ pos 0 → a ≡ c
    ended a c h = omega (arith, ints)

pub short-segment : (e : Line) (set : PointSet) → e.a ≢ e.b → ((p : Point) → IsPoint p → IsOnEdge e p → IsBetween (grid_point e.a) (little e (size_of e)) p → set p ≡ true) → HasSegment set
short-segment e set n on =
    let b = little e (size_of e) in
    let is_b = nudged-point (size_of e + 1) (run_to e.b (grid_point e.a)) (rise_to e.b (grid_point e.a)) (grid_point e.a) (omega arith) (is_grid e.a) in
    let on_b = along-on e e.b (grid_point e.a) (size_of e) (is_grid e.a) (omega arith) (start_on_edge e.a e.b) (end_on_edge e.a e.b) in
    record {
      a = grid_point e.a;
      b = b;
      is_a = is_grid e.a;
      is_b = is_b;
      differ =
          false_from_ne_true (same_point (grid_point e.a) b)
          (λ t.
          let parts = and_parts (int_eq (e.a.x *ℤ pos b.d) (b.x *ℤ pos 1)) (int_eq (e.a.y *ℤ pos b.d) (b.y *ℤ pos 1)) t in
          n (same_coordinates e.a e.b (level e.a.x e.b.x (size_of e + 1) (eq_from_test _ _ parts.0)) (level e.a.y e.b.y (size_of e + 1) (eq_from_test _ _ parts.1))));
      has = λ p i between. on p i (edge_is_convex e (grid_point e.a) b p (is_grid e.a) is_b i (start_on_edge e.a e.b) on_b between) between;
    }
  where
    level : (a c : ℤ) (k : ℕ) → a *ℤ pos (1 * k) ≡ (a *ℤ pos k +ℤ (c *ℤ pos 1 -ℤ a)) *ℤ pos 1 → a ≡ c
    level a c k h = same (a *ℤ pos k) (h0 ∙ h)
      where
        h0 : a *ℤ pos k ≡ a *ℤ pos (1 * k)
        h0 = ring (a ∷ pos k ∷ []) (mul (var 0) (var 1)) (mul (var 0) (mul (num (pos 1)) (var 1))) refl

        same : (m : ℤ) → m ≡ (m +ℤ (c *ℤ pos 1 -ℤ a)) *ℤ pos 1 → a ≡ c
        same m g = omega (arith, ints)

-- ---- the first edge of a list of two points or more
record HasEdge (ps : List Coordinates) : Type 0 where
  edge : Line
  rest : List Line
  is : edges_of ps ≡ edge ∷ rest
  long : edge.a ≢ edge.b

has-edge : (n : ℕ) (ps : List Coordinates) → nat_lt (length (tight ps)) (2 + n) ≡ false → HasEdge ps
has-edge n ps h = by_list (tight ps) refl h
  where
    by_list : (ts : List Coordinates) → tight ps ≡ ts → nat_lt (length ts) (2 + n) ≡ false → HasEdge ps
    by_list [] e k = absurd (grind (arith, nat_tests, k))
    by_list (p ∷ []) e k = absurd (grind (arith, nat_tests, k))
    by_list (p ∷ q ∷ ts) e k =
        let is : edges_of ps ≡ edge_between p q ∷ edges_from q ts = ap edges_between e in
        record { edge = edge_between p q; rest = edges_from q ts; is = is; long = (subst (AllByRecursion (λ (f : Line). f.a ≢ f.b)) is (edges-differ ps)).0 }

edge-on_line : (ps : List Coordinates) (h : HasEdge ps) (p : Point) → IsOnEdge h.edge p → on_line ps p ≡ true
edge-on_line ps h p on = ap (list_any (λ e. on_edge e p)) h.is ∙ ap (λ t. t || list_any (λ e. on_edge e p) h.rest) on

-- ---- areas
pub long-edges : (lists : List (List Coordinates)) → AllByRecursion (λ (e : Line). e.a ≢ e.b) (flat_map edges_of lists)
long-edges lists = each-to_flat (λ (e : Line). e.a ≢ e.b) edges_of lists (each-from_in (λ ps. AllByRecursion (λ (e : Line). e.a ≢ e.b) (edges_of ps)) lists (λ ps i. edges-differ ps))

-- what a set has, one with more points has
pub wider-triangle : (s t : PointSet) → ((p : Point) → s p ≡ true → t p ≡ true) → HasTriangle s → HasTriangle t
wider-triangle s t f h = record { a = h.a; b = h.b; c = h.c; is_a = h.is_a; is_b = h.is_b; is_c = h.is_c; wide = h.wide; has = λ p i j. f p (h.has p i j) }

wider-segment : (s t : PointSet) → ((p : Point) → s p ≡ true → t p ≡ true) → HasSegment s → HasSegment t
wider-segment s t f h = record { a = h.a; b = h.b; is_a = h.is_a; is_b = h.is_b; differ = h.differ; has = λ p i j. f p (h.has p i j) }

-- beside a grid point on one of its rings a polygon has a triangle
pub polygon-triangle : (rings : List (List Coordinates)) (v : Coordinates) → IsSound rings → on_polygon rings (grid_point v) ≡ true → HasTriangle (beside v (in_polygon rings))
polygon-triangle rings v s on =
    let c =
    common-edges (flat_map edges_of rings) (square v) (grid_point v) (is_grid v) (long-edges rings) (rings-apart rings s.simple s.shares_none)
    (λ p i. balanced-rings rings p i s.closed)
    (λ p i. balanced-chain (square v) p (square-closed v) i)
    (on-edges rings (grid_point v) ∙ on)
    (square-inside v) in
    triangle-inside (flat_map edges_of rings) (square v) (beside v (in_polygon rings)) c.point c.is_point (balanced-rings rings c.point c.is_point s.closed)
    (balanced-chain (square v) c.point (square-closed v) c.is_point) c.first c.second
    (λ p i inside near.
    and_from (in_polygon rings p) (is_beside v p) (polygon-inside rings p (s.holes_within p i) (s.holes_apart p i) inside) (square-beside v p i near))

shell-triangle : (shell : List Coordinates) (holes : List (List Coordinates)) → IsSound (shell ∷ holes) → HasTriangle (in_polygon (shell ∷ holes))
shell-triangle shell holes s =
    let first = has-edge 2 shell s.simple.0.long in
    let v = first.edge.a in
    let on : on_line shell (grid_point v) ≡ true = edge-on_line shell first (grid_point v) (start_on_edge v first.edge.b) in
    wider-triangle (beside v (in_polygon (shell ∷ holes))) (in_polygon (shell ∷ holes)) (λ p h. (and_parts (in_polygon (shell ∷ holes) p) (is_beside v p) h).0)
    (polygon-triangle (shell ∷ holes) v s (ap (λ t. t || on_polygon holes (grid_point v)) on))

polygon-boundary : (shell : List Coordinates) (holes : List (List Coordinates)) → IsSound (shell ∷ holes) → HasSegment (on_polygon (shell ∷ holes))
polygon-boundary shell holes s =
    let first = has-edge 2 shell s.simple.0.long in
    whole-segment first.edge (on_polygon (shell ∷ holes)) first.long (λ p i on. ap (λ t. t || on_polygon holes p) (edge-on_line shell first p on))

polygons-on : (polygons : List (List (List Coordinates))) (p : Point) → list_any (λ rings. on_polygon rings p) polygons ≡ true → list_any (λ e. on_edge e p) (flat_map edges_of (joined polygons)) ≡ true
polygons-on polygons p h = on-edges (joined polygons) p ∙ flat polygons h
  where
    append : (xs ys : List (List Coordinates)) → on_polygon xs p ≡ true → on_polygon (xs ++ ys) p ≡ true
    append [] ys k = absurd (both_ways false refl k)
    append (x ∷ xs) ys k = elim (or_cases (on_line x p) (on_polygon xs p) k) [ inl here ↦ or_left (on_line x p) (on_polygon (xs ++ ys) p) here | inr later ↦ or_right (on_line x p) (on_polygon (xs ++ ys) p) (append xs ys later) ]

    behind : (xs ys : List (List Coordinates)) → on_polygon ys p ≡ true → on_polygon (xs ++ ys) p ≡ true
    behind [] ys k = k
    behind (x ∷ xs) ys k = or_right (on_line x p) (on_polygon (xs ++ ys) p) (behind xs ys k)

    flat : (ps : List (List (List Coordinates))) → list_any (λ rings. on_polygon rings p) ps ≡ true → on_polygon (joined ps) p ≡ true
    flat [] k = k
    flat (r ∷ ps) k = elim (or_cases (on_polygon r p) (list_any (λ rings. on_polygon rings p) ps) k) [ inl here ↦ append r (joined ps) here | inr later ↦ behind r (joined ps) (flat ps later) ]

pub sound-polygons : (polygons : List (List (List Coordinates))) → NoneApplies (flat_map ring_rules (joined polygons) ++ polygon_rules polygons) → AllByRecursion IsSound polygons
sound-polygons polygons h =
    let parts = each-parts (λ (r : Rule). ¬ (Applies r.condition)) (flat_map ring_rules (joined polygons)) (polygon_rules polygons) h in polygons-sound polygons parts.0 parts.1

-- ---- lines
none-among : (ps : List Coordinates) (p : Point) → ((v : Coordinates) → same_point (grid_point v) p ≡ false) → is_among ps p ≡ false
none-among [] p h = refl
none-among (v ∷ ps) p h = ap (λ t. t || is_among ps p) (h v) ∙ none-among ps p h

count-zero : {A : Type 0} (t : A → Bool) (xs : List A) → AllByRecursion (λ x. t x ≡ false) xs → count_by t xs ≡ 0
count-zero t xs h = count-same t (λ x. false) xs h ∙ none xs
  where
    none : {A : Type 0} (ys : List A) → count_by (λ (y : A). false) ys ≡ 0
    none [] = refl
    none (y ∷ ys) = none ys

any-append : {A : Type 0} (t : A → Bool) (xs ys : List A) → (list_any t xs ≡ true → list_any t (xs ++ ys) ≡ true) × (list_any t ys ≡ true → list_any t (xs ++ ys) ≡ true)
any-append t [] ys = (λ h. absurd (both_ways false refl h), λ h. h)
any-append t (x ∷ xs) ys =
    let rest = any-append t xs ys in (
      λ h. elim (or_cases (t x) (list_any t xs) h) [ inl here ↦ or_left (t x) (list_any t (xs ++ ys)) here | inr later ↦ or_right (t x) (list_any t (xs ++ ys)) (rest.0 later) ],
      λ h. or_right (t x) (list_any t (xs ++ ys)) (rest.1 h),
    )

among-flat : {A : Type 0} (f : A → List Coordinates) (xs : List A) (p : Point) → list_any (λ x. is_among (f x) p) xs ≡ true → is_among (flat_map f xs) p ≡ true
among-flat f [] p h = h
among-flat f (x ∷ xs) p h =
    elim (or_cases (is_among (f x) p) (list_any (λ y. is_among (f y) p) xs) h) [
      | inl here ↦ (any-append (λ v. same_point (grid_point v) p) (f x) (flat_map f xs)).0 here
      | inr later ↦ (any-append (λ v. same_point (grid_point v) p) (f x) (flat_map f xs)).1 (among-flat f xs p later)
    ]

none-passes : {A : Type 0} (t : A → Bool) (xs : List A) → list_any t xs ≡ false → AllByRecursion (λ x. t x ≡ false) xs
none-passes t [] h = tt
none-passes t (x ∷ xs) h = let parts = or_parts (t x) (list_any t xs) h in (parts.0, none-passes t xs parts.1)

odd-has : {A : Type 0} (t : A → Bool) (xs : List A) → is_odd (count_by t xs) ≡ true → list_any t xs ≡ true
odd-has t xs h = by_test (list_any t xs) refl
  where
    by_test : (b : Bool) → list_any t xs ≡ b → list_any t xs ≡ true
    by_test true e = e
    by_test false e = absurd (both_ways (is_odd (count_by t xs)) (ap is_odd (count-zero t xs (none-passes t xs e))) h)

lines-boundary : (set : PointSet) (ends : List Coordinates) → ((p : Point) → set p ≡ true → is_among ends p ≡ true) →
    ((v : Coordinates) (q : Point) → IsPoint q → same_point (grid_point v) q ≡ true → set (grid_point v) ≡ set q) →
    HasDimension set (if list_any (λ v. set (grid_point v)) ends then Zero else Nothing)
lines-boundary set ends among same = by_test (list_any (λ v. set (grid_point v)) ends) refl
  where
    by_test : (b : Bool) → list_any (λ v. set (grid_point v)) ends ≡ b → HasDimension set (if b then Zero else Nothing)
    by_test true h =
        let one = any-one (λ v. set (grid_point v)) ends h in
        (record { point = grid_point one.one; is_point = is_grid one.one; has = one.passes }, no-segment ends set (λ p i t. among p t))
    by_test false h =
        λ k.
        let one = any-one (λ v. same_point (grid_point v) k.point) ends (among k.point k.has) in
        both_ways (list_any (λ v. set (grid_point v)) ends) h (one-any (λ v. set (grid_point v)) ends one.one one.among (same one.one k.point k.is_point one.passes ∙ k.has))

among-same : (ps : List Coordinates) (v : Coordinates) (q : Point) → IsPoint q → same_point (grid_point v) q ≡ true → is_among ps (grid_point v) ≡ is_among ps q
among-same [] v q i h = refl
among-same (p ∷ ps) v q i h =
    ap (λ t. t || is_among ps (grid_point v)) (one (grid_point p)) ∙ ap (λ t. same_point (grid_point p) q || t) (among-same ps v q i h)
  where
    one : (r : Point) → same_point r (grid_point v) ≡ same_point r q
    one r =
        same_tests (same_point r (grid_point v)) (same_point r q)
        (λ t. same_point_is_equivalence.transitive r (grid_point v) q (is_grid v) t h)
        (λ t. same_point_is_equivalence.transitive r q (grid_point v) i t (same_point_is_equivalence.symmetric (grid_point v) q h))

-- ---- the laws
pub interior_has_dimension : InteriorHasDimension
interior_has_dimension (OnePoint p) v = (
  record { point = grid_point p; is_point = is_grid p; has = same_point_is_equivalence.reflexive (grid_point p) },
  no-segment (p ∷ []) (in_interior (OnePoint p)) (λ q i h. or_left (same_point (grid_point p) q) false h),
)
interior_has_dimension (MultiPoint []) v = absurd (both_ways true v.sized.filled refl)
interior_has_dimension (MultiPoint (p ∷ ps)) v = (
  record { point = grid_point p; is_point = is_grid p; has = or_left (same_point (grid_point p) (grid_point p)) (is_among ps (grid_point p)) (same_point_is_equivalence.reflexive (grid_point p)) },
  no-segment (p ∷ ps) (in_interior (MultiPoint (p ∷ ps))) (λ q i h. h),
)
interior_has_dimension (LineString ps) v =
    let first = has-edge 0 ps (false_from_ne_true (nat_lt (length (tight ps)) 2) v.faultless.0) in (
      short-segment first.edge (in_interior (LineString ps)) first.long
          (λ p i on between. and_from (on_line ps p) (not (is_among (ends_of ps) p)) (edge-on_line ps first p on) (ap not (none-among (ends_of ps) p (λ w. between-grid first.edge w p first.long i between)))),
      no-triangle (edges_of ps) (in_interior (LineString ps)) (edges-differ ps) (λ p i t. (and_parts (on_line ps p) (not (is_among (ends_of ps) p)) t).0),
    )
interior_has_dimension (MultiLineString []) v = absurd (both_ways true v.sized.filled refl)
interior_has_dimension (MultiLineString (l ∷ ls)) v =
    let first = has-edge 0 l (false_from_ne_true (nat_lt (length (tight l)) 2) v.faultless.0) in
    let ends = λ (p : Point). is_odd (count_by (λ ps. is_among (ends_of ps) p) (l ∷ ls)) in (
      short-segment first.edge (in_interior (MultiLineString (l ∷ ls))) first.long
          (λ p i on between.
          and_from (list_any (λ ps. on_line ps p) (l ∷ ls)) (not (ends p)) (or_left (on_line l p) (list_any (λ ps. on_line ps p) ls) (edge-on_line l first p on))
          (ap (λ n. not (is_odd n)) (count-zero (λ ps. is_among (ends_of ps) p) (l ∷ ls) (each-from_in (λ ps. is_among (ends_of ps) p ≡ false) (l ∷ ls) (λ ps k. none-among (ends_of ps) p (λ w. between-grid first.edge w p first.long i between)))))),
      no-triangle (flat_map edges_of (l ∷ ls)) (in_interior (MultiLineString (l ∷ ls))) (long-edges (l ∷ ls))
          (λ p i t. on-edges (l ∷ ls) p ∙ (and_parts (list_any (λ ps. on_line ps p) (l ∷ ls)) (not (ends p)) t).0),
    )
interior_has_dimension (Polygon []) v = absurd (both_ways true v.sized.filled refl)
interior_has_dimension (Polygon (shell ∷ holes)) v = shell-triangle shell holes (sound-polygons ((shell ∷ holes) ∷ []) v.faultless).0
interior_has_dimension (MultiPolygon []) v = absurd (both_ways true v.sized.filled refl)
interior_has_dimension (MultiPolygon ([] ∷ polygons)) v = absurd (both_ways true (or_parts (is_empty ([] ∷ polygons)) true v.sized.filled).1 refl)
interior_has_dimension (MultiPolygon ((shell ∷ holes) ∷ polygons)) v =
    wider-triangle (in_polygon (shell ∷ holes)) (in_interior (MultiPolygon ((shell ∷ holes) ∷ polygons)))
    (λ p h. or_left (in_polygon (shell ∷ holes) p) (list_any (λ rings. in_polygon rings p) polygons) h)
    (shell-triangle shell holes (sound-polygons ((shell ∷ holes) ∷ polygons) v.faultless).0)

pub boundary_has_dimension : BoundaryHasDimension
boundary_has_dimension (OnePoint p) v = λ h. both_ways false refl h.has
boundary_has_dimension (MultiPoint ps) v = λ h. both_ways false refl h.has
boundary_has_dimension (LineString ps) v =
    lines-boundary (in_boundary (LineString ps)) (ends_of ps ++ []) (λ p h. (any-append (λ w. same_point (grid_point w) p) (ends_of ps) []).0 h) (λ w q i h. among-same (ends_of ps) w q i h)
boundary_has_dimension (MultiLineString lines) v =
    lines-boundary (in_boundary (MultiLineString lines)) (flat_map ends_of lines) (λ p h. among-flat ends_of lines p (odd-has (λ ps. is_among (ends_of ps) p) lines h))
    (λ w q i h. ap is_odd (count-same (λ ps. is_among (ends_of ps) (grid_point w)) (λ ps. is_among (ends_of ps) q) lines (each-from_in (λ ps. is_among (ends_of ps) (grid_point w) ≡ is_among (ends_of ps) q) lines (λ ps k. among-same (ends_of ps) w q i h))))
boundary_has_dimension (Polygon []) v = absurd (both_ways true v.sized.filled refl)
boundary_has_dimension (Polygon (shell ∷ holes)) v = (
  polygon-boundary shell holes (sound-polygons ((shell ∷ holes) ∷ []) v.faultless).0,
  no-triangle (flat_map edges_of (shell ∷ holes)) (in_boundary (Polygon (shell ∷ holes))) (long-edges (shell ∷ holes)) (λ p i t. on-edges (shell ∷ holes) p ∙ t),
)
boundary_has_dimension (MultiPolygon []) v = absurd (both_ways true v.sized.filled refl)
boundary_has_dimension (MultiPolygon ([] ∷ polygons)) v = absurd (both_ways true (or_parts (is_empty ([] ∷ polygons)) true v.sized.filled).1 refl)
boundary_has_dimension (MultiPolygon ((shell ∷ holes) ∷ polygons)) v = (
  wider-segment (on_polygon (shell ∷ holes)) (in_boundary (MultiPolygon ((shell ∷ holes) ∷ polygons)))
      (λ p h. or_left (on_polygon (shell ∷ holes) p) (list_any (λ rings. on_polygon rings p) polygons) h)
      (polygon-boundary shell holes (sound-polygons ((shell ∷ holes) ∷ polygons) v.faultless).0),
  no-triangle (flat_map edges_of (joined ((shell ∷ holes) ∷ polygons))) (in_boundary (MultiPolygon ((shell ∷ holes) ∷ polygons))) (long-edges (joined ((shell ∷ holes) ∷ polygons)))
      (λ p i t. polygons-on ((shell ∷ holes) ∷ polygons) p t),
)
