-- The plane is drawn so large that both points are grid points. There the way between them is an edge: if it met no edge of the chain,
-- both points had one parity.
use Rattle.std.proofs.Common.{◌≡◌, ◌≢◌, ℕ, refl, subst, ap, sym, ◌∙◌, ℤ, pos, ◌+ℤ◌, ◌-ℤ◌, ◌*ℤ◌, ◌≤ℤ◌, ◌<ℤ◌, ◌<◌, ◌+◌, ◌*◌, arith, List, [], ◌∷◌, map, ◌⊎◌, inl, inr, Bool, cond}
use Rattle.std.specs.Prelude.{IsTrue}
use Rattle.std.specs.List.{AllByRecursion, count_by, list_any}
use Rattle.std.specs.Ordering.{int_eq}
use Rattle.std.proofs.lemmas.List.Sums.{sum_by-cons}
use Rattle.std.proofs.lemmas.Bool.{and_from, both_ways, cases_Bool, or_left, or_right}
use Rattle.std.proofs.lemmas.Int.{ints}
use Rattle.sf_grid.specs.Fraction.{fraction_le}
use Rattle.sf_grid.specs.Plane.{Coordinates, IsPoint, IsSamePoint, Point, grid_point}
use Rattle.sf_grid.specs.Edge.{Edge, IsOnEdge, edge_above, edge_between, on_edge}
use Rattle.sf_grid.specs.EvenOdd.{is_odd}
use Rattle.sf_grid.specs.Sharing.{IsSharing, comes_before, earlier_of, later_of}
use Rattle.sf_grid.specs.declared.meet.Meet.TheVariants.{Apart}
use Rattle.sf_grid.proofs.Products.{mul_nonneg-nonneg, mul_pos-pos, nonneg_from_mul, square_nonneg, sum_nonneg}
use Rattle.sf_grid.proofs.Ring.{ring, var, num, sum, dif, mul}
use Rattle.sf_grid.proofs.NumberTests.{eq_from_test, test_from_eq, test_from_le}
use Rattle.sf_grid.proofs.OrderLaws.{product_pos}
use Rattle.sf_grid.proofs.MeanLaws.{mean-on_edge, on_edge-mean, same_coordinates, weight_a, weight_b}
use Rattle.sf_grid.proofs.ApartLaws.{apart-one_sided, apart-swapped, one_sided}
use Rattle.sf_grid.proofs.CrossingLaws.{at-crossing, crossing_point, end_side, equal_sides, start_side}
use Rattle.sf_grid.proofs.PieceLaws.{Collinear, along-collinear, apart-collinear, at-collinear}
use Rattle.sf_grid.proofs.PointLaws.{eq_from_mul, on_edge-same}
use Rattle.sf_grid.proofs.SameLaws.{same_points_are_alike}
use Rattle.sf_plane.specs.Boxes.{IsChain}
use Rattle.sf_interiors.specs.Paths.{AreApart, parity}
use Rattle.sf_interiors.proofs.PathLaws.{edge_has_one_parity}
use Rattle.sf_distance.specs.Squares.{square_between}
use Rattle.sf_distance.specs.Scaled.{scaled_coordinates, scaled_edge, scaled_point}
use Rattle.sf_distance.proofs.PointLaws.{mean_of_end, mean_of_start, same_self}
use Rattle.sf_distance.proofs.CloseLaws.{squares_le}
use Rattle.sf_distance.proofs.ScaleLaws.{scaled_is_alike}
use Rattle.sf_nearness.specs.Leaving.{LeavingPasses}

-- ---- two edges share a point, or none
pub record Common (e f : Edge) : Type 0 where
  pub point : Point
  pub is_point : IsPoint point
  pub on_first : IsOnEdge e point
  pub on_second : IsOnEdge f point

grid_is_point : (a : Coordinates) → IsPoint (grid_point a)
grid_is_point a = record { positive = omega arith }

pub start_on : (e : Edge) → IsOnEdge e (grid_point e.a)
start_on e = on_edge-mean e (grid_point e.a) (pos 1) (pos 0) (mean_of_start e)

pub end_on : (e : Edge) → IsOnEdge e (grid_point e.b)
end_on e = on_edge-mean e (grid_point e.b) (pos 0) (pos 1) (mean_of_end e)

on_one_line : (e f : Edge) (low high : Coordinates) → Collinear e.a e.b f.a f.b low high → (IsSharing e f Apart) ⊎ Common e f
on_one_line e f low high c =
    elim (cases_Bool (comes_before low high)) [
      | inl t ↦
          let h = along-collinear e.a e.b f.a f.b low high c t in
          let both = (h.1 (grid_point low) (grid_is_point low)).1 (start_on (edge_between low high)) in
          inr (record { point = grid_point low; is_point = grid_is_point low; on_first = both.0; on_second = both.1 })
      | inr t ↦
          elim (cases_Bool (comes_before high low)) [
            | inl u ↦ inl (apart-collinear e.a e.b f.a f.b low high c u)
            | inr u ↦
                let h = at-collinear e.a e.b f.a f.b low high c t u in
                let both = (h.1 (grid_point low) (grid_is_point low)).1 (same_self (grid_point low)) in
                inr (record { point = grid_point low; is_point = grid_is_point low; on_first = both.0; on_second = both.1 })
          ]
    ]

pub share_or_not : (e f : Edge) → e.a ≢ e.b → f.a ≢ f.b → (IsSharing e f Apart) ⊎ Common e f
share_or_not e f d g =
    elim (cases_Bool (one_sided (start_side f e) (end_side f e))) [
      | inl t ↦ inl (apart-one_sided e f d t)
      | inr t ↦
          elim (cases_Bool (one_sided (start_side e f) (end_side e f))) [
            | inl u ↦ inl (apart-swapped e f (apart-one_sided f e g u))
            | inr u ↦
                elim (cases_Bool (int_eq (start_side f e) (end_side f e))) [
                  | inl z ↦
                      let same : start_side f e ≡ end_side f e = eq_from_test (start_side f e) (end_side f e) z in
                      let zero : start_side f e ≡ pos 0 = equal_sides (start_side f e) (end_side f e) t same in
                      on_one_line e f (later_of (earlier_of e.a e.b) (earlier_of f.a f.b)) (earlier_of (later_of e.a e.b) (later_of f.a f.b))
                      (record { first = d; second = g; start = zero; end = sym same ∙ zero; low_is = refl; high_is = refl })
                  | inr z ↦
                      let at = at-crossing e f (λ s. both_ways _ z (test_from_eq (start_side f e) (end_side f e) s)) t u in
                      let both = (at.1 (crossing_point e f) at.0).1 (same_self (crossing_point e f)) in
                      inr (record { point = crossing_point e f; is_point = at.0; on_first = both.0; on_second = both.1 })
                ]
          ]
    ]

-- ---- the chain drawn larger
scaled_differ : (k : ℕ) (a b : Coordinates) → 0 < k → a ≢ b → scaled_coordinates k a ≢ scaled_coordinates k b
scaled_differ k a b h n e =
    n (same_coordinates a b (back a.x b.x (ap (λ (c : Coordinates). c.x) e)) (back a.y b.y (ap (λ (c : Coordinates). c.y) e)))
  where
    back : (x y : ℤ) → x *ℤ pos k ≡ y *ℤ pos k → x ≡ y
    back x y i = eq_from_mul x y k h i

chain_scaled : (k : ℕ) (a b : Coordinates) (es : List Edge) → IsChain a es b → IsChain (scaled_coordinates k a) (map (scaled_edge k) es) (scaled_coordinates k b)
chain_scaled k a b [] h = ap (scaled_coordinates k) h
chain_scaled k a b (e ∷ es) h = (ap (scaled_coordinates k) h.0, chain_scaled k e.b b es h.1)

counts : (f g : Edge → Bool) (h : Edge → Edge) (es : List Edge) → ((e : Edge) → g (h e) ≡ f e) → count_by g (map h es) ≡ count_by f es
counts f g h [] k = refl
counts f g h (e ∷ es) k =
    sum_by-cons (λ x. cond (g x) 1 0) (h e) (map h es)
    ∙ ap (λ b. cond b 1 0 + count_by g (map h es)) (k e)
    ∙ ap (λ n. cond (f e) 1 0 + n) (counts f g h es k)
    ∙ sym (sum_by-cons (λ x. cond (f x) 1 0) e es)

-- a point p as a grid point of the larger plane
parity_scaled : (k : ℕ) (es : List Edge) (p : Point) (a : Coordinates) → 0 < k → IsPoint p → IsSamePoint (grid_point a) (scaled_point k p) →
    parity (map (scaled_edge k) es) (grid_point a) ≡ parity es p
parity_scaled k es p a h o s =
    ap is_odd (counts (λ e. edge_above e p) (λ e. edge_above e (grid_point a)) (scaled_edge k) es
    (λ e. (same_points_are_alike (scaled_edge k e) (grid_point a) (scaled_point k p) (grid_is_point a) (record { positive = o.positive }) s).above ∙ (scaled_is_alike k e p h).above))

-- a point of the larger plane, as one of the plane
abbrev shrunk : ℕ → Point → Point
shrunk k r = record { x = r.x; y = r.y; d = r.d * k }

on_shrunk : (k : ℕ) (e : Edge) (r : Point) → 0 < k → IsPoint r → on_edge (scaled_edge k e) r ≡ on_edge e (shrunk k r)
on_shrunk k e r h o =
    on_edge-same (scaled_edge k e) r (scaled_point k (shrunk k r)) o (record { positive = product_pos r.d k o.positive h })
    (ring (r.x ∷ (pos r.d) ∷ (pos k) ∷ []) (mul (var 0) (mul (var 1) (var 2))) (mul (mul (var 0) (var 2)) (var 1)) refl)
    (ring (r.y ∷ (pos r.d) ∷ (pos k) ∷ []) (mul (var 0) (mul (var 1) (var 2))) (mul (mul (var 0) (var 2)) (var 1)) refl)
    ∙ (scaled_is_alike k e (shrunk k r) h).on

-- ---- the first edge that the way meets
record Met (k : ℕ) (es : List Edge) (f : Edge) : Type 0 where
  pub point : Point
  pub is_point : IsPoint point
  pub on_way : IsOnEdge f point
  pub on_some : IsTrue (list_any (λ e. on_edge e (shrunk k point)) es)

look : (k : ℕ) (es : List Edge) (f : Edge) → 0 < k → f.a ≢ f.b → AllByRecursion (λ e. e.a ≢ e.b) es →
    (AllByRecursion (λ e. AreApart e f) (map (scaled_edge k) es)) ⊎ Met k es f
look k [] f h g d = inl tt
look k (e ∷ es) f h g d =
    elim (share_or_not (scaled_edge k e) f (scaled_differ k e.a e.b h d.0) g) [
      | inr c ↦
          inr (record {
            point = c.point;
            is_point = c.is_point;
            on_way = c.on_second;
            on_some = or_left (on_edge e (shrunk k c.point)) (list_any (λ e. on_edge e (shrunk k c.point)) es) (sym (on_shrunk k e c.point h c.is_point) ∙ c.on_first);
          })
      | inl apart ↦
          elim (look k es f h g d.1) [
            | inl rest ↦ inl ((λ p o i j. apart p o (i, j)), rest)
            | inr m ↦
                inr (record {
                  point = m.point;
                  is_point = m.is_point;
                  on_way = m.on_way;
                  on_some = or_right (on_edge e (shrunk k m.point)) (list_any (λ e. on_edge e (shrunk k m.point)) es) m.on_some;
                })
          ]
    ]

-- ---- it is no farther from the end
mean_way : (m n px qx rx rd pd qd : ℤ) → (m +ℤ n) *ℤ rx ≡ (m *ℤ (px *ℤ qd) +ℤ n *ℤ (qx *ℤ pd)) *ℤ rd →
    (m +ℤ n) *ℤ (rx *ℤ qd -ℤ qx *ℤ (rd *ℤ (pd *ℤ qd))) ≡ (rd *ℤ qd) *ℤ (m *ℤ (px *ℤ qd -ℤ qx *ℤ pd))
mean_way m n px qx rx rd pd qd e =
    ring (m ∷ n ∷ qx ∷ rx ∷ rd ∷ pd ∷ qd ∷ []) (mul (sum (var 0) (var 1)) (dif (mul (var 3) (var 6)) (mul (var 2) (mul (var 4) (mul (var 5) (var 6)))))) (dif (mul (mul (sum (var 0) (var 1)) (var 3)) (var 6)) (mul (mul (sum (var 0) (var 1)) (var 2)) (mul (var 4) (mul (var 5) (var 6))))) refl
    ∙ ap (λ z. z *ℤ qd -ℤ (m +ℤ n) *ℤ qx *ℤ (rd *ℤ (pd *ℤ qd))) e
    ∙ ring (m ∷ n ∷ px ∷ qx ∷ rd ∷ pd ∷ qd ∷ []) (dif (mul (mul (sum (mul (var 0) (mul (var 2) (var 6))) (mul (var 1) (mul (var 3) (var 5)))) (var 4)) (var 6)) (mul (mul (sum (var 0) (var 1)) (var 3)) (mul (var 4) (mul (var 5) (var 6))))) (mul (mul (var 4) (var 6)) (mul (var 0) (dif (mul (var 2) (var 6)) (mul (var 3) (var 5))))) refl

no_farther : (m n x y dx dy t z : ℤ) → pos 0 ≤ℤ m → pos 0 ≤ℤ n → pos 0 <ℤ (m +ℤ n) → pos 0 ≤ℤ z →
    (m +ℤ n) *ℤ x ≡ t *ℤ (m *ℤ dx) → (m +ℤ n) *ℤ y ≡ t *ℤ (m *ℤ dy) → ((x *ℤ x +ℤ y *ℤ y) *ℤ z) ≤ℤ ((dx *ℤ dx +ℤ dy *ℤ dy) *ℤ ((t *ℤ t) *ℤ z))
no_farther m n x y dx dy t z hm hn p hz e f =
    let less : (m *ℤ m) ≤ℤ ((m +ℤ n) *ℤ (m +ℤ n)) = squares_le m (m +ℤ n) hm (omega (arith, ints)) in
    let more : pos 0 ≤ℤ (((dx *ℤ dx +ℤ dy *ℤ dy) *ℤ ((t *ℤ t) *ℤ z)) *ℤ ((m +ℤ n) *ℤ (m +ℤ n) -ℤ m *ℤ m)) =
    mul_nonneg-nonneg ((dx *ℤ dx +ℤ dy *ℤ dy) *ℤ ((t *ℤ t) *ℤ z)) ((m +ℤ n) *ℤ (m +ℤ n) -ℤ m *ℤ m)
    (mul_nonneg-nonneg (dx *ℤ dx +ℤ dy *ℤ dy) ((t *ℤ t) *ℤ z) (sum_nonneg (dx *ℤ dx) (dy *ℤ dy) (square_nonneg dx) (square_nonneg dy)) (mul_nonneg-nonneg (t *ℤ t) z (square_nonneg t) hz))
    (omega (arith, ints)) in
    let is : ((m +ℤ n) *ℤ (m +ℤ n)) *ℤ ((dx *ℤ dx +ℤ dy *ℤ dy) *ℤ ((t *ℤ t) *ℤ z) -ℤ (x *ℤ x +ℤ y *ℤ y) *ℤ z) ≡ ((dx *ℤ dx +ℤ dy *ℤ dy) *ℤ ((t *ℤ t) *ℤ z)) *ℤ ((m +ℤ n) *ℤ (m +ℤ n) -ℤ m *ℤ m) =
    ring ((m +ℤ n) ∷ x ∷ y ∷ dx ∷ dy ∷ t ∷ z ∷ []) (mul (mul (var 0) (var 0)) (dif (mul (sum (mul (var 3) (var 3)) (mul (var 4) (var 4))) (mul (mul (var 5) (var 5)) (var 6))) (mul (sum (mul (var 1) (var 1)) (mul (var 2) (var 2))) (var 6)))) (dif (mul (mul (var 0) (var 0)) (mul (sum (mul (var 3) (var 3)) (mul (var 4) (var 4))) (mul (mul (var 5) (var 5)) (var 6)))) (mul (sum (mul (mul (var 0) (var 1)) (mul (var 0) (var 1))) (mul (mul (var 0) (var 2)) (mul (var 0) (var 2)))) (var 6))) refl
    ∙ ap (λ v. ((m +ℤ n) *ℤ (m +ℤ n)) *ℤ ((dx *ℤ dx +ℤ dy *ℤ dy) *ℤ ((t *ℤ t) *ℤ z)) -ℤ (v *ℤ v +ℤ (m +ℤ n) *ℤ y *ℤ ((m +ℤ n) *ℤ y)) *ℤ z) e
    ∙ ap (λ v. ((m +ℤ n) *ℤ (m +ℤ n)) *ℤ ((dx *ℤ dx +ℤ dy *ℤ dy) *ℤ ((t *ℤ t) *ℤ z)) -ℤ (t *ℤ (m *ℤ dx) *ℤ (t *ℤ (m *ℤ dx)) +ℤ v *ℤ v) *ℤ z) f
    ∙ ring ((m +ℤ n) ∷ m ∷ dx ∷ dy ∷ t ∷ z ∷ []) (dif (mul (mul (var 0) (var 0)) (mul (sum (mul (var 2) (var 2)) (mul (var 3) (var 3))) (mul (mul (var 4) (var 4)) (var 5)))) (mul (sum (mul (mul (var 4) (mul (var 1) (var 2))) (mul (var 4) (mul (var 1) (var 2)))) (mul (mul (var 4) (mul (var 1) (var 3))) (mul (var 4) (mul (var 1) (var 3))))) (var 5))) (mul (mul (sum (mul (var 2) (var 2)) (mul (var 3) (var 3))) (mul (mul (var 4) (var 4)) (var 5))) (dif (mul (var 0) (var 0)) (mul (var 1) (var 1)))) refl in
    let gap : pos 0 ≤ℤ ((dx *ℤ dx +ℤ dy *ℤ dy) *ℤ ((t *ℤ t) *ℤ z) -ℤ (x *ℤ x +ℤ y *ℤ y) *ℤ z) =
    nonneg_from_mul ((m +ℤ n) *ℤ (m +ℤ n)) _ (mul_pos-pos (m +ℤ n) (m +ℤ n) p p) (subst (λ v. pos 0 ≤ℤ v) (sym is) more) in
    omega (arith, ints)

-- ---- the way, in the larger plane
abbrev start_of : Point → Point → Coordinates
start_of p q = record { x = p.x *ℤ pos q.d; y = p.y *ℤ pos q.d }

abbrev end_of : Point → Point → Coordinates
end_of p q = record { x = q.x *ℤ pos p.d; y = q.y *ℤ pos p.d }

start_is : (p q : Point) → IsSamePoint (grid_point (start_of p q)) (scaled_point (p.d * q.d) p)
start_is p q =
    and_from _ _
    (test_from_eq _ _ (ring (p.x ∷ (pos p.d) ∷ (pos q.d) ∷ []) (mul (mul (var 0) (var 2)) (var 1)) (mul (mul (var 0) (mul (var 1) (var 2))) (num (pos 1))) refl))
    (test_from_eq _ _ (ring (p.y ∷ (pos p.d) ∷ (pos q.d) ∷ []) (mul (mul (var 0) (var 2)) (var 1)) (mul (mul (var 0) (mul (var 1) (var 2))) (num (pos 1))) refl))

end_is : (p q : Point) → IsSamePoint (grid_point (end_of p q)) (scaled_point (p.d * q.d) q)
end_is p q =
    and_from _ _
    (test_from_eq _ _ (ring (q.x ∷ (pos p.d) ∷ (pos q.d) ∷ []) (mul (mul (var 0) (var 1)) (var 2)) (mul (mul (var 0) (mul (var 1) (var 2))) (num (pos 1))) refl))
    (test_from_eq _ _ (ring (q.y ∷ (pos p.d) ∷ (pos q.d) ∷ []) (mul (mul (var 0) (var 1)) (var 2)) (mul (mul (var 0) (mul (var 1) (var 2))) (num (pos 1))) refl))

nearer_point : (p q r : Point) → IsPoint r → start_of p q ≢ end_of p q → IsOnEdge (edge_between (start_of p q) (end_of p q)) r →
    IsTrue (fraction_le (square_between (shrunk (p.d * q.d) r) q) (square_between p q))
nearer_point p q r o d h =
    let f : Edge = edge_between (start_of p q) (end_of p q) in
    let mean = mean-on_edge f r o d h in
    let wide : ((p.x *ℤ pos q.d -ℤ q.x *ℤ pos p.d) *ℤ (p.x *ℤ pos q.d -ℤ q.x *ℤ pos p.d) +ℤ (p.y *ℤ pos q.d -ℤ q.y *ℤ pos p.d) *ℤ (p.y *ℤ pos q.d -ℤ q.y *ℤ pos p.d)) *ℤ (((pos r.d *ℤ pos q.d) *ℤ (pos r.d *ℤ pos q.d)) *ℤ ((pos p.d *ℤ pos q.d) *ℤ (pos p.d *ℤ pos q.d)))
    ≡ ((p.x *ℤ pos q.d -ℤ q.x *ℤ pos p.d) *ℤ (p.x *ℤ pos q.d -ℤ q.x *ℤ pos p.d) +ℤ (p.y *ℤ pos q.d -ℤ q.y *ℤ pos p.d) *ℤ (p.y *ℤ pos q.d -ℤ q.y *ℤ pos p.d)) *ℤ (((pos r.d *ℤ (pos p.d *ℤ pos q.d)) *ℤ pos q.d) *ℤ ((pos r.d *ℤ (pos p.d *ℤ pos q.d)) *ℤ pos q.d)) =
    ap (λ z. ((p.x *ℤ pos q.d -ℤ q.x *ℤ pos p.d) *ℤ (p.x *ℤ pos q.d -ℤ q.x *ℤ pos p.d) +ℤ (p.y *ℤ pos q.d -ℤ q.y *ℤ pos p.d) *ℤ (p.y *ℤ pos q.d -ℤ q.y *ℤ pos p.d)) *ℤ z)
    (ring ((pos r.d) ∷ (pos p.d) ∷ (pos q.d) ∷ []) (mul (mul (mul (var 0) (var 2)) (mul (var 0) (var 2))) (mul (mul (var 1) (var 2)) (mul (var 1) (var 2)))) (mul (mul (mul (var 0) (mul (var 1) (var 2))) (var 2)) (mul (mul (var 0) (mul (var 1) (var 2))) (var 2))) refl) in
    test_from_le _ _
    (subst (λ z. (((r.x *ℤ pos q.d -ℤ q.x *ℤ (pos r.d *ℤ (pos p.d *ℤ pos q.d))) *ℤ (r.x *ℤ pos q.d -ℤ q.x *ℤ (pos r.d *ℤ (pos p.d *ℤ pos q.d))) +ℤ (r.y *ℤ pos q.d -ℤ q.y *ℤ (pos r.d *ℤ (pos p.d *ℤ pos q.d))) *ℤ (r.y *ℤ pos q.d -ℤ q.y *ℤ (pos r.d *ℤ (pos p.d *ℤ pos q.d)))) *ℤ ((pos p.d *ℤ pos q.d) *ℤ (pos p.d *ℤ pos q.d))) ≤ℤ z) wide
    (no_farther (weight_a f r) (weight_b f r) (r.x *ℤ pos q.d -ℤ q.x *ℤ (pos r.d *ℤ (pos p.d *ℤ pos q.d))) (r.y *ℤ pos q.d -ℤ q.y *ℤ (pos r.d *ℤ (pos p.d *ℤ pos q.d)))
    (p.x *ℤ pos q.d -ℤ q.x *ℤ pos p.d) (p.y *ℤ pos q.d -ℤ q.y *ℤ pos p.d) (pos r.d *ℤ pos q.d) ((pos p.d *ℤ pos q.d) *ℤ (pos p.d *ℤ pos q.d))
    mean.first mean.second mean.total (square_nonneg (pos p.d *ℤ pos q.d))
    (mean_way (weight_a f r) (weight_b f r) p.x q.x r.x (pos r.d) (pos p.d) (pos q.d) mean.x)
    (mean_way (weight_a f r) (weight_b f r) p.y q.y r.y (pos r.d) (pos p.d) (pos q.d) mean.y)))

decide_same : (a b : Coordinates) → (a ≡ b) ⊎ (a ≢ b)
decide_same a b =
    elim (cases_Bool (int_eq a.x b.x)) [
      | inr t ↦ inr (λ e. both_ways _ t (test_from_eq a.x b.x (ap (λ (c : Coordinates). c.x) e)))
      | inl t ↦
          elim (cases_Bool (int_eq a.y b.y)) [
            | inr u ↦ inr (λ e. both_ways _ u (test_from_eq a.y b.y (ap (λ (c : Coordinates). c.y) e)))
            | inl u ↦ inl (same_coordinates a b (eq_from_test a.x b.x t) (eq_from_test a.y b.y u))
          ]
    ]

pub leaving_passes : LeavingPasses
leaving_passes es p q chain distinct o i differ =
    elim (decide_same (start_of p q) (end_of p q)) [
      | inl same ↦ absurd (differ (sym first ∙ ap (λ (a : Coordinates). parity (map (scaled_edge (p.d * q.d)) es) (grid_point a)) same ∙ second))
      | inr d ↦
          elim (look (p.d * q.d) es (edge_between (start_of p q) (end_of p q)) positive d distinct) [
            | inl apart ↦
                absurd (differ (sym first
                ∙ edge_has_one_parity (map (scaled_edge (p.d * q.d)) es) (edge_between (start_of p q) (end_of p q)) (grid_point (start_of p q)) (grid_point (end_of p q)) (scaled_coordinates (p.d * q.d) chain.0, chain_scaled (p.d * q.d) chain.0 chain.0 es chain.1) apart
                (grid_is_point (start_of p q)) (grid_is_point (end_of p q)) (start_on (edge_between (start_of p q) (end_of p q))) (end_on (edge_between (start_of p q) (end_of p q)))
                ∙ second))
            | inr m ↦
                record {
                  point = shrunk (p.d * q.d) m.point;
                  is_point = record { positive = product_pos m.point.d (p.d * q.d) m.is_point.positive positive };
                  on_chain = m.on_some;
                  nearer = nearer_point p q m.point m.is_point d m.on_way;
                }
          ]
    ]
  where
    positive : 0 < p.d * q.d
    positive = product_pos p.d q.d o.positive i.positive

    first : parity (map (scaled_edge (p.d * q.d)) es) (grid_point (start_of p q)) ≡ parity es p
    first = parity_scaled (p.d * q.d) es p (start_of p q) positive o (start_is p q)

    second : parity (map (scaled_edge (p.d * q.d)) es) (grid_point (end_of p q)) ≡ parity es q
    second = parity_scaled (p.d * q.d) es q (end_of p q) positive i (end_is p q)
