-- The sheared plane: its points, and its edges, are those of the plane.
use Rattle.std.proofs.Common.{◌≡◌, ◌≢◌, ℕ, refl, ap, sym, ◌∙◌, ℤ, pos, ◌+ℤ◌, ◌-ℤ◌, ◌*ℤ◌, ◌≤ℤ◌, ◌<ℤ◌, ◌<◌, ◌*◌, arith, [], ◌∷◌, Bool, true, false, inl, inr, ◌⊎◌, subst, IsTrue}
use Rattle.std.specs.Prelude.{if◌then◌else◌}
use Rattle.std.proofs.lemmas.Bool.{and_from, and_parts}
use Rattle.std.proofs.lemmas.Int.{ints, by_lt_z}
use Rattle.sf_grid.specs.Bounds.{IsCoordinate}
use Rattle.sf_grid.specs.Plane.{Coordinates, IsOnGrid, IsPoint, IsSamePoint, Point, grid_point}
use Rattle.sf_grid.specs.Edge.{Edge, IsOnEdge, cross, edge_between, on_edge}
use Rattle.sf_grid.specs.Sharing.{comes_before, earlier_of, later_of}
use Rattle.sf_grid.proofs.CallerLemmas.{dif, eq_from_mul, eq_from_test, mean-on_edge, mul, on_edge-mean, on_edge-swap, order_from_before, product_pos, ring, sum, test_from_eq, var, weight_a, weight_b}
use Rattle.sf_grid.proofs.LineLaws.{before_from_not, order_from_not}
use Rattle.sf_grid.proofs.MeanLaws.{IsMean}
use Rattle.sf_grid.proofs.Ring.{num}
use Rattle.sf_first_meeting.specs.Sheared.{place, risen, shear_factor, sheared, sheared_point}
use Rattle.sf_first_meeting.specs.Orders.{IsEnd}

-- ---- the order of places is the order by x and then y
pub place-before : (a b : Coordinates) → IsOnGrid a → IsOnGrid b → comes_before a b ≡ true → place a <ℤ place b
place-before a b g h t = by (order_from_before a b t)
  where
    by : (a.x <ℤ b.x) ⊎ ((a.x ≡ b.x) × (a.y <ℤ b.y)) → place a <ℤ place b
    by (inl l) = omega (arith, ints, g.0.0, g.0.1, g.1.0, g.1.1, h.0.0, h.0.1, h.1.0, h.1.1)
    by (inr l) = let e : a.x ≡ b.x = l.0 in let k : a.y <ℤ b.y = l.1 in omega (arith, ints)

pub place-same : (a b : Coordinates) → IsOnGrid a → IsOnGrid b → place a ≡ place b → a ≡ b
place-same a b g h e =
    let y : a.y ≡ b.y = omega (arith, ints, g.0.0, g.0.1, g.1.0, g.1.1, h.0.0, h.0.1, h.1.0, h.1.1) in
    let x : a.x ≡ b.x = omega (arith, ints) in
    same_coordinates' a b x y
  where
    same_coordinates' : (a b : Coordinates) → a.x ≡ b.x → a.y ≡ b.y → a ≡ b
    same_coordinates' a b e f =
        let with_x : ℤ → Coordinates = λ x. record { x = x; y = a.y } in
        let with_y : ℤ → Coordinates = λ y. record { x = b.x; y = y } in
        ap with_x e ∙ ap with_y f

-- ---- points of an edge
mixed : (s m n k d px py ax ay bx by' : ℤ) → s *ℤ px ≡ (m *ℤ ax +ℤ n *ℤ bx) *ℤ d → s *ℤ py ≡ (m *ℤ ay +ℤ n *ℤ by') *ℤ d →
    s *ℤ (px *ℤ k +ℤ py) ≡ (m *ℤ (ax *ℤ k +ℤ ay) +ℤ n *ℤ (bx *ℤ k +ℤ by')) *ℤ d
mixed s m n k d px py ax ay bx by' e f =
    ring (s ∷ px ∷ py ∷ k ∷ []) (mul (var 0) (sum (mul (var 1) (var 3)) (var 2))) (sum (mul (mul (var 0) (var 1)) (var 3)) (mul (var 0) (var 2))) refl
    ∙ ap (λ z. z *ℤ k +ℤ s *ℤ py) e
    ∙ ap (λ z. (m *ℤ ax +ℤ n *ℤ bx) *ℤ d *ℤ k +ℤ z) f
    ∙ ring (m ∷ n ∷ ax ∷ ay ∷ bx ∷ by' ∷ k ∷ d ∷ [])
    (sum (mul (mul (sum (mul (var 0) (var 2)) (mul (var 1) (var 4))) (var 7)) (var 6)) (mul (sum (mul (var 0) (var 3)) (mul (var 1) (var 5))) (var 7)))
    (mul (sum (mul (var 0) (sum (mul (var 2) (var 6)) (var 3))) (mul (var 1) (sum (mul (var 4) (var 6)) (var 5)))) (var 7))
    refl

unmixed : (s m n k d px py ax ay bx by' : ℤ) → s *ℤ px ≡ (m *ℤ (ax *ℤ k +ℤ ay) +ℤ n *ℤ (bx *ℤ k +ℤ by')) *ℤ d → s *ℤ py ≡ (m *ℤ ay +ℤ n *ℤ by') *ℤ d →
    s *ℤ (px -ℤ py) ≡ (m *ℤ ax +ℤ n *ℤ bx) *ℤ (d *ℤ k)
unmixed s m n k d px py ax ay bx by' e f =
    ring (s ∷ px ∷ py ∷ []) (mul (var 0) (dif (var 1) (var 2))) (dif (mul (var 0) (var 1)) (mul (var 0) (var 2))) refl
    ∙ ap (λ z. z -ℤ s *ℤ py) e
    ∙ ap (λ z. (m *ℤ (ax *ℤ k +ℤ ay) +ℤ n *ℤ (bx *ℤ k +ℤ by')) *ℤ d -ℤ z) f
    ∙ ring (m ∷ n ∷ ax ∷ ay ∷ bx ∷ by' ∷ k ∷ d ∷ [])
    (dif (mul (sum (mul (var 0) (sum (mul (var 2) (var 6)) (var 3))) (mul (var 1) (sum (mul (var 4) (var 6)) (var 5)))) (var 7)) (mul (sum (mul (var 0) (var 3)) (mul (var 1) (var 5))) (var 7)))
    (mul (sum (mul (var 0) (var 2)) (mul (var 1) (var 4))) (mul (var 7) (var 6)))
    refl

scaled_by : (s t k py d : ℤ) → s *ℤ py ≡ t *ℤ d → s *ℤ (py *ℤ k) ≡ t *ℤ (d *ℤ k)
scaled_by s t k py d e =
    ring (s ∷ py ∷ k ∷ []) (mul (var 0) (mul (var 1) (var 2))) (mul (mul (var 0) (var 1)) (var 2)) refl
    ∙ ap (λ z. z *ℤ k) e
    ∙ ring (t ∷ d ∷ k ∷ []) (mul (mul (var 0) (var 1)) (var 2)) (mul (var 0) (mul (var 1) (var 2))) refl

either : (a b : Coordinates) (p : Point) → on_edge (risen a b) p ≡ on_edge (edge_between (sheared a) (sheared b)) p
either a b p = by (comes_before b a)
  where
    by : (t : Bool) → on_edge (edge_between (sheared (if t then b else a)) (sheared (if t then a else b))) p ≡ on_edge (edge_between (sheared a) (sheared b)) p
    by true = on_edge-swap (sheared b) (sheared a) p
    by false = refl

pub on-sheared : (a b : Coordinates) (p : Point) → IsPoint p → a ≢ b → IsOnEdge (edge_between a b) p → IsOnEdge (risen a b) (sheared_point p)
on-sheared a b p is n h =
    let e = edge_between a b in
    let m = mean-on_edge e p is n h in
    either a b (sheared_point p)
    ∙ on_edge-mean (edge_between (sheared a) (sheared b)) (sheared_point p) (weight_a e p) (weight_b e p)
    (record {
      first = m.first;
      second = m.second;
      total = m.total;
      x = mixed (weight_a e p +ℤ weight_b e p) (weight_a e p) (weight_b e p) (pos shear_factor) (pos p.d) p.x p.y a.x a.y b.x b.y m.x m.y;
      y = m.y;
    })

-- the point that a point of the sheared plane stands for
abbrev pub straightened : Point → Point
straightened p = record { x = p.x -ℤ p.y; y = p.y *ℤ pos shear_factor; d = p.d * shear_factor }

pub straightened-is : (p : Point) → IsPoint p → IsPoint (straightened p)
straightened-is p is = record { positive = product_pos p.d shear_factor is.positive (lit tt) }
  where
    lit : Unit {0} → 0 < shear_factor
    lit t = omega arith

sheared-differ : (a b : Coordinates) → a ≢ b → sheared a ≢ sheared b
sheared-differ a b n e =
    let y : a.y ≡ b.y = ap (λ (c : Coordinates). c.y) e in
    let x : place a ≡ place b = ap (λ (c : Coordinates). c.x) e in
    n (same a b (omega (arith, ints)) y)
  where
    same : (a b : Coordinates) → a.x ≡ b.x → a.y ≡ b.y → a ≡ b
    same a b e f =
        let with_x : ℤ → Coordinates = λ x. record { x = x; y = a.y } in
        let with_y : ℤ → Coordinates = λ y. record { x = b.x; y = y } in
        ap with_x e ∙ ap with_y f

pub on-straightened : (a b : Coordinates) (p : Point) → IsPoint p → a ≢ b → IsOnEdge (risen a b) p → IsOnEdge (edge_between a b) (straightened p)
on-straightened a b p is n h =
    let e = edge_between (sheared a) (sheared b) in
    let m = mean-on_edge e p is (sheared-differ a b n) (sym (either a b p) ∙ h) in
    on_edge-mean (edge_between a b) (straightened p) (weight_a e p) (weight_b e p)
    (record {
      first = m.first;
      second = m.second;
      total = m.total;
      x = unmixed (weight_a e p +ℤ weight_b e p) (weight_a e p) (weight_b e p) (pos shear_factor) (pos p.d) p.x p.y a.x a.y b.x b.y m.x m.y;
      y = scaled_by (weight_a e p +ℤ weight_b e p) (weight_a e p *ℤ a.y +ℤ weight_b e p *ℤ b.y) (pos shear_factor) p.y (pos p.d) m.y;
    })

-- ---- a grid point
-- p is a point of the grid, sheared
abbrev pub IsAt : Coordinates → Point → Type 0
IsAt c p = (p.x ≡ place c *ℤ pos p.d) × (p.y ≡ c.y *ℤ pos p.d)

-- the side of an edge on which a point lies stays
pub cross-sheared : (a b : Coordinates) (c : Coordinates) → cross (sheared a) (sheared b) (grid_point (sheared c)) ≡ cross a b (grid_point c) *ℤ pos shear_factor
cross-sheared a b c = by (pos shear_factor)
  where
    by : (k : ℤ) →
        ((b.x *ℤ k +ℤ b.y) -ℤ (a.x *ℤ k +ℤ a.y)) *ℤ (c.y -ℤ a.y *ℤ pos 1) -ℤ (b.y -ℤ a.y) *ℤ ((c.x *ℤ k +ℤ c.y) -ℤ (a.x *ℤ k +ℤ a.y) *ℤ pos 1)
        ≡ ((b.x -ℤ a.x) *ℤ (c.y -ℤ a.y *ℤ pos 1) -ℤ (b.y -ℤ a.y) *ℤ (c.x -ℤ a.x *ℤ pos 1)) *ℤ k
    by k =
        ring (a.x ∷ a.y ∷ b.x ∷ b.y ∷ c.x ∷ c.y ∷ k ∷ [])
        (dif
        (mul (dif (sum (mul (var 2) (var 6)) (var 3)) (sum (mul (var 0) (var 6)) (var 1))) (dif (var 5) (mul (var 1) (num (pos 1)))))
        (mul (dif (var 3) (var 1)) (dif (sum (mul (var 4) (var 6)) (var 5)) (mul (sum (mul (var 0) (var 6)) (var 1)) (num (pos 1))))))
        (mul (dif (mul (dif (var 2) (var 0)) (dif (var 5) (mul (var 1) (num (pos 1))))) (mul (dif (var 3) (var 1)) (dif (var 4) (mul (var 0) (num (pos 1)))))) (var 6))
        refl

-- a sheared grid point is that point
pub at-from_same : (c : Coordinates) (p : Point) → IsPoint p → IsSamePoint (grid_point c) (straightened p) → IsAt c p
at-from_same c p is h =
    let parts = and_parts _ _ h in
    let x : c.x *ℤ (pos p.d *ℤ pos shear_factor) ≡ (p.x -ℤ p.y) *ℤ pos 1 = eq_from_test _ _ parts.0 in
    let y : c.y *ℤ (pos p.d *ℤ pos shear_factor) ≡ (p.y *ℤ pos shear_factor) *ℤ pos 1 = eq_from_test _ _ parts.1 in
    let height : p.y ≡ c.y *ℤ pos p.d =
    eq_from_mul p.y (c.y *ℤ pos p.d) shear_factor (positive tt) (sym (plain (p.y *ℤ pos shear_factor)) ∙ sym y ∙ grouped c.y (pos p.d) (pos shear_factor)) in
    (moved _ _ _ _ (sym (grouped c.x (pos p.d) (pos shear_factor)) ∙ x) height ∙ gathered c.x c.y (pos p.d) (pos shear_factor), height)
  where
    positive : Unit {0} → 0 < shear_factor
    positive t = omega arith

    plain : (a : ℤ) → a *ℤ pos 1 ≡ a
    plain a = omega (arith, ints)

    grouped : (a b k : ℤ) → a *ℤ (b *ℤ k) ≡ a *ℤ b *ℤ k
    grouped a b k = ring (a ∷ b ∷ k ∷ []) (mul (var 0) (mul (var 1) (var 2))) (mul (mul (var 0) (var 1)) (var 2)) refl

    moved : (a x y z : ℤ) → a ≡ (x -ℤ y) *ℤ pos 1 → y ≡ z → x ≡ a +ℤ z
    moved a x y z e f = omega (arith, ints)

    gathered : (a b d k : ℤ) → a *ℤ d *ℤ k +ℤ b *ℤ d ≡ (a *ℤ k +ℤ b) *ℤ d
    gathered a b d k = ring (a ∷ b ∷ d ∷ k ∷ []) (sum (mul (mul (var 0) (var 2)) (var 3)) (mul (var 1) (var 2))) (mul (sum (mul (var 0) (var 3)) (var 1)) (var 2)) refl

pub same-from_at : (c : Coordinates) (q : Point) → IsPoint q → IsAt c (sheared_point q) → IsSamePoint (grid_point c) q
same-from_at c q is h =
    let e : q.x *ℤ pos shear_factor +ℤ q.y ≡ (c.x *ℤ pos shear_factor +ℤ c.y) *ℤ pos q.d = h.0 in
    let f : q.y ≡ c.y *ℤ pos q.d = h.1 in
    let x : q.x ≡ c.x *ℤ pos q.d = eq_from_mul q.x (c.x *ℤ pos q.d) shear_factor (positive tt) (less _ _ _ _ (e ∙ spread c.x c.y (pos q.d) (pos shear_factor)) f) in
    and_from _ _ (test_from_eq _ _ (one _ _ x)) (test_from_eq _ _ (one _ _ f))
  where
    positive : Unit {0} → 0 < shear_factor
    positive t = omega arith

    spread : (a b d k : ℤ) → (a *ℤ k +ℤ b) *ℤ d ≡ a *ℤ d *ℤ k +ℤ b *ℤ d
    spread a b d k = ring (a ∷ b ∷ d ∷ k ∷ []) (mul (sum (mul (var 0) (var 3)) (var 1)) (var 2)) (sum (mul (mul (var 0) (var 2)) (var 3)) (mul (var 1) (var 2))) refl

    less : (a y b z : ℤ) → a +ℤ y ≡ b +ℤ z → y ≡ z → a ≡ b
    less a y b z i j = omega (arith, ints)

    one : (a b : ℤ) → a ≡ b → b ≡ a *ℤ pos 1
    one a b i = omega (arith, ints)
