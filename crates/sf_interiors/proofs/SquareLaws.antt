-- A small square round a grid point: the point is inside it, and all that is inside is less than a step away.
use Rattle.std.proofs.Common.{◌≡◌, ◌≢◌, arith, refl, ap, sym, ◌∙◌, ℤ, pos, negsuc, ◌+ℤ◌, ◌-ℤ◌, ◌*ℤ◌, ◌<ℤ◌, ◌≤ℤ◌, Bool, true, false, ◌&&◌, ◌||◌, List, [], ◌∷◌}
use Rattle.std.specs.Prelude.{int_le, int_lt}
use Rattle.std.specs.Int.{int_max, int_min}
use Rattle.std.specs.List.{AllByRecursion}
use Rattle.std.proofs.lemmas.Bool.{and_from, and_parts, both_ways, false_from_ne_true}
use Rattle.std.proofs.lemmas.Int.{by_lt_z, clamps, ints}
use Rattle.std.proofs.lemmas.List.Elements.{All-from_recursion}
use Rattle.sf_grid.specs.Plane.{Coordinates, IsPoint, Point, grid_point}
use Rattle.sf_grid.specs.Edge.{Edge as Line, IsOnEdge, below_rightward, cross, edge_above, edge_between, on_edge, within}
use Rattle.sf_grid.specs.EvenOdd.{edges_above, is_odd}
use Rattle.sf_grid.proofs.CallerLemmas.{dif, le_from_test, lies, lt_from_test, mul, num, on_edge-swap, ring, sum, test_from_le, test_from_lt, var}
use Rattle.sf_grid.proofs.LineLaws.{on_edge_rightward}
use Rattle.sf_plane.proofs.BoxLaws.{ring_in_box}
use Rattle.sf_plane.specs.Boxes.{Box, HasEnds, IsClosedChain, in_box}
use Rattle.sf_interiors.specs.Vertices.{is_beside}
use Rattle.sf_interiors.proofs.ChainLaws.{odd-count}
use Rattle.sf_interiors.proofs.InsideLaws.{IsInside, upright-on}
use Rattle.sf_interiors.proofs.SideLaws.{differ, no-rightward}

abbrev corner : Coordinates → ℤ → ℤ → Coordinates
corner c i j = record { x = c.x +ℤ i; y = c.y +ℤ j }

abbrev lower : Coordinates → Line
lower c = edge_between (corner c (negsuc 0) (negsuc 0)) (corner c (pos 1) (negsuc 0))

abbrev right : Coordinates → Line
right c = edge_between (corner c (pos 1) (negsuc 0)) (corner c (pos 1) (pos 1))

abbrev upper : Coordinates → Line
upper c = edge_between (corner c (pos 1) (pos 1)) (corner c (negsuc 0) (pos 1))

abbrev left : Coordinates → Line
left c = edge_between (corner c (negsuc 0) (pos 1)) (corner c (negsuc 0) (negsuc 0))

-- the edges of the square, round it to the left
abbrev pub square : Coordinates → List Line
square c = lower c ∷ right c ∷ upper c ∷ left c ∷ []

pub square-closed : (c : Coordinates) → IsClosedChain (square c)
square-closed c = (corner c (negsuc 0) (negsuc 0), (refl, (refl, (refl, (refl, refl)))))

-- ---- the point is on none of them
off-lower : (c : Coordinates) → on_edge (lower c) (grid_point c) ≡ false
off-lower c =
    false_from_ne_true (on_edge (lower c) (grid_point c))
    (λ t.
    let y = and_parts _ _ (lies (lower c) (grid_point c) t).y in
    low c.y (le_from_test _ _ y.1))
  where
    low : (z : ℤ) → z ≤ℤ (int_max (z +ℤ negsuc 0) (z +ℤ negsuc 0) *ℤ pos 1) → ⊥
    low z h = absurd (omega (arith, ints, clamps))

off-upper : (c : Coordinates) → on_edge (upper c) (grid_point c) ≡ false
off-upper c =
    false_from_ne_true (on_edge (upper c) (grid_point c))
    (λ t.
    let y = and_parts _ _ (lies (upper c) (grid_point c) t).y in
    high c.y (le_from_test _ _ y.0))
  where
    high : (z : ℤ) → (int_min (z +ℤ pos 1) (z +ℤ pos 1) *ℤ pos 1) ≤ℤ z → ⊥
    high z h = absurd (omega (arith, ints, clamps))

off-right : (c : Coordinates) → on_edge (right c) (grid_point c) ≡ false
off-right c =
    false_from_ne_true (on_edge (right c) (grid_point c))
    (λ t.
    let x = and_parts _ _ (lies (right c) (grid_point c) t).x in
    high c.x (le_from_test _ _ x.0))
  where
    high : (z : ℤ) → (int_min (z +ℤ pos 1) (z +ℤ pos 1) *ℤ pos 1) ≤ℤ z → ⊥
    high z h = absurd (omega (arith, ints, clamps))

off-left : (c : Coordinates) → on_edge (left c) (grid_point c) ≡ false
off-left c =
    false_from_ne_true (on_edge (left c) (grid_point c))
    (λ t.
    let x = and_parts _ _ (lies (left c) (grid_point c) t).x in
    low c.x (le_from_test _ _ x.1))
  where
    low : (z : ℤ) → z ≤ℤ (int_max (z +ℤ negsuc 0) (z +ℤ negsuc 0) *ℤ pos 1) → ⊥
    low z h = absurd (omega (arith, ints, clamps))

-- ---- the upper one alone is above it
no-more : (z w : ℤ) → z ≡ w → w ≤ℤ z
no-more z w h = omega (arith, ints)

above-right : (c : Coordinates) → edge_above (right c) (grid_point c) ≡ false
above-right c =
    ap (λ t. t || below_rightward (right c).b (right c).a (grid_point c)) (no-rightward (right c).a (right c).b (grid_point c) (no-more _ _ refl))
    ∙ no-rightward (right c).b (right c).a (grid_point c) (no-more _ _ refl)

above-left : (c : Coordinates) → edge_above (left c) (grid_point c) ≡ false
above-left c =
    ap (λ t. t || below_rightward (left c).b (left c).a (grid_point c)) (no-rightward (left c).a (left c).b (grid_point c) (no-more _ _ refl))
    ∙ no-rightward (left c).b (left c).a (grid_point c) (no-more _ _ refl)

above-lower : (c : Coordinates) → edge_above (lower c) (grid_point c) ≡ false
above-lower c =
    ap (λ t. below_rightward (lower c).a (lower c).b (grid_point c) || t) (no-rightward (lower c).b (lower c).a (grid_point c) (forth c.x))
    ∙ or-none (below_rightward (lower c).a (lower c).b (grid_point c))
    ∙ last (int_le ((c.x +ℤ negsuc 0) *ℤ pos 1) c.x && int_lt c.x ((c.x +ℤ pos 1) *ℤ pos 1)) (int_lt (cross (lower c).a (lower c).b (grid_point c)) (pos 0))
    (false_from_ne_true (int_lt (cross (lower c).a (lower c).b (grid_point c)) (pos 0)) (λ t. up (cross (lower c).a (lower c).b (grid_point c)) two (lt_from_test _ _ t)))
  where
    forth : (z : ℤ) → (z +ℤ negsuc 0) ≤ℤ (z +ℤ pos 1)
    forth z = omega (arith, ints)

    or-none : (b : Bool) → (b || false) ≡ b
    or-none true = refl
    or-none false = refl

    last : (a b : Bool) → b ≡ false → (a && b) ≡ false
    last true b h = h
    last false b h = refl

    up : (z : ℤ) → z ≡ pos 2 → z <ℤ pos 0 → ⊥
    up z e h = absurd (omega (arith, ints))

    two : cross (lower c).a (lower c).b (grid_point c) ≡ pos 2
    two =
        ring (c.x ∷ c.y ∷ [])
        (dif
        (mul (dif (sum (var 0) (num (pos 1))) (sum (var 0) (num (negsuc 0)))) (dif (var 1) (mul (sum (var 1) (num (negsuc 0))) (num (pos 1)))))
        (mul (dif (sum (var 1) (num (negsuc 0))) (sum (var 1) (num (negsuc 0)))) (dif (var 0) (mul (sum (var 0) (num (negsuc 0))) (num (pos 1))))))
        (num (pos 2)) refl

above-upper : (c : Coordinates) → edge_above (upper c) (grid_point c) ≡ true
above-upper c =
    ap (λ t. t || below_rightward (upper c).b (upper c).a (grid_point c)) (no-rightward (upper c).a (upper c).b (grid_point c) (forth c.x))
    ∙ all (int_le ((c.x +ℤ negsuc 0) *ℤ pos 1) c.x) (int_lt c.x ((c.x +ℤ pos 1) *ℤ pos 1)) (int_lt (cross (upper c).b (upper c).a (grid_point c)) (pos 0))
    (test_from_le _ _ (before c.x)) (test_from_lt _ _ (behind c.x)) (test_from_lt _ _ (down (cross (upper c).b (upper c).a (grid_point c)) two))
  where
    forth : (z : ℤ) → (z +ℤ negsuc 0) ≤ℤ (z +ℤ pos 1)
    forth z = omega (arith, ints)

    before : (z : ℤ) → ((z +ℤ negsuc 0) *ℤ pos 1) ≤ℤ z
    before z = omega (arith, ints)

    behind : (z : ℤ) → z <ℤ ((z +ℤ pos 1) *ℤ pos 1)
    behind z = omega (arith, ints)

    all : (a b d : Bool) → a ≡ true → b ≡ true → d ≡ true → (a && b && d) ≡ true
    all a b d e f g = ap (λ t. t && b && d) e ∙ ap (λ t. t && d) f ∙ g

    down : (z : ℤ) → z ≡ pos 0 -ℤ pos 2 → z <ℤ pos 0
    down z e = omega (arith, ints)

    two : cross (upper c).b (upper c).a (grid_point c) ≡ pos 0 -ℤ pos 2
    two =
        ring (c.x ∷ c.y ∷ [])
        (dif
        (mul (dif (sum (var 0) (num (pos 1))) (sum (var 0) (num (negsuc 0)))) (dif (var 1) (mul (sum (var 1) (num (pos 1))) (num (pos 1)))))
        (mul (dif (sum (var 1) (num (pos 1))) (sum (var 1) (num (pos 1)))) (dif (var 0) (mul (sum (var 0) (num (negsuc 0))) (num (pos 1))))))
        (dif (num (pos 0)) (num (pos 2))) refl

pub square-inside : (c : Coordinates) → IsInside (square c) (grid_point c)
square-inside c =
    record {
      off = (off-lower c, (off-right c, (off-upper c, (off-left c, tt))));
      odd =
          odd-count (λ e. edge_above e (grid_point c)) (lower c) (right c ∷ upper c ∷ left c ∷ [])
          ∙ ap (λ t. differ t (is_odd (edges_above (grid_point c) (right c ∷ upper c ∷ left c ∷ [])))) (above-lower c)
          ∙ odd-count (λ e. edge_above e (grid_point c)) (right c) (upper c ∷ left c ∷ [])
          ∙ ap (λ t. differ t (is_odd (edges_above (grid_point c) (upper c ∷ left c ∷ [])))) (above-right c)
          ∙ odd-count (λ e. edge_above e (grid_point c)) (upper c) (left c ∷ [])
          ∙ ap (λ t. differ t (is_odd (edges_above (grid_point c) (left c ∷ [])))) (above-upper c)
          ∙ ap (λ t. differ true t) (odd-count (λ e. edge_above e (grid_point c)) (left c) [] ∙ ap (λ t. differ t (is_odd (edges_above (grid_point c) []))) (above-left c));
    }

-- ---- what is inside it is less than a step away
abbrev box_round : Coordinates → Box
box_round c = record { min_x = c.x -ℤ pos 1; min_y = c.y -ℤ pos 1; max_x = c.x +ℤ pos 1; max_y = c.y +ℤ pos 1 }

-- one of the two sides
abbrev IsAside : ℤ → Type 0
IsAside i = (negsuc 0 ≤ℤ i) × (i ≤ℤ pos 1)

corner-in : (c : Coordinates) (i j : ℤ) → IsAside i → IsAside j → in_box (box_round c) (grid_point (corner c i j)) ≡ true
corner-in c i j h k = and_from _ _ (side c.x i h) (side c.y j k)
  where
    low : (z s : ℤ) → negsuc 0 ≤ℤ s → ((z -ℤ pos 1) *ℤ pos 1) ≤ℤ (z +ℤ s)
    low z s g = omega (arith, ints)

    high : (z s : ℤ) → s ≤ℤ pos 1 → (z +ℤ s) ≤ℤ ((z +ℤ pos 1) *ℤ pos 1)
    high z s g = omega (arith, ints)

    side : (z s : ℤ) → IsAside s → within (z -ℤ pos 1) (z +ℤ pos 1) (record { num = z +ℤ s; den = 1 }) ≡ true
    side z s g = and_from _ _ (test_from_le _ _ (low z s g.0)) (test_from_le _ _ (high z s g.1))

corners-in : (c : Coordinates) → AllByRecursion (HasEnds (box_round c)) (square c)
corners-in c =
    let before : IsAside (negsuc 0) = (omega (arith, ints), omega (arith, ints)) in
    let behind : IsAside (pos 1) = (omega (arith, ints), omega (arith, ints)) in
    let a = corner-in c (negsuc 0) (negsuc 0) before before in
    let b = corner-in c (pos 1) (negsuc 0) behind before in
    let d = corner-in c (pos 1) (pos 1) behind behind in
    let e = corner-in c (negsuc 0) (pos 1) before behind in
    ((a, b), ((b, d), ((d, e), ((e, a), tt))))

-- a point at the height of a level edge, in its columns, is on it
level-on : (a b : Coordinates) (p : Point) → IsPoint p → a.x <ℤ b.x → a.y ≡ b.y → a.y *ℤ pos p.d ≡ p.y → (a.x *ℤ pos p.d) ≤ℤ p.x → p.x ≤ℤ (b.x *ℤ pos p.d) → IsOnEdge (edge_between a b) p
level-on a b p i l e f low high =
    on_edge_rightward a b p i l
    (ap (λ z. (b.x -ℤ a.x) *ℤ z -ℤ (b.y -ℤ a.y) *ℤ (p.x -ℤ a.x *ℤ pos p.d)) (none p.y (a.y *ℤ pos p.d) (sym f))
    ∙ ap (λ z. (b.x -ℤ a.x) *ℤ pos 0 -ℤ z *ℤ (p.x -ℤ a.x *ℤ pos p.d)) (none b.y a.y (sym e))
    ∙ nothing (b.x -ℤ a.x) (p.x -ℤ a.x *ℤ pos p.d))
    low high
  where
    none : (s t : ℤ) → s ≡ t → s -ℤ t ≡ pos 0
    none s t h = omega (arith, ints)

    nothing : (s t : ℤ) → s *ℤ pos 0 -ℤ pos 0 *ℤ t ≡ pos 0
    nothing s t = ring (s ∷ t ∷ []) (dif (mul (var 0) (num (pos 0))) (mul (num (pos 0)) (var 1))) (num (pos 0)) refl

-- it is in the square's box, and on none of its sides
pub square-beside : (c : Coordinates) (q : Point) → IsPoint q → IsInside (square c) q → is_beside c q ≡ true
square-beside c q i h =
    let parts = and_parts _ _ (ring_in_box (box_round c) (square c) q (square-closed c) (All-from_recursion (HasEnds (box_round c)) (square c) (corners-in c)) i h.odd) in
    let x = and_parts _ _ parts.0 in
    let y = and_parts _ _ parts.1 in
    let from_left = le_from_test ((c.x -ℤ pos 1) *ℤ pos q.d) q.x x.0 in
    let to_right = le_from_test q.x ((c.x +ℤ pos 1) *ℤ pos q.d) x.1 in
    let from_below = le_from_test ((c.y -ℤ pos 1) *ℤ pos q.d) q.y y.0 in
    let to_top = le_from_test q.y ((c.y +ℤ pos 1) *ℤ pos q.d) y.1 in
    let over =
    strict ((c.y -ℤ pos 1) *ℤ pos q.d) q.y from_below
    (λ e. both_ways (on_edge (lower c) q) h.off.0 (level-on (corner c (negsuc 0) (negsuc 0)) (corner c (pos 1) (negsuc 0)) q i (forth c.x) refl e from_left to_right)) in
    let under =
    strict q.y ((c.y +ℤ pos 1) *ℤ pos q.d) to_top
    (λ e.
    both_ways (on_edge (upper c) q) h.off.1.1.0
    (on_edge-swap (corner c (pos 1) (pos 1)) (corner c (negsuc 0) (pos 1)) q ∙ level-on (corner c (negsuc 0) (pos 1)) (corner c (pos 1) (pos 1)) q i (forth c.x) refl (sym e) from_left to_right)) in
    let behind =
    strict ((c.x -ℤ pos 1) *ℤ pos q.d) q.x from_left
    (λ e. both_ways (on_edge (left c) q) h.off.1.1.1.0 (upright-on (corner c (negsuc 0) (pos 1)) (corner c (negsuc 0) (negsuc 0)) q refl e from_below under)) in
    let before =
    strict q.x ((c.x +ℤ pos 1) *ℤ pos q.d) to_right
    (λ e.
    both_ways (on_edge (right c) q) h.off.1.0
    (on_edge-swap (corner c (pos 1) (negsuc 0)) (corner c (pos 1) (pos 1)) q ∙ upright-on (corner c (pos 1) (pos 1)) (corner c (pos 1) (negsuc 0)) q refl (sym e) from_below under)) in
    and_from _ _ (and_from _ _ (test_from_lt _ _ behind) (test_from_lt _ _ before)) (and_from _ _ (test_from_lt _ _ over) (test_from_lt _ _ under))
  where
    forth : (z : ℤ) → (z +ℤ negsuc 0) <ℤ (z +ℤ pos 1)
    forth z = omega (arith, ints)

    strict : (a b : ℤ) → a ≤ℤ b → a ≢ b → a <ℤ b
    strict a b l n = by_lt_z a b (λ m. m) (λ m. absurd (n (both l m)))
      where
        both : a ≤ℤ b → b ≤ℤ a → a ≡ b
        both g k = omega (arith, ints)
