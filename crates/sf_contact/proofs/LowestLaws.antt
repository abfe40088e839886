-- Straight up from a point, the lowest point that is on an edge of a list.
use Rattle.std.proofs.Common.{◌≡◌, arith, refl, ap, sym, ◌∙◌, subst, ℤ, pos, ◌+ℤ◌, ◌-ℤ◌, ◌*ℤ◌, ◌<ℤ◌, ◌≤ℤ◌, true, false, ◌&&◌, List, [], ◌∷◌, ◌⊎◌, inl, inr, ⊎_elim}
use Rattle.std.specs.Prelude.{int_le, int_lt}
use Rattle.std.specs.Int.{int_max, int_min}
use Rattle.std.specs.List.{AllByRecursion, list_any}
use Rattle.std.proofs.lemmas.Bool.{and_from, and_parts, both_ways, or_cases, or_left, or_right}
use Rattle.std.proofs.lemmas.Int.{by_lt_z, clamps, ints}
use Rattle.sf_grid.specs.Plane.{Coordinates, IsPoint, Point, grid_point, y_of}
use Rattle.sf_grid.specs.Edge.{Edge as Line, IsOnEdge, below_rightward, cross, edge_above, edge_between, on_edge}
use Rattle.sf_grid.proofs.CallerLemmas.{abs_of_run, dif, eq_from_mul, le_from_mul, le_from_test, lies, lt_from_mul, lt_from_test, mul, mul_le, num, on_edge-same_point, on_edge-swap, ring, run_pos, sum, test_from_eq, var}
use Rattle.sf_grid.proofs.FractionLaws.{le-trans}
use Rattle.sf_plane.proofs.CombineLaws.{start_on_edge}
use Rattle.sf_interiors.proofs.AlongLaws.{column-of}
use Rattle.sf_interiors.proofs.InsideLaws.{upright-on}
use Rattle.sf_interiors.proofs.SlantLaws.{above_of, above_of-on, above_of-point, end_on_edge, is_grid, run_of}
use Rattle.sf_interiors.proofs.UprightLaws.{IsUp}

-- ---- heights in a column

-- p is not above q, or is below it
abbrev pub IsUnder : Point → Point → Type 0
IsUnder p q = (p.y *ℤ pos q.d) ≤ℤ (q.y *ℤ pos p.d)

abbrev pub IsLower : Point → Point → Type 0
IsLower p q = (p.y *ℤ pos q.d) <ℤ (q.y *ℤ pos p.d)

abbrev pub InColumn : Point → Point → Type 0
InColumn p w = w.x *ℤ pos p.d ≡ p.x *ℤ pos w.d

pub under-trans : (a b c : Point) → IsPoint b → IsUnder a b → IsUnder b c → IsUnder a c
under-trans a b c i h k = le-trans (y_of a) (y_of b) (y_of c) (record { positive = i.positive }) h k

not-both : (m n : ℤ) → m ≤ℤ n → n <ℤ m → ⊥
not-both m n h k = absurd (omega (arith, ints))

self : (z : ℤ) → z ≤ℤ z
self z = omega (arith, ints)

weak : (m n : ℤ) → m <ℤ n → m ≤ℤ n
weak m n h = omega (arith, ints)

as-low : (m n : ℤ) → m ≡ n → m ≤ℤ n
as-low m n h = omega (arith, ints)

one-of : (m n : ℤ) → m ≤ℤ n → n ≤ℤ m → m ≡ n
one-of m n h k = omega (arith, ints)

chain : (a b c : ℤ) → a ≡ b → b ≤ℤ c → a ≤ℤ c
chain a b c e h = omega (arith, ints)

chain-last : (a b c : ℤ) → a ≤ℤ b → b ≡ c → a ≤ℤ c
chain-last a b c h e = omega (arith, ints)

under-through : (a b c : ℤ) → a ≤ℤ b → b ≤ℤ c → a ≤ℤ c
under-through a b c h k = omega (arith, ints)

swapped : (z m n : ℤ) → z *ℤ m *ℤ n ≡ z *ℤ n *ℤ m
swapped z m n = ring (z ∷ m ∷ n ∷ []) (mul (mul (var 0) (var 1)) (var 2)) (mul (mul (var 0) (var 2)) (var 1)) refl

-- the edge has no point in the column between p and below r
abbrev pub IsClearBelow : Point → Point → Line → Type 0
IsClearBelow p r e = (w : Point) → IsPoint w → InColumn p w → IsUnder p w → IsLower w r → IsOnEdge e w → ⊥

-- at or below r a point above p, below which the edge has none: r itself, or one of the edge
record Lower (p r : Point) (e : Line) : Type 0 where
  s : Point
  up : IsUp p s
  under : IsUnder s r
  clear : IsClearBelow p s e
  on : (s ≡ r) ⊎ IsOnEdge e s

stays : (p r : Point) (e : Line) → IsUp p r → IsClearBelow p r e → Lower p r e
stays p r e up clear = record { s = r; up = up; under = self (r.y *ℤ pos r.d); clear = clear; on = inl refl }

-- ---- an edge that slants

-- two points of a line in one column have one height
one_height : (u v : Coordinates) (w h : Point) → u.x <ℤ v.x → w.x *ℤ pos h.d ≡ h.x *ℤ pos w.d → cross u v w ≡ pos 0 → cross u v h ≡ pos 0 → w.y *ℤ pos h.d ≡ h.y *ℤ pos w.d
one_height u v w h l column on_w on_h =
    equal (w.y *ℤ pos h.d) (h.y *ℤ pos w.d)
    (eq_from_mul (h.y *ℤ pos w.d -ℤ w.y *ℤ pos h.d) (pos 0) (run_of u v) (run_pos u.x v.x l)
    (ring ((h.y *ℤ pos w.d -ℤ w.y *ℤ pos h.d) ∷ pos (run_of u v) ∷ []) (mul (var 0) (var 1)) (mul (var 1) (var 0)) refl
    ∙ ap (λ z. z *ℤ (h.y *ℤ pos w.d -ℤ w.y *ℤ pos h.d)) (abs_of_run u.x v.x l)
    ∙ none (cross u v h) (cross u v w) (pos w.d) (pos h.d) ((v.x -ℤ u.x) *ℤ (h.y *ℤ pos w.d -ℤ w.y *ℤ pos h.d)) on_h on_w grows
    ∙ sym (nothing (pos (run_of u v)))))
  where
    nothing : (m : ℤ) → pos 0 *ℤ m ≡ pos 0
    nothing m = ring (m ∷ []) (mul (num (pos 0)) (var 0)) (num (pos 0)) refl

    none : (a b m n z : ℤ) → a ≡ pos 0 → b ≡ pos 0 → a *ℤ m ≡ b *ℤ n +ℤ z → z ≡ pos 0
    none a b m n z e f g =
        let left : a *ℤ m ≡ pos 0 = ap (λ x. x *ℤ m) e ∙ nothing m in
        let right : b *ℤ n ≡ pos 0 = ap (λ x. x *ℤ n) f ∙ nothing n in
        omega (arith, ints)

    equal : (a b : ℤ) → b -ℤ a ≡ pos 0 → a ≡ b
    equal a b h = omega (arith, ints)

    grows : cross u v h *ℤ pos w.d ≡ cross u v w *ℤ pos h.d +ℤ (v.x -ℤ u.x) *ℤ (h.y *ℤ pos w.d -ℤ w.y *ℤ pos h.d)
    grows =
        ring (u.x ∷ u.y ∷ v.x ∷ v.y ∷ h.x ∷ h.y ∷ pos h.d ∷ pos w.d ∷ [])
        (mul (dif (mul (dif (var 2) (var 0)) (dif (var 5) (mul (var 1) (var 6)))) (mul (dif (var 3) (var 1)) (dif (var 4) (mul (var 0) (var 6))))) (var 7))
        (dif (mul (dif (var 2) (var 0)) (dif (mul (var 5) (var 7)) (mul (mul (var 1) (var 6)) (var 7)))) (mul (dif (var 3) (var 1)) (dif (mul (var 4) (var 7)) (mul (mul (var 0) (var 6)) (var 7)))))
        refl
        ∙ ap (λ z. (v.x -ℤ u.x) *ℤ (h.y *ℤ pos w.d -ℤ u.y *ℤ pos h.d *ℤ pos w.d) -ℤ (v.y -ℤ u.y) *ℤ (z -ℤ u.x *ℤ pos h.d *ℤ pos w.d)) (sym column)
        ∙ ring (u.x ∷ u.y ∷ v.x ∷ v.y ∷ w.x ∷ w.y ∷ pos w.d ∷ h.y ∷ pos h.d ∷ [])
        (dif (mul (dif (var 2) (var 0)) (dif (mul (var 7) (var 6)) (mul (mul (var 1) (var 8)) (var 6)))) (mul (dif (var 3) (var 1)) (dif (mul (var 4) (var 8)) (mul (mul (var 0) (var 8)) (var 6)))))
        (sum
        (mul (dif (mul (dif (var 2) (var 0)) (dif (var 5) (mul (var 1) (var 6)))) (mul (dif (var 3) (var 1)) (dif (var 4) (mul (var 0) (var 6))))) (var 8))
        (mul (dif (var 2) (var 0)) (dif (mul (var 7) (var 6)) (mul (var 5) (var 8)))))
        refl

-- both are in the column of p, so each is in the other's
pub one_column : (p w h : Point) → IsPoint p → InColumn p w → InColumn p h → w.x *ℤ pos h.d ≡ h.x *ℤ pos w.d
one_column p w h i in_w in_h =
    eq_from_mul (w.x *ℤ pos h.d) (h.x *ℤ pos w.d) p.d i.positive
    (swapped w.x (pos h.d) (pos p.d) ∙ ap (λ z. z *ℤ pos h.d) in_w ∙ swapped p.x (pos w.d) (pos h.d) ∙ ap (λ z. z *ℤ pos w.d) (sym in_h) ∙ swapped h.x (pos p.d) (pos w.d))

-- the columns of an edge's points
record Reaches (u v : Coordinates) (w : Point) : Type 0 where
  from : (u.x *ℤ pos w.d) ≤ℤ w.x
  to : w.x ≤ℤ (v.x *ℤ pos w.d)

reaches-on : (u v : Coordinates) (w : Point) → u.x <ℤ v.x → IsOnEdge (edge_between u v) w → Reaches u v w
reaches-on u v w l on =
    let parts = and_parts (int_le (int_min u.x v.x *ℤ pos w.d) w.x) (int_le w.x (int_max u.x v.x *ℤ pos w.d)) (lies (edge_between u v) w on).x in
    record {
      from = subst (λ z. (z *ℤ pos w.d) ≤ℤ w.x) (least u.x v.x l) (le_from_test (int_min u.x v.x *ℤ pos w.d) w.x parts.0);
      to = subst (λ z. w.x ≤ℤ (z *ℤ pos w.d)) (greatest u.x v.x l) (le_from_test w.x (int_max u.x v.x *ℤ pos w.d) parts.1);
    }
  where
    least : (s t : ℤ) → s <ℤ t → int_min s t ≡ s
    least s t h = omega (arith, ints, clamps)

    greatest : (s t : ℤ) → s <ℤ t → int_max s t ≡ t
    greatest s t h = omega (arith, ints, clamps)

-- so the column of p is one of the edge's
reaches-column : (u v : Coordinates) (p w : Point) → IsPoint w → InColumn p w → Reaches u v w → Reaches u v p
reaches-column u v p w i column r =
    record {
      from =
          le_from_mul (u.x *ℤ pos p.d) p.x w.d i.positive
          (chain (u.x *ℤ pos p.d *ℤ pos w.d) (u.x *ℤ pos w.d *ℤ pos p.d) (p.x *ℤ pos w.d) (swapped u.x (pos p.d) (pos w.d))
          (chain-last (u.x *ℤ pos w.d *ℤ pos p.d) (w.x *ℤ pos p.d) (p.x *ℤ pos w.d) (mul_le (u.x *ℤ pos w.d) w.x p.d r.from) column));
      to =
          le_from_mul p.x (v.x *ℤ pos p.d) w.d i.positive
          (chain (p.x *ℤ pos w.d) (w.x *ℤ pos p.d) (v.x *ℤ pos p.d *ℤ pos w.d) (sym column)
          (chain-last (w.x *ℤ pos p.d) (v.x *ℤ pos w.d *ℤ pos p.d) (v.x *ℤ pos p.d *ℤ pos w.d) (mul_le w.x (v.x *ℤ pos w.d) p.d r.to) (swapped v.x (pos w.d) (pos p.d))));
    }

above_of-column : (u v : Coordinates) (p : Point) → InColumn p (above_of u v p)
above_of-column u v p = ring (p.x ∷ pos (run_of u v) ∷ pos p.d ∷ []) (mul (mul (var 0) (var 1)) (var 2)) (mul (var 0) (mul (var 2) (var 1))) refl

slanted : (u v : Coordinates) (p r : Point) → u.x <ℤ v.x → IsUp p r → Lower p r (edge_between u v)
slanted u v p r l up =
    by_lt_z p.x (u.x *ℤ pos p.d)
    (λ left. stays p r (edge_between u v) up (λ w i column over below on. not-both (u.x *ℤ pos p.d) p.x (within-columns w i column on).from left))
    (λ from.
    by_lt_z (v.x *ℤ pos p.d) p.x
    (λ right. stays p r (edge_between u v) up (λ w i column over below on. not-both p.x (v.x *ℤ pos p.d) (within-columns w i column on).to right))
    (λ to. at_height (above_of-on u v p l up.is_first from to)))
  where
    is_point : IsPoint (above_of u v p)
    is_point = above_of-point u v p l up.is_first

    within-columns : (w : Point) → IsPoint w → InColumn p w → IsOnEdge (edge_between u v) w → Reaches u v p
    within-columns w i column on = reaches-column u v p w i column (reaches-on u v w l on)

    at_height : IsOnEdge (edge_between u v) (above_of u v p) → Lower p r (edge_between u v)
    at_height on_h =
        by_lt_z ((above_of u v p).y *ℤ pos p.d) (p.y *ℤ pos (above_of u v p).d)
        (λ low.
        stays p r (edge_between u v) up (λ w i column over below on.
        not-both (p.y *ℤ pos (above_of u v p).d) ((above_of u v p).y *ℤ pos p.d)
        (under-trans p w (above_of u v p) i over (as-low (w.y *ℤ pos (above_of u v p).d) ((above_of u v p).y *ℤ pos w.d) (same w i column on))) low))
        (λ over_p.
        by_lt_z ((above_of u v p).y *ℤ pos r.d) (r.y *ℤ pos (above_of u v p).d)
        (λ lower.
        record {
          s = above_of u v p;
          up = record { is_first = up.is_first; is_second = is_point; column = sym (above_of-column u v p); rises = over_p };
          under = weak ((above_of u v p).y *ℤ pos r.d) (r.y *ℤ pos (above_of u v p).d) lower;
          clear = λ w i column over below on.
              not-both ((above_of u v p).y *ℤ pos w.d) (w.y *ℤ pos (above_of u v p).d)
              (as-low ((above_of u v p).y *ℤ pos w.d) (w.y *ℤ pos (above_of u v p).d) (sym (same w i column on))) below;
          on = inr on_h;
        })
        (λ over_r.
        stays p r (edge_between u v) up (λ w i column over below on.
        not-both (r.y *ℤ pos w.d) (w.y *ℤ pos r.d)
        (under-trans r (above_of u v p) w is_point over_r (as-low ((above_of u v p).y *ℤ pos w.d) (w.y *ℤ pos (above_of u v p).d) (sym (same w i column on)))) below)))
      where
        same : (w : Point) → IsPoint w → InColumn p w → IsOnEdge (edge_between u v) w → w.y *ℤ pos (above_of u v p).d ≡ (above_of u v p).y *ℤ pos w.d
        same w i column on =
            one_height u v w (above_of u v p) l (one_column p w (above_of u v p) up.is_first column (above_of-column u v p))
            (lies (edge_between u v) w on).line (lies (edge_between u v) (above_of u v p) on_h).line

-- ---- an upright edge

-- the same of the edge turned round
turned : (p r : Point) (u v : Coordinates) → Lower p r (edge_between v u) → Lower p r (edge_between u v)
turned p r u v l =
    record {
      s = l.s;
      up = l.up;
      under = l.under;
      clear = λ w i column over below on. l.clear w i column over below (on_edge-swap v u w ∙ on);
      on = ⊎_elim (λ same. inl same) (λ on. inr (on_edge-swap u v l.s ∙ on)) l.on;
    }

-- the heights of an edge's points, where its ends are sorted
record Rises (top low : Coordinates) (w : Point) : Type 0 where
  from : (low.y *ℤ pos w.d) ≤ℤ w.y
  to : w.y ≤ℤ (top.y *ℤ pos w.d)

rises-on : (top low : Coordinates) (w : Point) → low.y ≤ℤ top.y → IsOnEdge (edge_between top low) w → Rises top low w
rises-on top low w l on =
    let parts = and_parts (int_le (int_min top.y low.y *ℤ pos w.d) w.y) (int_le w.y (int_max top.y low.y *ℤ pos w.d)) (lies (edge_between top low) w on).y in
    record {
      from = subst (λ z. (z *ℤ pos w.d) ≤ℤ w.y) (least top.y low.y l) (le_from_test (int_min top.y low.y *ℤ pos w.d) w.y parts.0);
      to = subst (λ z. w.y ≤ℤ (z *ℤ pos w.d)) (greatest top.y low.y l) (le_from_test w.y (int_max top.y low.y *ℤ pos w.d) parts.1);
    }
  where
    least : (s t : ℤ) → t ≤ℤ s → int_min s t ≡ t
    least s t h = omega (arith, ints, clamps)

    greatest : (s t : ℤ) → t ≤ℤ s → int_max s t ≡ s
    greatest s t h = omega (arith, ints, clamps)

one : (z : ℤ) → z *ℤ pos 1 ≡ z
one z = ring (z ∷ []) (mul (var 0) (num (pos 1))) (var 0) refl

-- a point in the column of an upright edge, from its low end up to a point of it, is on the edge
upright-between : (top low : Coordinates) (p w : Point) → top.x ≡ low.x → IsPoint p → IsPoint w → top.x *ℤ pos p.d ≡ p.x → (low.y *ℤ pos p.d) ≤ℤ p.y → IsUnder p w → w.y ≤ℤ (top.y *ℤ pos w.d)
    → IsOnEdge (edge_between top low) p
upright-between top low p w same i j column from over to =
    by_lt_z p.y (top.y *ℤ pos p.d) (λ below. upright-on top low p same column from below)
    (λ above.
    let height : p.y ≡ top.y *ℤ pos p.d = one-of p.y (top.y *ℤ pos p.d) under_top above in
    on_edge-same_point (edge_between top low) p (grid_point top) i (is_grid top)
    (and_from _ _ (test_from_eq (p.x *ℤ pos 1) (top.x *ℤ pos p.d) (one p.x ∙ sym column)) (test_from_eq (p.y *ℤ pos 1) (top.y *ℤ pos p.d) (one p.y ∙ height)))
    (start_on_edge top low))
  where
    under_top : p.y ≤ℤ (top.y *ℤ pos p.d)
    under_top =
        le_from_mul p.y (top.y *ℤ pos p.d) w.d j.positive
        (chain-last (p.y *ℤ pos w.d) (top.y *ℤ pos w.d *ℤ pos p.d) (top.y *ℤ pos p.d *ℤ pos w.d)
        (under-through (p.y *ℤ pos w.d) (w.y *ℤ pos p.d) (top.y *ℤ pos w.d *ℤ pos p.d) over (mul_le w.y (top.y *ℤ pos w.d) p.d to))
        (swapped top.y (pos w.d) (pos p.d)))

upright : (top low : Coordinates) (p r : Point) → top.x ≡ low.x → low.y ≤ℤ top.y → on_edge (edge_between top low) p ≡ false → IsUp p r → Lower p r (edge_between top low)
upright top low p r same l off up =
    by_lt_z (top.x *ℤ pos p.d) p.x
    (λ left. stays p r (edge_between top low) up (λ w i column over below on. not-both p.x (top.x *ℤ pos p.d) (as-low p.x (top.x *ℤ pos p.d) (sym (in_column w i column on))) left))
    (λ from.
    by_lt_z p.x (top.x *ℤ pos p.d)
    (λ right. stays p r (edge_between top low) up (λ w i column over below on. not-both (top.x *ℤ pos p.d) p.x (as-low (top.x *ℤ pos p.d) p.x (in_column w i column on)) right))
    (λ to. at_column (one-of (top.x *ℤ pos p.d) p.x to from)))
  where
    in_column : (w : Point) → IsPoint w → InColumn p w → IsOnEdge (edge_between top low) w → top.x *ℤ pos p.d ≡ p.x
    in_column w i column on =
        eq_from_mul (top.x *ℤ pos p.d) p.x w.d i.positive
        (swapped top.x (pos p.d) (pos w.d) ∙ ap (λ z. z *ℤ pos p.d) (column-of (edge_between top low) w same on) ∙ column)

    at_column : top.x *ℤ pos p.d ≡ p.x → Lower p r (edge_between top low)
    at_column column_p =
        by_lt_z p.y (low.y *ℤ pos p.d)
        (λ over_p.
        by_lt_z (low.y *ℤ pos r.d) r.y
        (λ lower.
        record {
          s = grid_point low;
          up = record {
            is_first = up.is_first;
            is_second = is_grid low;
            column = one p.x ∙ sym column_p ∙ ap (λ z. z *ℤ pos p.d) same;
            rises = chain (p.y *ℤ pos 1) p.y (low.y *ℤ pos p.d) (one p.y) (weak p.y (low.y *ℤ pos p.d) over_p);
          };
          under = chain-last (low.y *ℤ pos r.d) r.y (r.y *ℤ pos 1) (weak (low.y *ℤ pos r.d) r.y lower) (sym (one r.y));
          clear = λ w i column over below on. not-both (low.y *ℤ pos w.d) (w.y *ℤ pos 1) (chain-last (low.y *ℤ pos w.d) w.y (w.y *ℤ pos 1) (rises-on top low w l on).from (sym (one w.y))) below;
          on = inr (end_on_edge top low);
        })
        (λ over_r.
        stays p r (edge_between top low) up (λ w i column over below on.
        not-both (r.y *ℤ pos w.d) (w.y *ℤ pos r.d)
        (under-trans r (grid_point low) w (is_grid low) (chain (r.y *ℤ pos 1) r.y (low.y *ℤ pos r.d) (one r.y) over_r)
        (chain-last (low.y *ℤ pos w.d) w.y (w.y *ℤ pos 1) (rises-on top low w l on).from (sym (one w.y)))) below)))
        (λ from.
        stays p r (edge_between top low) up (λ w i column over below on.
        both_ways (on_edge (edge_between top low) p) off
        (upright-between top low p w same up.is_first i column_p from over (rises-on top low w l on).to)))

-- ---- any edge, and all of a list

lower : (p r : Point) (e : Line) → IsUp p r → on_edge e p ≡ false → Lower p r e
lower p r e up off =
    by_lt_z e.a.x e.b.x (λ l. slanted e.a e.b p r l up)
    (λ m.
    by_lt_z e.b.x e.a.x (λ l. turned p r e.a e.b (slanted e.b e.a p r l up))
    (λ n.
    by_lt_z e.a.y e.b.y
    (λ k. turned p r e.a e.b (upright e.b e.a p r (one-of e.b.x e.a.x m n) (weak e.a.y e.b.y k) (on_edge-swap e.b e.a p ∙ off) up))
    (λ k. upright e.a e.b p r (one-of e.a.x e.b.x n m) k off up)))

clear-lower : (p r s : Point) (e : Line) → IsPoint s → IsUnder r s → IsClearBelow p s e → IsClearBelow p r e
clear-lower p r s e j under clear w i column over below on =
    by_lt_z (w.y *ℤ pos s.d) (s.y *ℤ pos w.d) (λ lower. clear w i column over lower on)
    (λ above. not-both (r.y *ℤ pos w.d) (w.y *ℤ pos r.d) (under-trans r s w j under above) below)

-- above p a point of one of all edges, below which those of the list have none, nor anything above p
pub record Lowest (p : Point) (all es : List Line) : Type 0 where
  pub r : Point
  pub up : IsUp p r
  pub on : list_any (λ e. on_edge e r) all ≡ true
  pub clear : AllByRecursion (IsClearBelow p r) es

-- what is on an edge of the list is on one of all
abbrev AreAmong : List Line → List Line → Type 0
AreAmong es all = (w : Point) → list_any (λ e. on_edge e w) es ≡ true → list_any (λ e. on_edge e w) all ≡ true

descend : (p r : Point) (all es : List Line) → IsUp p r → list_any (λ e. on_edge e r) all ≡ true → AreAmong es all → AllByRecursion (λ e. on_edge e p ≡ false) es
    → (low : Lowest p all es) × IsUnder low.r r
descend p r all [] up on among off = (record { r = r; up = up; on = on; clear = tt }, self (r.y *ℤ pos r.d))
descend p r all (e ∷ es) up on among off =
    let l = lower p r e up off.0 in
    let rest = descend p l.s all es l.up (on_all l) (λ w h. among w (or_right (on_edge e w) (list_any (λ f. on_edge f w) es) h)) off.1 in (
      record { r = rest.0.r; up = rest.0.up; on = rest.0.on; clear = (clear-lower p rest.0.r l.s e l.up.is_second rest.1 l.clear, rest.0.clear) },
      under-trans rest.0.r l.s r l.up.is_second rest.1 l.under,
    )
  where
    on_all : (l : Lower p r e) → list_any (λ f. on_edge f l.s) all ≡ true
    on_all l =
        ⊎_elim (λ same. subst (λ w. list_any (λ f. on_edge f w) all ≡ true) (sym same) on)
        (λ on_e. among l.s (or_left (on_edge e l.s) (list_any (λ f. on_edge f l.s) es) on_e)) l.on

-- ---- an edge above a point is met straight above it

record IsMet (p : Point) (e : Line) : Type 0 where
  pub r : Point
  pub up : IsUp p r
  pub on : IsOnEdge e r

met-rightward : (u v : Coordinates) (p : Point) → IsPoint p → below_rightward u v p ≡ true → IsMet p (edge_between u v)
met-rightward u v p i below =
    let sides = and_parts (int_le (u.x *ℤ pos p.d) p.x && int_lt p.x (v.x *ℤ pos p.d)) (int_lt (cross u v p) (pos 0)) below in
    let columns = and_parts (int_le (u.x *ℤ pos p.d) p.x) (int_lt p.x (v.x *ℤ pos p.d)) sides.0 in
    at (le_from_test (u.x *ℤ pos p.d) p.x columns.0) (lt_from_test p.x (v.x *ℤ pos p.d) columns.1) (lt_from_test (cross u v p) (pos 0) sides.1)
  where
    narrow : (u.x *ℤ pos p.d) ≤ℤ p.x → p.x <ℤ (v.x *ℤ pos p.d) → u.x <ℤ v.x
    narrow from to = lt_from_mul u.x v.x p.d (through (u.x *ℤ pos p.d) p.x (v.x *ℤ pos p.d) from to)
      where
        through : (a b c : ℤ) → a ≤ℤ b → b <ℤ c → a <ℤ c
        through a b c h k = omega (arith, ints)

    height : (l : u.x <ℤ v.x) → (above_of u v p).y *ℤ pos p.d ≡ p.y *ℤ pos (above_of u v p).d -ℤ cross u v p *ℤ pos p.d
    height l = by_run (pos (run_of u v)) (abs_of_run u.x v.x l)
      where
        by_run : (r : ℤ) → r ≡ v.x -ℤ u.x →
            (u.y *ℤ pos p.d *ℤ r +ℤ (v.y -ℤ u.y) *ℤ (p.x -ℤ u.x *ℤ pos p.d)) *ℤ pos p.d ≡ p.y *ℤ (pos p.d *ℤ r) -ℤ cross u v p *ℤ pos p.d
        by_run r e =
            ap (λ z. (u.y *ℤ pos p.d *ℤ z +ℤ (v.y -ℤ u.y) *ℤ (p.x -ℤ u.x *ℤ pos p.d)) *ℤ pos p.d) e
            ∙ ring (u.x ∷ u.y ∷ v.x ∷ v.y ∷ p.x ∷ p.y ∷ pos p.d ∷ [])
            (mul (sum (mul (mul (var 1) (var 6)) (dif (var 2) (var 0))) (mul (dif (var 3) (var 1)) (dif (var 4) (mul (var 0) (var 6))))) (var 6))
            (dif (mul (var 5) (mul (var 6) (dif (var 2) (var 0))))
            (mul (dif (mul (dif (var 2) (var 0)) (dif (var 5) (mul (var 1) (var 6)))) (mul (dif (var 3) (var 1)) (dif (var 4) (mul (var 0) (var 6))))) (var 6)))
            refl
            ∙ ap (λ z. p.y *ℤ (pos p.d *ℤ z) -ℤ cross u v p *ℤ pos p.d) (sym e)

    higher : (c h q : ℤ) → c <ℤ pos 0 → h ≡ q -ℤ c *ℤ pos p.d → q ≤ℤ h
    higher c h q down is =
        let product : (c *ℤ pos p.d) ≤ℤ (pos 0 *ℤ pos p.d) = mul_le c (pos 0) p.d (weak c (pos 0) down) in
        let none : pos 0 *ℤ pos p.d ≡ pos 0 = ring (pos p.d ∷ []) (mul (num (pos 0)) (var 0)) (num (pos 0)) refl in
        omega (arith, ints)

    at : (u.x *ℤ pos p.d) ≤ℤ p.x → p.x <ℤ (v.x *ℤ pos p.d) → cross u v p <ℤ pos 0 → IsMet p (edge_between u v)
    at from to down =
        let l = narrow from to in
        record {
          r = above_of u v p;
          up = record {
            is_first = i;
            is_second = above_of-point u v p l i;
            column = sym (above_of-column u v p);
            rises = higher (cross u v p) ((above_of u v p).y *ℤ pos p.d) (p.y *ℤ pos (above_of u v p).d) down (height l);
          };
          on = above_of-on u v p l i from (weak p.x (v.x *ℤ pos p.d) to);
        }

met : (p : Point) (e : Line) → IsPoint p → edge_above e p ≡ true → IsMet p e
met p e i above =
    ⊎_elim (λ right. met-rightward e.a e.b p i right) (λ left. back (met-rightward e.b e.a p i left)) (or_cases (below_rightward e.a e.b p) (below_rightward e.b e.a p) above)
  where
    back : IsMet p (edge_between e.b e.a) → IsMet p e
    back m = record { r = m.r; up = m.up; on = on_edge-swap e.a e.b m.r ∙ m.on }

-- of edges of which one is above p, the lowest point above it that is on an edge of these or others
pub lowest : (p : Point) (e : Line) (all : List Line) → IsPoint p → edge_above e p ≡ true → ((w : Point) → IsOnEdge e w → list_any (λ f. on_edge f w) all ≡ true)
    → AllByRecursion (λ f. on_edge f p ≡ false) all → Lowest p all all
lowest p e all i above has off =
    let m = met p e i above in
    (descend p m.r all all m.up (has m.r m.on) (λ w h. h) off).0
