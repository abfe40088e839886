-- An edge has no point of a box that lies on one side of it; where each of some edges has none, the box is clear of them.
use Rattle.std.proofs.Common.{◌≡◌, ℕ, ◌+◌, ◌<◌, ◌≤◌, arith, refl, ap, sym, ◌∙◌, subst, get_or, ℤ, pos, ◌+ℤ◌, ◌-ℤ◌, ◌*ℤ◌, ◌<ℤ◌, ◌≤ℤ◌, true, List, [], ◌∷◌, drop, length, map}
use Rattle.std.specs.Prelude.{int_lt}
use Rattle.std.specs.declared.cmp.Ordering.{Ordering}
use Rattle.std.specs.declared.cmp.Ordering.TheVariants.{Equal, Greater, Less}
use Rattle.std.proofs.lemmas.Int.{by_lt_z, ints}
use Rattle.std.proofs.lemmas.List.{drop_all, drop_more}
use Rattle.sf_grid.specs.Plane.{Coordinates, IsPoint, Point, grid_point}
use Rattle.sf_grid.specs.Edge.{cross, edge_between}
use Rattle.sf_grid.specs.Sharing.{turn_by, turn_of}
use Rattle.sf_grid.specs.declared.turn.Turn.{Turn}
use Rattle.sf_grid.specs.declared.turn.Turn.TheVariants.{Left}
use Rattle.sf_grid.proofs.CallerLemmas.{dif, lies, lt_from_test, mul, mul_nonneg-nonneg, mul_pos, num, ring, sum, test_from_lt, var}
use Rattle.sf_grid.proofs.OrderLaws.{less_is}
use Rattle.sf_geometry.specs.declared.extent.Extent.{Extent}
use Rattle.sf_geometry.specs.Parts.{edge_of}
use Rattle.sf_interiors.specs.Paths.{IsOffBox}
use Rattle.sf_plane.specs.Boxes.{in_box}
use Rattle.sf_validity.specs.Beside.{box_of_extent}
use Rattle.sf_prepared.specs.Places.{AreClear, IsBoxLeft, IsLeft}
use Rattle.sf_prepared.proofs.AboveLaws.{boxed-sides}

-- ---- on one side
-- to the left of a way is what the turn to it says
less-from : (o : Ordering) → turn_by o ≡ Left → o ≡ Less
less-from Less h = refl
less-from Equal h = cc
less-from Greater h = cc

pub corner-left : (a b corner : Coordinates) (x y : ℤ) (turn : Turn) → corner ≡ record { x = x; y = y } → turn ≡ turn_of a b corner → turn ≡ Left → IsLeft a b x y
corner-left a b corner x y turn at is left =
    subst (λ (p : Coordinates). int_lt (pos 0) (cross a b (grid_point p)) ≡ true) at
    (test_from_lt (pos 0) (cross a b (grid_point corner)) (less_is (pos 0) (cross a b (grid_point corner)) (less-from _ (sym is ∙ left))))

-- the side of a point, by that of a corner
from-corner : (a b : Coordinates) (p : Point) (x y : ℤ) →
    cross a b p ≡ cross a b (grid_point (record { x = x; y = y })) *ℤ pos p.d +ℤ ((b.x -ℤ a.x) *ℤ (p.y -ℤ y *ℤ pos p.d) +ℤ (a.y -ℤ b.y) *ℤ (p.x -ℤ x *ℤ pos p.d))
from-corner a b p x y =
    ring (a.x ∷ a.y ∷ b.x ∷ b.y ∷ p.x ∷ p.y ∷ pos p.d ∷ x ∷ y ∷ [])
    (dif (mul (dif (var 2) (var 0)) (dif (var 5) (mul (var 1) (var 6)))) (mul (dif (var 3) (var 1)) (dif (var 4) (mul (var 0) (var 6)))))
    (sum
    (mul (dif (mul (dif (var 2) (var 0)) (dif (var 8) (mul (var 1) (num (pos 1))))) (mul (dif (var 3) (var 1)) (dif (var 7) (mul (var 0) (num (pos 1)))))) (var 6))
    (sum (mul (dif (var 2) (var 0)) (dif (var 5) (mul (var 8) (var 6)))) (mul (dif (var 1) (var 3)) (dif (var 4) (mul (var 7) (var 6))))))
    refl

beyond-corner : (a b : Coordinates) (p : Point) (x y : ℤ) → IsPoint p → IsLeft a b x y → pos 0 ≤ℤ ((b.x -ℤ a.x) *ℤ (p.y -ℤ y *ℤ pos p.d)) → pos 0 ≤ℤ ((a.y -ℤ b.y) *ℤ (p.x -ℤ x *ℤ pos p.d)) → pos 0 <ℤ cross a b p
beyond-corner a b p x y i h s t =
    sum_of (cross a b p) _ _ _ (from-corner a b p x y) (mul_pos (cross a b (grid_point (record { x = x; y = y }))) p.d i.positive (lt_from_test (pos 0) (cross a b (grid_point (record { x = x; y = y }))) h)) s t
  where
    sum_of : (z k m n : ℤ) → z ≡ k +ℤ (m +ℤ n) → pos 0 <ℤ k → pos 0 ≤ℤ m → pos 0 ≤ℤ n → pos 0 <ℤ z
    sum_of z k m n e f g h' = omega (arith, ints)

-- the product by the least or by the greatest of a range is not negative, whichever sign the factor has
record Ranged (low high z r : ℤ) : Type 0 where
  at_low : pos 0 ≤ℤ r → pos 0 ≤ℤ (r *ℤ (z -ℤ low))
  at_high : r <ℤ pos 0 → pos 0 ≤ℤ (r *ℤ (z -ℤ high))

ranged : (low high z r : ℤ) → low ≤ℤ z → z ≤ℤ high → Ranged low high z r
ranged low high z r f g =
    record {
      at_low = λ h. mul_nonneg-nonneg r (z -ℤ low) h (up low z f);
      at_high = λ h. turned (mul_nonneg-nonneg (pos 0 -ℤ r) (high -ℤ z) (away r h) (up z high g));
    }
  where
    up : (m n : ℤ) → m ≤ℤ n → pos 0 ≤ℤ (n -ℤ m)
    up m n h = omega (arith, ints)

    away : (m : ℤ) → m <ℤ pos 0 → pos 0 ≤ℤ (pos 0 -ℤ m)
    away m h = omega (arith, ints)

    turned : pos 0 ≤ℤ ((pos 0 -ℤ r) *ℤ (high -ℤ z)) → pos 0 ≤ℤ (r *ℤ (z -ℤ high))
    turned h = subst (λ k. pos 0 ≤ℤ k) (ring (r ∷ high ∷ z ∷ []) (mul (dif (num (pos 0)) (var 0)) (dif (var 1) (var 2))) (mul (var 0) (dif (var 2) (var 1))) refl) h

left-of-way : (a b : Coordinates) (extent : Extent) (p : Point) → IsPoint p → IsBoxLeft a b extent → in_box (box_of_extent extent) p ≡ true → pos 0 <ℤ cross a b p
left-of-way a b extent p i h inside =
    let sides = boxed-sides extent p inside in
    let across = ranged (extent.min_x *ℤ pos p.d) (extent.max_x *ℤ pos p.d) p.x (a.y -ℤ b.y) sides.left sides.right in
    let up = ranged (extent.min_y *ℤ pos p.d) (extent.max_y *ℤ pos p.d) p.y (b.x -ℤ a.x) sides.bottom sides.top in
    by_lt_z (b.x -ℤ a.x) (pos 0)
    (λ back. by_lt_z (a.y -ℤ b.y) (pos 0)
    (λ rise. beyond-corner a b p extent.max_x extent.max_y i h.1.1 (up.at_high back) (across.at_high rise))
    (λ fall. beyond-corner a b p extent.min_x extent.max_y i h.0.1 (up.at_high back) (across.at_low fall)))
    (λ on. by_lt_z (a.y -ℤ b.y) (pos 0)
    (λ rise. beyond-corner a b p extent.max_x extent.min_y i h.1.0 (up.at_low on) (across.at_high rise))
    (λ fall. beyond-corner a b p extent.min_x extent.min_y i h.0.0 (up.at_low on) (across.at_low fall)))

no-zero : (z : ℤ) → pos 0 <ℤ z → z ≡ pos 0 → ⊥
no-zero z h e = absurd (omega (arith, ints))

pub misses-left : (a b : Coordinates) (extent : Extent) → IsBoxLeft a b extent → IsOffBox (box_of_extent extent) (edge_between a b)
misses-left a b extent h p i inside on = no-zero (cross a b p) (left-of-way a b extent p i h inside) (lies (edge_between a b) p on).line

pub misses-right : (a b : Coordinates) (extent : Extent) → IsBoxLeft b a extent → IsOffBox (box_of_extent extent) (edge_between a b)
misses-right a b extent h p i inside on =
    no-zero (cross b a p) (left-of-way b a extent p i h inside) (back (cross a b p) (cross b a p) turned (lies (edge_between a b) p on).line)
  where
    turned : cross b a p ≡ pos 0 -ℤ cross a b p
    turned =
        ring (a.x ∷ a.y ∷ b.x ∷ b.y ∷ p.x ∷ p.y ∷ pos p.d ∷ [])
        (dif (mul (dif (var 0) (var 2)) (dif (var 5) (mul (var 3) (var 6)))) (mul (dif (var 1) (var 3)) (dif (var 4) (mul (var 2) (var 6)))))
        (dif (num (pos 0)) (dif (mul (dif (var 2) (var 0)) (dif (var 5) (mul (var 1) (var 6)))) (mul (dif (var 3) (var 1)) (dif (var 4) (mul (var 0) (var 6))))))
        refl

    back : (z w : ℤ) → w ≡ pos 0 -ℤ z → z ≡ pos 0 → w ≡ pos 0
    back z w e f = omega (arith, ints)

-- ---- one edge after another
pub missed-next : (extent : Extent) (pairs : List (Coordinates × Coordinates)) (index : ℕ) (pair : Coordinates × Coordinates) → index < length pairs → pair ≡ get_or pairs index pair →
    IsOffBox (box_of_extent extent) (edge_of pair) → (AreClear extent (map edge_of (drop index pairs)) → AreClear extent (map edge_of pairs)) → AreClear extent (map edge_of (drop (index + 1) pairs)) → AreClear extent (map edge_of pairs)
missed-next extent pairs index pair l at off all rest =
    all (subst (λ ps. AreClear extent (map edge_of ps)) (sym (drop_more pairs index pair l ∙ ap (λ p. p ∷ drop (index + 1) pairs) (sym at))) (off, rest))

pub missed-end : (extent : Extent) (pairs : List (Coordinates × Coordinates)) (index : ℕ) → length pairs ≤ index → (AreClear extent (map edge_of (drop index pairs)) → AreClear extent (map edge_of pairs)) → AreClear extent (map edge_of pairs)
missed-end extent pairs index l all = all (subst (λ ps. AreClear extent (map edge_of ps)) (sym (drop_all index pairs l)) tt)
