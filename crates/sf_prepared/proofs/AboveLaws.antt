-- The edges above a point of a box are among those whose boxes are in the columns over it, from its lower side up.
use Rattle.std.proofs.Common.{◌≡◌, ◌∙◌, ap, sym, ℕ, ◌<◌, arith, refl, ℤ, pos, ◌+ℤ◌, ◌-ℤ◌, ◌*ℤ◌, ◌<ℤ◌, ◌≤ℤ◌, Bool, true, ◌&&◌, [], ◌∷◌, inl, inr}
use Rattle.std.specs.Prelude.{◌^◌, ◌-◌, int_le, int_lt}
use Rattle.std.specs.Int.{int_max, int_min}
use Rattle.std.proofs.lemmas.Bool.{and_from, and_parts, or_cases}
use Rattle.std.proofs.lemmas.Int.{by_lt_z, clamps, ints}
use Rattle.sf_grid.specs.Bounds.{grid_max}
use Rattle.sf_grid.specs.Plane.{Coordinates, IsOnGrid, IsPoint, Point, grid_point, x_of, y_of}
use Rattle.sf_grid.specs.Edge.{below_rightward, cross, edge_above, within}
use Rattle.sf_grid.proofs.CallerLemmas.{dif, le_from_mul, le_from_test, lt_from_mul, lt_from_test, mul, mul_lt, mul_nonneg-nonneg, mul_pos-pos, ring, sum, test_from_le, var}
use Rattle.sf_grid.proofs.ColumnLaws.{times-one}
use Rattle.sf_geometry.specs.declared.extent.Extent.{Extent}
use Rattle.sf_geometry.specs.Envelope.{extent_at, extents_meet}
use Rattle.sf_geometry.specs.Parts.{edge_of}
use Rattle.sf_relate.specs.Contact.{in_extent}
use Rattle.sf_edge_tree.specs.Meeting.{extent_of_edge}
use Rattle.sf_prepared.specs.Boxes.{AreOnGrid}
use Rattle.sf_prepared.specs.Nearby.{columns_over}

-- ---- the sides of a box with a point
pub record IsBoxed (e : Extent) (q : Point) : Type 0 where
  pub left : (e.min_x *ℤ pos q.d) ≤ℤ q.x
  pub right : q.x ≤ℤ (e.max_x *ℤ pos q.d)
  pub bottom : (e.min_y *ℤ pos q.d) ≤ℤ q.y
  pub top : q.y ≤ℤ (e.max_y *ℤ pos q.d)

pub boxed-sides : (e : Extent) (q : Point) → in_extent e q ≡ true → IsBoxed e q
boxed-sides e q h =
    let parts = and_parts (within e.min_x e.max_x (x_of q)) (within e.min_y e.max_y (y_of q)) h in
    let x = and_parts (int_le (e.min_x *ℤ pos q.d) q.x) (int_le q.x (e.max_x *ℤ pos q.d)) parts.0 in
    let y = and_parts (int_le (e.min_y *ℤ pos q.d) q.y) (int_le q.y (e.max_y *ℤ pos q.d)) parts.1 in
    record { left = le_from_test _ _ x.0; right = le_from_test _ _ x.1; bottom = le_from_test _ _ y.0; top = le_from_test _ _ y.1 }

pub boxed-from : (e : Extent) (q : Point) → IsBoxed e q → in_extent e q ≡ true
boxed-from e q b =
    and_from (within e.min_x e.max_x (x_of q)) (within e.min_y e.max_y (y_of q))
    (and_from (int_le (e.min_x *ℤ pos q.d) q.x) (int_le q.x (e.max_x *ℤ pos q.d)) (test_from_le _ _ b.left) (test_from_le _ _ b.right))
    (and_from (int_le (e.min_y *ℤ pos q.d) q.y) (int_le q.y (e.max_y *ℤ pos q.d)) (test_from_le _ _ b.bottom) (test_from_le _ _ b.top))

-- a grid point is in a box just where the two meet
pub meets-at : (p : Coordinates) (e : Extent) → extents_meet (extent_at p) e ≡ in_extent e (grid_point p)
meets-at p e =
    ap (λ b. b && int_le (int_max p.y e.min_y) (int_min p.y e.max_y)) (between e.min_x e.max_x p.x)
    ∙ ap (λ b. within e.min_x e.max_x (x_of (grid_point p)) && b) (between e.min_y e.max_y p.y)
  where
    one : (m n z : ℤ) → int_le (int_max z m) (int_min z n) ≡ (int_le m z && int_le z n)
    one m n z = grind (arith, ints)

    between : (m n z : ℤ) → int_le (int_max z m) (int_min z n) ≡ (int_le (m *ℤ pos 1) z && int_le z (n *ℤ pos 1))
    between m n z =
        one m n z
        ∙ ap (λ k. int_le k z && int_le z n) (sym (times-one m))
        ∙ ap (λ k. int_le (m *ℤ pos 1) z && int_le z k) (sym (times-one n))

-- ---- the box of an edge above a point of a box is in the columns over it
-- the side of a point is a mean of how far it is above the ends
side_mean : (u v : Coordinates) (q : Point) →
    cross u v q *ℤ pos q.d
    ≡ (q.x -ℤ u.x *ℤ pos q.d) *ℤ (q.y -ℤ v.y *ℤ pos q.d) +ℤ (v.x *ℤ pos q.d -ℤ q.x) *ℤ (q.y -ℤ u.y *ℤ pos q.d)
side_mean u v q =
    ring (u.x ∷ u.y ∷ v.x ∷ v.y ∷ q.x ∷ q.y ∷ pos q.d ∷ [])
    (mul (dif (mul (dif (var 2) (var 0)) (dif (var 5) (mul (var 1) (var 6)))) (mul (dif (var 3) (var 1)) (dif (var 4) (mul (var 0) (var 6))))) (var 6))
    (sum
    (mul (dif (var 4) (mul (var 0) (var 6))) (dif (var 5) (mul (var 3) (var 6))))
    (mul (dif (mul (var 2) (var 6)) (var 4)) (dif (var 5) (mul (var 1) (var 6)))))
    refl

-- a point above both ends is not below the edge
over-both : (u v : Coordinates) (q : Point) → IsPoint q → (u.x *ℤ pos q.d) ≤ℤ q.x → q.x <ℤ (v.x *ℤ pos q.d) → (u.y *ℤ pos q.d) <ℤ q.y → (v.y *ℤ pos q.d) <ℤ q.y →
    cross u v q <ℤ pos 0 → ⊥
over-both u v q i l r h k c =
    let s = mul_nonneg-nonneg (q.x -ℤ u.x *ℤ pos q.d) (q.y -ℤ v.y *ℤ pos q.d) (omega (arith, ints)) (omega (arith, ints)) in
    let t = mul_pos-pos (v.x *ℤ pos q.d -ℤ q.x) (q.y -ℤ u.y *ℤ pos q.d) (omega (arith, ints)) (omega (arith, ints)) in
    clash (cross u v q) (lt_from_mul (pos 0) (cross u v q) q.d (positive (cross u v q *ℤ pos q.d) _ _ (side_mean u v q) s t)) c
  where
    positive : (z s t : ℤ) → z ≡ s +ℤ t → pos 0 ≤ℤ s → pos 0 <ℤ t → (pos 0 *ℤ pos q.d) <ℤ z
    positive z s t e f g = omega (arith, ints)

    clash : (z : ℤ) → pos 0 <ℤ z → z <ℤ pos 0 → ⊥
    clash z f g = absurd (omega (arith, ints))

-- two ranges of one coordinate meet
abbrev ranges_meet : ℤ → ℤ → ℤ → ℤ → Bool
ranges_meet a b low high = int_le (int_max (int_min a b) low) (int_min (int_max a b) high)

-- a place that an edge passes over and a box has
columns-meet : (a b low high z : ℤ) (d : ℕ) → 0 < d → (a *ℤ pos d) ≤ℤ z → z <ℤ (b *ℤ pos d) → (low *ℤ pos d) ≤ℤ z → z ≤ℤ (high *ℤ pos d) → ranges_meet a b low high ≡ true
columns-meet a b low high z d p f g h k =
    test_from_le (int_max (int_min a b) low) (int_min (int_max a b) high)
    (below (lt_from_mul a b d (before (a *ℤ pos d) (b *ℤ pos d) f g)) (le_from_mul a high d p (upto (a *ℤ pos d) (high *ℤ pos d) f k))
    (lt_from_mul low b d (before (low *ℤ pos d) (b *ℤ pos d) h g)) (le_from_mul low high d p (upto (low *ℤ pos d) (high *ℤ pos d) h k)))
  where
    before : (m n : ℤ) → m ≤ℤ z → z <ℤ n → m <ℤ n
    before m n s t = omega (arith, ints)

    upto : (m n : ℤ) → m ≤ℤ z → z ≤ℤ n → m ≤ℤ n
    upto m n s t = omega (arith, ints)

    below : a <ℤ b → a ≤ℤ high → low <ℤ b → low ≤ℤ high → int_max (int_min a b) low ≤ℤ int_min (int_max a b) high
    below s t u v = omega (arith, ints, clamps)

heights-meet : (a b low top : ℤ) → (a <ℤ low → b <ℤ low → ⊥) → a ≤ℤ top → b ≤ℤ top → ranges_meet a b low top ≡ true
heights-meet a b low top not_under f g =
    test_from_le (int_max (int_min a b) low) (int_min (int_max a b) top)
    (by_lt_z a low (λ l. by_lt_z b low (λ m. absurd (not_under l m)) (λ m. omega (arith, ints, clamps))) (λ l. omega (arith, ints, clamps)))

turned : (a b low high : ℤ) → ranges_meet a b low high ≡ true → ranges_meet b a low high ≡ true
turned a b low high h =
    let l = le_from_test (int_max (int_min a b) low) (int_min (int_max a b) high) h in
    test_from_le (int_max (int_min b a) low) (int_min (int_max b a) high) (omega (arith, ints, clamps))

rightward-meets : (u v : Coordinates) (q : Point) (extent : Extent) → IsOnGrid u → IsOnGrid v → IsPoint q → in_extent extent q ≡ true → below_rightward u v q ≡ true →
    (ranges_meet u.x v.x extent.min_x extent.max_x ≡ true) × (ranges_meet u.y v.y extent.min_y (pos (2 ^ 31 - 1)) ≡ true)
rightward-meets u v q extent i j k inside h =
    let parts = and_parts (int_le (u.x *ℤ pos q.d) q.x && int_lt q.x (v.x *ℤ pos q.d)) (int_lt (cross u v q) (pos 0)) h in
    let columns = and_parts (int_le (u.x *ℤ pos q.d) q.x) (int_lt q.x (v.x *ℤ pos q.d)) parts.0 in
    let low = le_from_test (u.x *ℤ pos q.d) q.x columns.0 in
    let high = lt_from_test q.x (v.x *ℤ pos q.d) columns.1 in
    let side = lt_from_test (cross u v q) (pos 0) parts.1 in
    let b = boxed-sides extent q inside in (
      columns-meet u.x v.x extent.min_x extent.max_x q.x q.d k.positive low high b.left b.right,
      heights-meet u.y v.y extent.min_y (pos (2 ^ 31 - 1))
          (λ f g. over-both u v q k low high
          (before (u.y *ℤ pos q.d) (extent.min_y *ℤ pos q.d) (mul_lt u.y extent.min_y q.d k.positive f) b.bottom)
          (before (v.y *ℤ pos q.d) (extent.min_y *ℤ pos q.d) (mul_lt v.y extent.min_y q.d k.positive g) b.bottom)
          side)
          (small u.y i.1.1) (small v.y j.1.1),
    )
  where
    before : (m n : ℤ) → m <ℤ n → n ≤ℤ q.y → m <ℤ q.y
    before m n s t = omega (arith, ints)

    small : (z : ℤ) → z ≤ℤ grid_max → z ≤ℤ pos (2 ^ 31 - 1)
    small z f = omega (arith, ints)

pub above-meets : (pair : Coordinates × Coordinates) (q : Point) (extent : Extent) → AreOnGrid pair → IsPoint q → in_extent extent q ≡ true → edge_above (edge_of pair) q ≡ true →
    extents_meet (extent_of_edge pair) (columns_over extent) ≡ true
above-meets pair q extent i k inside h =
    elim (or_cases (below_rightward pair.0 pair.1 q) (below_rightward pair.1 pair.0 q) h) [
      | inl forth ↦ let m = rightward-meets pair.0 pair.1 q extent i.0 i.1 k inside forth in and_from _ _ m.0 m.1
      | inr back ↦
          let m = rightward-meets pair.1 pair.0 q extent i.1 i.0 k inside back in
          and_from _ _ (turned pair.1.x pair.0.x extent.min_x extent.max_x m.0) (turned pair.1.y pair.0.y extent.min_y (pos (2 ^ 31 - 1)) m.1)
    ]

-- a point of the grid is in its own box
pub own-box : (p : Coordinates) → in_extent (extent_at p) (grid_point p) ≡ true
own-box p =
    boxed-from (extent_at p) (grid_point p) (record { left = omega (arith, ints); right = omega (arith, ints); bottom = omega (arith, ints); top = omega (arith, ints) })
