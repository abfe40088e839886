-- Edges with two points in common are of one line, so their runs have the same numbers; and each begins before the other ends.
use Rattle.std.proofs.Common.{◌≡◌, refl, ap, sym, ◌∙◌, ℕ, ◌<◌, ◌^◌, ◌-◌, ℤ, pos, ◌+ℤ◌, ◌-ℤ◌, ◌*ℤ◌, ◌≤ℤ◌, ◌<ℤ◌, lit<, arith, Bool, true, false, cond, ◌⊎◌, inl, inr, [], ◌∷◌}
use Rattle.std.specs.Int.{int_div_euclid}
use Rattle.std.specs.Ordering.{int_eq}
use Rattle.std.proofs.lemmas.Bool.{and_from, both_ways, cases_Bool}
use Rattle.std.proofs.lemmas.Int.{ints}
use Rattle.sf_grid.specs.Plane.{Coordinates, IsPoint, IsSamePoint, Point, grid_point}
use Rattle.sf_grid.specs.Edge.{Edge as Line, cross, cross_of_directions, edge_between}
use Rattle.sf_grid.specs.Sharing.{comes_before}
use Rattle.sf_grid.proofs.CallerLemmas.{dif, eq_from_mul, eq_from_test, lies, mul, mul_le, mul_lt, ring, same_point_is_equivalence, shared_once, sum, test_from_eq, var, zero_from_mul}
use Rattle.sf_grid.proofs.LineLaws.{After, Before, between_ends, order_from_before, order_from_not}
use Rattle.sf_plane.specs.Laws.{ShareTwoPoints}
use Rattle.sf_along.specs.Runs.{IsRun, height_of, offset_of, reaches, rise_of, slope_of, width_of}
use Rattle.sf_along.specs.declared.run.Run.{Run}
use Rattle.sf_along.proofs.QuotientLaws.{same_quotient}

-- ---- edges with two common points are of one line
parallel : (e f : Line) → ShareTwoPoints e f → cross_of_directions e f ≡ pos 0
parallel e f h =
    elim (cases_Bool (int_eq (cross_of_directions e f) (pos 0))) [
      | inl t ↦ eq_from_test (cross_of_directions e f) (pos 0) t
      | inr n ↦
          absurd (both_ways _ h.differ
          (shared_once e f h.first h.second (λ z. both_ways _ n (test_from_eq (cross_of_directions e f) (pos 0) z)) h.first_on_both h.second_on_both))
    ]

-- what is known of two edges of one line: a common point, and that they are parallel
record OneLine (u v s t : Coordinates) (p : Point) : Type 0 where
  is_point : IsPoint p
  first_forward : comes_before u v ≡ true
  second_forward : comes_before s t ≡ true
  on_first : cross u v p ≡ pos 0
  on_second : cross s t p ≡ pos 0
  parallel : width_of u v *ℤ rise_of s t -ℤ rise_of u v *ℤ width_of s t ≡ pos 0

-- an edge that isn't upright goes to the right
goes-right : (u v : Coordinates) → comes_before u v ≡ true → int_eq u.x v.x ≡ false → pos 0 <ℤ width_of u v
goes-right u v h n =
    elim (order_from_before u v h) [
      | inl l ↦ omega (arith, ints)
      | inr l ↦ absurd (both_ways _ n (test_from_eq u.x v.x l.0))
    ]

-- an upright one goes up
goes-up : (u v : Coordinates) → comes_before u v ≡ true → int_eq u.x v.x ≡ true → pos 0 <ℤ rise_of u v
goes-up u v h t =
    let same : u.x ≡ v.x = eq_from_test u.x v.x t in
    elim (order_from_before u v h) [
      | inl l ↦ absurd (omega (arith, ints))
      | inr l ↦ let up : u.y <ℤ v.y = l.1 in omega (arith, ints)
    ]

-- so an edge of one line with an upright one is upright
both-upright : (u v s t : Coordinates) (p : Point) → OneLine u v s t p → int_eq u.x v.x ≡ true → int_eq s.x t.x ≡ false → ⊥
both-upright u v s t p h one other =
    no_width (width_of u v) (rise_of u v) (width_of s t) (rise_of s t) (none u v (eq_from_test u.x v.x one)) (goes-up u v h.first_forward one) (goes-right s t h.second_forward other) h.parallel
  where
    none : (u v : Coordinates) → u.x ≡ v.x → width_of u v ≡ pos 0
    none u v e = omega (arith, ints)

    positive : (w z : ℤ) → pos 0 <ℤ w → w ≡ pos 0 → ⊥
    positive w z h e = omega (arith, ints)

    product_zero : (w a b : ℤ) → w ≡ pos 0 → w *ℤ a -ℤ b ≡ pos 0 → b ≡ pos 0
    product_zero w a b e f = omega (arith, ints, ap (λ z. z *ℤ a) e)

    no_width : (w r w' r' : ℤ) → w ≡ pos 0 → pos 0 <ℤ r → pos 0 <ℤ w' → w *ℤ r' -ℤ r *ℤ w' ≡ pos 0 → ⊥
    no_width w r w' r' e h k f = positive w' r k (zero_from_mul r w' h (product_zero w r' (r *ℤ w') e f))

flip : (u v s t : Coordinates) (p : Point) → OneLine u v s t p → OneLine s t u v p
flip u v s t p h = record {
  is_point = h.is_point;
  first_forward = h.second_forward;
  second_forward = h.first_forward;
  on_first = h.on_second;
  on_second = h.on_first;
  parallel = turned (width_of u v) (rise_of u v) (width_of s t) (rise_of s t) h.parallel;
}
  where
    turned : (w r w' r' : ℤ) → w *ℤ r' -ℤ r *ℤ w' ≡ pos 0 → w' *ℤ r -ℤ r' *ℤ w ≡ pos 0
    turned w r w' r' e = omega (arith, ints)

-- ---- the same slope
scaled : (a b c d k : ℤ) → a *ℤ d ≡ b *ℤ c → (a *ℤ k) *ℤ d ≡ (b *ℤ k) *ℤ c
scaled a b c d k e =
    ring (a ∷ d ∷ k ∷ []) (mul (mul (var 0) (var 2)) (var 1)) (mul (var 2) (mul (var 0) (var 1))) refl
    ∙ ap (λ z. k *ℤ z) e
    ∙ ring (b ∷ c ∷ k ∷ []) (mul (var 2) (mul (var 0) (var 1))) (mul (mul (var 0) (var 2)) (var 1)) refl

one-slope : (u v s t : Coordinates) (p : Point) → OneLine u v s t p → slope_of u v ≡ slope_of s t
one-slope u v s t p h = by_tests (int_eq u.x v.x) refl (int_eq s.x t.x) refl
  where
    crossed : (w r w' r' : ℤ) → w *ℤ r' -ℤ r *ℤ w' ≡ pos 0 → r *ℤ w' ≡ r' *ℤ w
    crossed w r w' r' e = omega (arith, ints)

    by_tests : (m : Bool) → int_eq u.x v.x ≡ m → (n : Bool) → int_eq s.x t.x ≡ n →
        cond m (pos (2 ^ 63 - 1)) (int_div_euclid (rise_of u v *ℤ pos (2 ^ 31)) (width_of u v))
        ≡ cond n (pos (2 ^ 63 - 1)) (int_div_euclid (rise_of s t *ℤ pos (2 ^ 31)) (width_of s t))
    by_tests true e true f = refl
    by_tests true e false f = absurd (both-upright u v s t p h e f)
    by_tests false e true f = absurd (both-upright s t u v p (flip u v s t p h) f e)
    by_tests false e false f =
        same_quotient (rise_of u v *ℤ pos (2 ^ 31)) (rise_of s t *ℤ pos (2 ^ 31)) (width_of u v) (width_of s t)
        (goes-right u v h.first_forward e)
        (goes-right s t h.second_forward f)
        (scaled (rise_of u v) (rise_of s t) (width_of u v) (width_of s t) (pos (2 ^ 31)) (crossed (width_of u v) (rise_of u v) (width_of s t) (rise_of s t) h.parallel))

-- ---- the same height
-- offsets are as the widths
offsets : (w r w' r' ux uy sx sy px py d : ℤ) → pos 0 <ℤ d → w *ℤ (py -ℤ uy *ℤ d) -ℤ r *ℤ (px -ℤ ux *ℤ d) ≡ pos 0 →
    w' *ℤ (py -ℤ sy *ℤ d) -ℤ r' *ℤ (px -ℤ sx *ℤ d) ≡ pos 0 → w *ℤ r' -ℤ r *ℤ w' ≡ pos 0 → (uy *ℤ w -ℤ ux *ℤ r) *ℤ w' ≡ (sy *ℤ w' -ℤ sx *ℤ r') *ℤ w
offsets w r w' r' ux uy sx sy px py d h e f g =
    equal ((uy *ℤ w -ℤ ux *ℤ r) *ℤ w') ((sy *ℤ w' -ℤ sx *ℤ r') *ℤ w)
    (zero_from_mul d ((uy *ℤ w -ℤ ux *ℤ r) *ℤ w' -ℤ (sy *ℤ w' -ℤ sx *ℤ r') *ℤ w) h
    (ring (w ∷ r ∷ w' ∷ r' ∷ ux ∷ uy ∷ sx ∷ sy ∷ px ∷ py ∷ d ∷ [])
    (mul (var 10) (dif (mul (dif (mul (var 5) (var 0)) (mul (var 4) (var 1))) (var 2)) (mul (dif (mul (var 7) (var 2)) (mul (var 6) (var 3))) (var 0))))
    (sum
    (dif
    (mul (var 0) (dif (mul (var 2) (dif (var 9) (mul (var 7) (var 10)))) (mul (var 3) (dif (var 8) (mul (var 6) (var 10))))))
    (mul (var 2) (dif (mul (var 0) (dif (var 9) (mul (var 5) (var 10)))) (mul (var 1) (dif (var 8) (mul (var 4) (var 10)))))))
    (mul (var 8) (dif (mul (var 0) (var 3)) (mul (var 1) (var 2)))))
    refl
    ∙ vanish w w' px (w' *ℤ (py -ℤ sy *ℤ d) -ℤ r' *ℤ (px -ℤ sx *ℤ d)) (w *ℤ (py -ℤ uy *ℤ d) -ℤ r *ℤ (px -ℤ ux *ℤ d)) (w *ℤ r' -ℤ r *ℤ w') f e g))
  where
    equal : (a b : ℤ) → a -ℤ b ≡ pos 0 → a ≡ b
    equal a b k = omega (arith, ints)

    none : (a b c : ℤ) → a *ℤ pos 0 -ℤ b *ℤ pos 0 +ℤ c *ℤ pos 0 ≡ pos 0
    none a b c = omega (arith, ints)

    vanish : (a b c x y z : ℤ) → x ≡ pos 0 → y ≡ pos 0 → z ≡ pos 0 → a *ℤ x -ℤ b *ℤ y +ℤ c *ℤ z ≡ pos 0
    vanish a b c x y z i j k = rw (i, j, k) (none a b c)

-- an upright line has its x at each of its points
upright-x : (u v : Coordinates) (p : Point) → comes_before u v ≡ true → int_eq u.x v.x ≡ true → cross u v p ≡ pos 0 → p.x ≡ u.x *ℤ pos p.d
upright-x u v p h t e =
    equal p.x (u.x *ℤ pos p.d)
    (zero_from_mul (rise_of u v) (p.x -ℤ u.x *ℤ pos p.d) (goes-up u v h t)
    (no_width (width_of u v) (p.y -ℤ u.y *ℤ pos p.d) (rise_of u v *ℤ (p.x -ℤ u.x *ℤ pos p.d)) (none u v (eq_from_test u.x v.x t)) e))
  where
    equal : (a b : ℤ) → a -ℤ b ≡ pos 0 → a ≡ b
    equal a b k = omega (arith, ints)

    none : (u v : Coordinates) → u.x ≡ v.x → width_of u v ≡ pos 0
    none u v k = omega (arith, ints)

    no_width : (w a b : ℤ) → w ≡ pos 0 → w *ℤ a -ℤ b ≡ pos 0 → b ≡ pos 0
    no_width w a b k l = omega (arith, ints, ap (λ z. z *ℤ a) k)

one-height : (u v s t : Coordinates) (p : Point) → OneLine u v s t p → height_of u v ≡ height_of s t
one-height u v s t p h = by_tests (int_eq u.x v.x) refl (int_eq s.x t.x) refl
  where
    positive : (d : ℕ) → 0 < d → pos 0 <ℤ pos d
    positive d k = omega (arith, ints)

    by_tests : (m : Bool) → int_eq u.x v.x ≡ m → (n : Bool) → int_eq s.x t.x ≡ n →
        cond m u.x (int_div_euclid (offset_of u v *ℤ pos 2) (width_of u v))
        ≡ cond n s.x (int_div_euclid (offset_of s t *ℤ pos 2) (width_of s t))
    by_tests true e true f =
        eq_from_mul u.x s.x p.d h.is_point.positive (sym (upright-x u v p h.first_forward e h.on_first) ∙ upright-x s t p h.second_forward f h.on_second)
    by_tests true e false f = absurd (both-upright u v s t p h e f)
    by_tests false e true f = absurd (both-upright s t u v p (flip u v s t p h) f e)
    by_tests false e false f =
        same_quotient (offset_of u v *ℤ pos 2) (offset_of s t *ℤ pos 2) (width_of u v) (width_of s t)
        (goes-right u v h.first_forward e)
        (goes-right s t h.second_forward f)
        (scaled (offset_of u v) (offset_of s t) (width_of u v) (width_of s t) (pos 2)
        (offsets (width_of u v) (rise_of u v) (width_of s t) (rise_of s t) u.x u.y s.x s.y p.x p.y (pos p.d) (positive p.d h.is_point.positive) h.on_first h.on_second h.parallel))

-- ---- each begins before the other ends
-- a point that isn't before s nor after v, where v isn't after s, is s
pinned : (v s : Coordinates) (p : Point) → IsPoint p → (v.x <ℤ s.x) ⊎ ((v.x ≡ s.x) × (v.y ≤ℤ s.y)) → After s p → Before v p → IsSamePoint p (grid_point s)
pinned v s p o (inl l) after before =
    let k : (v.x *ℤ pos p.d) <ℤ (s.x *ℤ pos p.d) = mul_lt v.x s.x p.d o.positive l in
    elim after [
      | inl i ↦ elim before [ inl j ↦ absurd (omega (arith, ints)) | inr j ↦ let e : p.x ≡ (v.x *ℤ pos p.d) = j.0 in absurd (omega (arith, ints)) ]
      | inr i ↦
          let f : (s.x *ℤ pos p.d) ≡ p.x = i.0 in
          elim before [ inl j ↦ absurd (omega (arith, ints)) | inr j ↦ let e : p.x ≡ (v.x *ℤ pos p.d) = j.0 in absurd (omega (arith, ints)) ]
    ]
pinned v s p o (inr l) after before =
    let k : v.x *ℤ pos p.d ≡ s.x *ℤ pos p.d = ap (λ z. z *ℤ pos p.d) l.0 in
    let m : (v.y *ℤ pos p.d) ≤ℤ (s.y *ℤ pos p.d) = mul_le v.y s.y p.d l.1 in
    elim after [
      | inl i ↦ elim before [ inl j ↦ absurd (omega (arith, ints)) | inr j ↦ let e : p.x ≡ (v.x *ℤ pos p.d) = j.0 in absurd (omega (arith, ints)) ]
      | inr i ↦
          let f : (s.x *ℤ pos p.d) ≡ p.x = i.0 in
          let g : (s.y *ℤ pos p.d) ≤ℤ p.y = i.1 in
          elim before [
            | inl j ↦ absurd (omega (arith, ints))
            | inr j ↦
                let e : p.y ≤ℤ (v.y *ℤ pos p.d) = j.1 in
                and_from _ _ (test_from_eq (p.x *ℤ pos 1) (s.x *ℤ pos p.d) (omega (arith, ints))) (test_from_eq (p.y *ℤ pos 1) (s.y *ℤ pos p.d) (omega (arith, ints)))
          ]
    ]

begins-before : (u v s t : Coordinates) → comes_before u v ≡ true → comes_before s t ≡ true → ShareTwoPoints (edge_between u v) (edge_between s t) → comes_before s v ≡ true
begins-before u v s t h k share =
    elim (cases_Bool (comes_before s v)) [
      | inl b ↦ b
      | inr n ↦
          absurd (both_ways _ share.differ
          (same_point_is_equivalence.transitive share.first (grid_point s) share.second (record { positive = lit< tt })
          (pinned v s share.first share.is_first (order_from_not v s n)
          (between_ends s t share.first k share.first_on_both.1).0
          (between_ends u v share.first h share.first_on_both.0).1)
          (same_point_is_equivalence.symmetric share.second (grid_point s)
          (pinned v s share.second share.is_second (order_from_not v s n)
          (between_ends s t share.second k share.second_on_both.1).0
          (between_ends u v share.second h share.second_on_both.0).1))))
    ]

-- ---- so the one run reaches the other
pub reached : (r s : Run) → IsRun r → IsRun s → ShareTwoPoints (edge_between r.left r.right) (edge_between s.left s.right) → reaches r s ≡ true
reached r s h k share =
    let line : OneLine r.left r.right s.left s.right share.first = record {
      is_point = share.is_first;
      first_forward = h.forward;
      second_forward = k.forward;
      on_first = (lies (edge_between r.left r.right) share.first share.first_on_both.0).line;
      on_second = (lies (edge_between s.left s.right) share.first share.first_on_both.1).line;
      parallel = parallel (edge_between r.left r.right) (edge_between s.left s.right) share;
    } in
    and_from _ _
    (and_from _ _
    (test_from_eq r.slope s.slope (h.slope ∙ one-slope r.left r.right s.left s.right share.first line ∙ sym k.slope))
    (test_from_eq r.height s.height (h.height ∙ one-height r.left r.right s.left s.right share.first line ∙ sym k.height)))
    (begins-before r.left r.right s.left s.right h.forward k.forward share)
