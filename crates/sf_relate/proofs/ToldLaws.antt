-- Matrices without a walk: of geometries that share no point, of one in another one's interior, and of one with itself.
use Rattle.std.proofs.Common.{◌≡◌, ℕ, lit<, arith, refl, ap, sym, ◌∙◌, subst, ℤ, pos, ◌+ℤ◌, ◌-ℤ◌, ◌*ℤ◌, ◌<ℤ◌, ◌≤ℤ◌, Bool, true, false, ◌&&◌, ◌||◌, not, List, [], ◌∷◌, ◌++◌}
use Rattle.std.specs.Prelude.{if◌then◌else◌}
use Rattle.std.specs.List.{flat_map, list_any}
use Rattle.std.specs.Int.{int_max}
use Rattle.std.proofs.lemmas.Bool.{and_from, and_parts, both_ways, false_from_ne_true, or_left, or_parts, or_right}
use Rattle.std.proofs.lemmas.Int.{clamps, ints}
use Rattle.sf_grid.specs.Fraction.{whole}
use Rattle.sf_grid.specs.Plane.{Coordinates, IsPoint, Point as PlanePoint, grid_point}
use Rattle.sf_grid.proofs.CallerLemmas.{dif, le_from_test, mul, mul_le, num, ring, sum, var}
use Rattle.sf_geometry.specs.declared.extent.Extent.{Extent}
use Rattle.sf_geometry.specs.declared.geometry.Geometry.{Geometry}
use Rattle.sf_geometry.specs.declared.geometry.Geometry.TheVariants.{MultiLineString}
use Rattle.sf_geometry.specs.Envelope.{envelope_of, extents_meet}
use Rattle.sf_geometry.specs.Lists.{ends_of}
use Rattle.sf_geometry.specs.PointSets.{in_boundary, in_exterior, in_interior}
use Rattle.sf_interiors.specs.Dimensions.{boundary_dim, interior_dim}
use Rattle.sf_interiors.proofs.ApartLaws.{interior_is_apart}
use Rattle.sf_interiors.proofs.DimensionLaws.{boundary_has_dimension, interior_has_dimension}
use Rattle.sf_plane.specs.declared.dim.Dim.{Dim}
use Rattle.sf_plane.specs.declared.dim.Dim.TheVariants.{Nothing, One, Two, Zero}
use Rattle.sf_plane.specs.Dimension.{HasDimension, HasPoint, HasSegment, HasTriangle, PointSet, area}
use Rattle.sf_plane.proofs.BoxLaws.{common_point_meets}
use Rattle.sf_plane.proofs.FormLaws.{Form, inside_in, value}
use Rattle.sf_plane.proofs.GuardLaws.{right_of, value-right_of}
use Rattle.sf_valid_rules.specs.Validity.{IsValid}
use Rattle.sf_validity.specs.Beside.{box_of_extent}
use Rattle.sf_relate.specs.Contact.{SharePoint, is_in}
use Rattle.sf_relate.specs.Matrices.{IsMatrix, both, matrix_of}
use Rattle.sf_relate.specs.ByKinds.{AlikeIsDecided, ApartIsDecided, IsDecidedBy, IsWithin, WithinIsDecided, alike_entries, apart_entries, has_odd_end, inside_entries, is_odd_end}
use Rattle.sf_relate.proofs.EnvelopeLaws.{lies_in_box, valid-closed}
use Rattle.sf_relate.proofs.SetLaws.{matrices_are_over_the_plane}

-- ---- sets with the same points have the same dimension
abbrev AreSame : PointSet → PointSet → Type 0
AreSame s t = (p : PlanePoint) → IsPoint p → s p ≡ t p

same-back : (s t : PointSet) → AreSame s t → AreSame t s
same-back s t e p i = sym (e p i)

same-point : (s t : PointSet) → AreSame s t → HasPoint s → HasPoint t
same-point s t e h = record { point = h.point; is_point = h.is_point; has = sym (e h.point h.is_point) ∙ h.has }

same-segment : (s t : PointSet) → AreSame s t → HasSegment s → HasSegment t
same-segment s t e h = record { a = h.a; b = h.b; is_a = h.is_a; is_b = h.is_b; differ = h.differ; has = λ p i j. sym (e p i) ∙ h.has p i j }

same-triangle : (s t : PointSet) → AreSame s t → HasTriangle s → HasTriangle t
same-triangle s t e h = record { a = h.a; b = h.b; c = h.c; is_a = h.is_a; is_b = h.is_b; is_c = h.is_c; wide = h.wide; has = λ p i j. sym (e p i) ∙ h.has p i j }

same-dimension : (s t : PointSet) → AreSame s t → (d : Dim) → HasDimension s d → HasDimension t d
same-dimension s t e Nothing h = λ k. h (same-point t s (same-back s t e) k)
same-dimension s t e Zero h = (same-point s t e h.0, λ k. h.1 (same-segment t s (same-back s t e) k))
same-dimension s t e One h = (same-segment s t e h.0, λ k. h.1 (same-triangle t s (same-back s t e) k))
same-dimension s t e Two h = same-triangle s t e h

-- ---- what is not in a geometry is outside
pub exterior-from : (a : Geometry) (q : PlanePoint) → is_in a q ≡ false → in_exterior a q ≡ true
exterior-from a q h = let parts = or_parts (in_interior a q) (in_boundary a q) h in and_from (not (in_interior a q)) (not (in_boundary a q)) (ap not parts.0) (ap not parts.1)

not-exterior : (a : Geometry) (q : PlanePoint) → is_in a q ≡ true → in_exterior a q ≡ false
not-exterior a q h = by_parts (in_interior a q) (in_boundary a q) h
  where
    by_parts : (b c : Bool) → (b || c) ≡ true → (not b && not c) ≡ false
    by_parts true c k = refl
    by_parts false true k = refl
    by_parts false false k = absurd (both_ways false refl k)

-- right of its envelope nothing is in a valid geometry
pub beyond : (a : Geometry) (q : PlanePoint) → IsValid a → IsPoint q → ((envelope_of a).max_x *ℤ pos q.d) <ℤ q.x → is_in a q ≡ false
beyond a q v i h =
    false_from_ne_true (is_in a q)
    (λ t.
    let x = and_parts _ _ (and_parts _ _ (lies_in_box a q (valid-closed a v) i t)).0 in
    clash q.x ((envelope_of a).max_x *ℤ pos q.d) (le_from_test q.x ((envelope_of a).max_x *ℤ pos q.d) x.1) h)
  where
    clash : (m n : ℤ) → m ≤ℤ n → n <ℤ m → ⊥
    clash m n f g = absurd (omega (arith, ints))

-- ---- a triangle beyond both
abbrev far_end : Geometry → Geometry → ℤ
far_end a b = int_max (envelope_of a).max_x (envelope_of b).max_x

abbrev far : ℤ → ℤ → ℤ → PlanePoint
far m i j = grid_point (record { x = m +ℤ i; y = j })

abbrev beyond_form : ℤ → Form
beyond_form m = right_of (whole m)

beyond-is : (m : ℤ) (q : PlanePoint) → pos 0 <ℤ value (beyond_form m) q → (m *ℤ pos q.d) <ℤ q.x
beyond-is m q h = from (value (beyond_form m) q) (m *ℤ pos q.d) (value-right_of (whole m) q) h
  where
    from : (z t : ℤ) → z ≡ q.x *ℤ pos 1 -ℤ t → pos 0 <ℤ z → t <ℤ q.x
    from z t e g = omega (arith, ints)

beyond-at : (m i j : ℤ) → pos 0 <ℤ i → pos 0 <ℤ value (beyond_form m) (far m i j)
beyond-at m i j h = from (value (beyond_form m) (far m i j)) (value-right_of (whole m) (far m i j))
  where
    from : (z : ℤ) → z ≡ (m +ℤ i) *ℤ pos 1 -ℤ m *ℤ pos 1 → pos 0 <ℤ z
    from z e = omega (arith, ints)

at_most_first : (m n : ℤ) → m ≤ℤ int_max m n
at_most_first m n = omega (arith, ints, clamps)

at_most_second : (m n : ℤ) → n ≤ℤ int_max m n
at_most_second m n = omega (arith, ints, clamps)

further : (m n : ℤ) (d : ℕ) (x : ℤ) → m ≤ℤ n → (n *ℤ pos d) <ℤ x → (m *ℤ pos d) <ℤ x
further m n d x h k = let l = mul_le m n d h in omega (arith, ints)

pub outside-both : (a b : Geometry) → IsValid a → IsValid b → HasTriangle (both (in_exterior a) (in_exterior b))
outside-both a b v w =
    record {
      a = far (far_end a b) (pos 1) (pos 0);
      b = far (far_end a b) (pos 2) (pos 0);
      c = far (far_end a b) (pos 1) (pos 1);
      is_a = record { positive = lit< tt };
      is_b = record { positive = lit< tt };
      is_c = record { positive = lit< tt };
      wide = λ z. one (sym (wide-area (far_end a b)) ∙ z);
      has =
          λ q i j.
          let right =
          beyond-is (far_end a b) q
          (inside_in (beyond_form (far_end a b) ∷ []) (far (far_end a b) (pos 1) (pos 0)) (far (far_end a b) (pos 2) (pos 0)) (far (far_end a b) (pos 1) (pos 1)) q (record { positive = lit< tt }) i j
          (beyond-at (far_end a b) (pos 1) (pos 0) (omega (arith, ints)), tt) (beyond-at (far_end a b) (pos 2) (pos 0) (omega (arith, ints)), tt) (beyond-at (far_end a b) (pos 1) (pos 1) (omega (arith, ints)), tt)).0 in
          and_from (in_exterior a q) (in_exterior b q)
          (exterior-from a q (beyond a q v i (further (envelope_of a).max_x (far_end a b) q.d q.x (at_most_first (envelope_of a).max_x (envelope_of b).max_x) right)))
          (exterior-from b q (beyond b q w i (further (envelope_of b).max_x (far_end a b) q.d q.x (at_most_second (envelope_of a).max_x (envelope_of b).max_x) right)));
    }
  where
    one : pos 1 ≡ pos 0 → ⊥
    one z = absurd (omega (arith, ints))

    wide-area : (m : ℤ) → area (far m (pos 1) (pos 0)) (far m (pos 2) (pos 0)) (far m (pos 1) (pos 1)) ≡ pos 1
    wide-area m =
        ring (m ∷ [])
        (sum (sum
        (mul (sum (var 0) (num (pos 1))) (dif (mul (num (pos 0)) (num (pos 1))) (mul (num (pos 1)) (num (pos 1)))))
        (mul (sum (var 0) (num (pos 2))) (dif (mul (num (pos 1)) (num (pos 1))) (mul (num (pos 0)) (num (pos 1))))))
        (mul (sum (var 0) (num (pos 1))) (dif (mul (num (pos 0)) (num (pos 1))) (mul (num (pos 0)) (num (pos 1))))))
        (num (pos 1)) refl

-- ---- the sets of the matrix
-- the first set, where the second has all its points
kept : (s t : PointSet) → ((p : PlanePoint) → IsPoint p → s p ≡ true → t p ≡ true) → AreSame s (both s t)
kept s t h p i = by_test (s p) refl
  where
    by_test : (b : Bool) → s p ≡ b → s p ≡ (s p && t p)
    by_test true e = e ∙ sym (and_from (s p) (t p) e (h p i e))
    by_test false e = e ∙ sym (ap (λ c. c && t p) e)

-- the second set, where the first has all its points
kept-second : (s t : PointSet) → ((p : PlanePoint) → IsPoint p → t p ≡ true → s p ≡ true) → AreSame t (both s t)
kept-second s t h p i = by_test (t p) refl
  where
    none : (c : Bool) → (c && false) ≡ false
    none true = refl
    none false = refl

    by_test : (b : Bool) → t p ≡ b → t p ≡ (s p && t p)
    by_test true e = e ∙ sym (and_from (s p) (t p) (h p i e) e)
    by_test false e = e ∙ sym (ap (λ c. s p && c) e ∙ none (s p))

empty : (s t : PointSet) → ((p : PlanePoint) → IsPoint p → s p ≡ true → t p ≡ true → ⊥) → HasDimension (both s t) Nothing
empty s t h k = let parts = and_parts (s k.point) (t k.point) k.has in h k.point k.is_point parts.0 parts.1

inner : (a : Geometry) (q : PlanePoint) → in_interior a q ≡ true → is_in a q ≡ true
inner a q h = or_left (in_interior a q) (in_boundary a q) h

edge : (a : Geometry) (q : PlanePoint) → in_boundary a q ≡ true → is_in a q ≡ true
edge a q h = or_right (in_interior a q) (in_boundary a q) h

-- ---- geometries that share no point
apart-matrix : (a b : Geometry) → IsValid a → IsValid b → ¬ (SharePoint a b) → IsMatrix a b (apart_entries a b)
apart-matrix a b v w none = (
  empty (in_interior a) (in_interior b) (λ p i h k. clash p i (inner a p h) (inner b p k)),
  (
    empty (in_interior a) (in_boundary b) (λ p i h k. clash p i (inner a p h) (edge b p k)),
    (
      same-dimension (in_interior a) (both (in_interior a) (in_exterior b)) (kept (in_interior a) (in_exterior b) (λ p i h. off_second p i (inner a p h))) (interior_dim a) (interior_has_dimension a v),
      (
        empty (in_boundary a) (in_interior b) (λ p i h k. clash p i (edge a p h) (inner b p k)),
        (
          empty (in_boundary a) (in_boundary b) (λ p i h k. clash p i (edge a p h) (edge b p k)),
          (
            same-dimension (in_boundary a) (both (in_boundary a) (in_exterior b)) (kept (in_boundary a) (in_exterior b) (λ p i h. off_second p i (edge a p h))) (boundary_dim a) (boundary_has_dimension a v),
            (
              same-dimension (in_interior b) (both (in_exterior a) (in_interior b)) (kept-second (in_exterior a) (in_interior b) (λ p i h. off_first p i (inner b p h))) (interior_dim b) (interior_has_dimension b w),
              (
                same-dimension (in_boundary b) (both (in_exterior a) (in_boundary b)) (kept-second (in_exterior a) (in_boundary b) (λ p i h. off_first p i (edge b p h))) (boundary_dim b) (boundary_has_dimension b w),
                (outside-both a b v w, tt),
              ),
            ),
          ),
        ),
      ),
    ),
  ),
)
  where
    clash : (p : PlanePoint) → IsPoint p → is_in a p ≡ true → is_in b p ≡ true → ⊥
    clash p i h k = none (record { q = p; is_point = i; in_first = h; in_second = k })

    off_second : (p : PlanePoint) → IsPoint p → is_in a p ≡ true → in_exterior b p ≡ true
    off_second p i h = exterior-from b p (false_from_ne_true (is_in b p) (λ t. none (record { q = p; is_point = i; in_first = h; in_second = t })))

    off_first : (p : PlanePoint) → IsPoint p → is_in b p ≡ true → in_exterior a p ≡ true
    off_first p i h = exterior-from a p (false_from_ne_true (is_in a p) (λ t. none (record { q = p; is_point = i; in_first = t; in_second = h })))

told-by : (a b : Geometry) (entries : List Dim) → IsMatrix a b entries → IsDecidedBy a b entries
told-by a b entries h = record { plane = h; computed = (matrices_are_over_the_plane a b).only entries h }

pub apart_is_decided : ApartIsDecided
apart_is_decided a b v w none = told-by a b (apart_entries a b) (apart-matrix a b v w none)

-- ---- one in the other's interior
pub within_is_decided : WithinIsDecided
within_is_decided a b v w h two =
    told-by a b (inside_entries a b) (
      same-dimension (in_interior a) (both (in_interior a) (in_interior b)) (kept (in_interior a) (in_interior b) (λ p i k. h.inside p i (inner a p k))) (interior_dim a) (interior_has_dimension a v),
      (
        empty (in_interior a) (in_boundary b) (λ p i k l. both_ways (in_boundary b p) (off_edge p i (inner a p k)) l),
        (
          empty (in_interior a) (in_exterior b) (λ p i k l. both_ways (in_exterior b p) (not-exterior b p (inner b p (h.inside p i (inner a p k)))) l),
          (
            same-dimension (in_boundary a) (both (in_boundary a) (in_interior b)) (kept (in_boundary a) (in_interior b) (λ p i k. h.inside p i (edge a p k))) (boundary_dim a) (boundary_has_dimension a v),
            (
              empty (in_boundary a) (in_boundary b) (λ p i k l. both_ways (in_boundary b p) (off_edge p i (edge a p k)) l),
              (
                empty (in_boundary a) (in_exterior b) (λ p i k l. both_ways (in_exterior b p) (not-exterior b p (inner b p (h.inside p i (edge a p k)))) l),
                (
                  subst (HasDimension (both (in_exterior a) (in_interior b))) (sym two) h.beside,
                  (
                    same-dimension (in_boundary b) (both (in_exterior a) (in_boundary b)) (kept-second (in_exterior a) (in_boundary b) outside) (boundary_dim b) (boundary_has_dimension b w),
                    (outside-both a b v w, tt),
                  ),
                ),
              ),
            ),
          ),
        ),
      ),
    )
  where
    off_edge : (p : PlanePoint) → IsPoint p → is_in a p ≡ true → in_boundary b p ≡ false
    off_edge p i k = interior_is_apart b p w i (h.inside p i k)

    outside : (p : PlanePoint) → IsPoint p → in_boundary b p ≡ true → in_exterior a p ≡ true
    outside p i k = exterior-from a p (false_from_ne_true (is_in a p) (λ t. both_ways (in_boundary b p) (off_edge p i t) k))

-- ---- one with itself
pub alike_is_decided : AlikeIsDecided
alike_is_decided a v =
    told-by a a (alike_entries a) (
      same-dimension (in_interior a) (both (in_interior a) (in_interior a)) (kept (in_interior a) (in_interior a) (λ p i h. h)) (interior_dim a) (interior_has_dimension a v),
      (
        empty (in_interior a) (in_boundary a) (λ p i h k. both_ways (in_boundary a p) (interior_is_apart a p v i h) k),
        (
          empty (in_interior a) (in_exterior a) (λ p i h k. both_ways (in_exterior a p) (not-exterior a p (inner a p h)) k),
          (
            empty (in_boundary a) (in_interior a) (λ p i h k. both_ways (in_boundary a p) (interior_is_apart a p v i k) h),
            (
              same-dimension (in_boundary a) (both (in_boundary a) (in_boundary a)) (kept (in_boundary a) (in_boundary a) (λ p i h. h)) (boundary_dim a) (boundary_has_dimension a v),
              (
                empty (in_boundary a) (in_exterior a) (λ p i h k. both_ways (in_exterior a p) (not-exterior a p (edge a p h)) k),
                (
                  empty (in_exterior a) (in_interior a) (λ p i h k. both_ways (in_exterior a p) (not-exterior a p (inner a p k)) h),
                  (
                    empty (in_exterior a) (in_boundary a) (λ p i h k. both_ways (in_exterior a p) (not-exterior a p (edge a p k)) h),
                    (outside-both a a v v, tt),
                  ),
                ),
              ),
            ),
          ),
        ),
      ),
    )

-- ---- the entries as they are put down
pub alike-entries : (a b f g : Geometry) (ia ba : Dim) → IsValid a → f ≡ g → f ≡ a → g ≡ b → ia ≡ interior_dim a → ba ≡ boundary_dim a →
    ia ∷ Nothing ∷ Nothing ∷ Nothing ∷ ba ∷ Nothing ∷ Nothing ∷ Nothing ∷ Two ∷ [] ≡ matrix_of a b
alike-entries a b f g ia ba v alike e h i k =
    ap (λ x. x ∷ Nothing ∷ Nothing ∷ Nothing ∷ ba ∷ Nothing ∷ Nothing ∷ Nothing ∷ Two ∷ []) i
    ∙ ap (λ x. interior_dim a ∷ Nothing ∷ Nothing ∷ Nothing ∷ x ∷ Nothing ∷ Nothing ∷ Nothing ∷ Two ∷ []) k
    ∙ (alike_is_decided a v).computed
    ∙ ap (matrix_of a) (sym e ∙ alike ∙ h)

pub apart-entries : (a b f g : Geometry) (ia ba ib bb : Dim) → IsValid a → IsValid b → ¬ (SharePoint a b) → f ≡ a → g ≡ b → ia ≡ interior_dim f → ba ≡ boundary_dim f → ib ≡ interior_dim g →
    bb ≡ boundary_dim g → Nothing ∷ Nothing ∷ ia ∷ Nothing ∷ Nothing ∷ ba ∷ ib ∷ bb ∷ Two ∷ [] ≡ matrix_of a b
apart-entries a b f g ia ba ib bb v w none e h i j k l =
    ap (λ x. Nothing ∷ Nothing ∷ x ∷ Nothing ∷ Nothing ∷ ba ∷ ib ∷ bb ∷ Two ∷ []) (i ∙ ap interior_dim e)
    ∙ ap (λ x. Nothing ∷ Nothing ∷ interior_dim a ∷ Nothing ∷ Nothing ∷ x ∷ ib ∷ bb ∷ Two ∷ []) (j ∙ ap boundary_dim e)
    ∙ ap (λ x. Nothing ∷ Nothing ∷ interior_dim a ∷ Nothing ∷ Nothing ∷ boundary_dim a ∷ x ∷ bb ∷ Two ∷ []) (k ∙ ap interior_dim h)
    ∙ ap (λ x. Nothing ∷ Nothing ∷ interior_dim a ∷ Nothing ∷ Nothing ∷ boundary_dim a ∷ interior_dim b ∷ x ∷ Two ∷ []) (l ∙ ap boundary_dim h)
    ∙ (apart_is_decided a b v w none).computed

pub within-entries : (a b f g : Geometry) (ia ba ib bb : Dim) → IsValid a → IsValid b → IsWithin a b → interior_dim b ≡ Two → f ≡ a → g ≡ b → ia ≡ interior_dim f → ba ≡ boundary_dim f →
    ib ≡ interior_dim g → bb ≡ boundary_dim g → ia ∷ Nothing ∷ Nothing ∷ ba ∷ Nothing ∷ Nothing ∷ ib ∷ bb ∷ Two ∷ [] ≡ matrix_of a b
within-entries a b f g ia ba ib bb v w within two e h i j k l =
    ap (λ x. x ∷ Nothing ∷ Nothing ∷ ba ∷ Nothing ∷ Nothing ∷ ib ∷ bb ∷ Two ∷ []) (i ∙ ap interior_dim e)
    ∙ ap (λ x. interior_dim a ∷ Nothing ∷ Nothing ∷ x ∷ Nothing ∷ Nothing ∷ ib ∷ bb ∷ Two ∷ []) (j ∙ ap boundary_dim e)
    ∙ ap (λ x. interior_dim a ∷ Nothing ∷ Nothing ∷ boundary_dim a ∷ Nothing ∷ Nothing ∷ x ∷ bb ∷ Two ∷ []) (k ∙ ap interior_dim h)
    ∙ ap (λ x. interior_dim a ∷ Nothing ∷ Nothing ∷ boundary_dim a ∷ Nothing ∷ Nothing ∷ interior_dim b ∷ x ∷ Two ∷ []) (l ∙ ap boundary_dim h)
    ∙ (within_is_decided a b v w within two).computed

-- boxes that share no point
pub boxes-apart : (a b : Geometry) → IsValid a → IsValid b → extents_meet (envelope_of a) (envelope_of b) ≡ false → ¬ (SharePoint a b)
boxes-apart a b v w apart s =
    both_ways (extents_meet (envelope_of a) (envelope_of b)) apart
    (common_point_meets (box_of_extent (envelope_of a)) (box_of_extent (envelope_of b)) s.q s.is_point (lies_in_box a s.q (valid-closed a v) s.is_point s.in_first) (lies_in_box b s.q (valid-closed b w) s.is_point s.in_second))

-- ---- the ends of several lines
pub ends-flat : (t : Coordinates → Bool) (xs : List (List Coordinates)) → list_any t (flat_map ends_of xs) ≡ list_any (λ ps. list_any t (ends_of ps)) xs
ends-flat t [] = refl
ends-flat t (x ∷ xs) = append (ends_of x) ∙ ap (λ c. list_any t (ends_of x) || c) (ends-flat t xs)
  where
    more : (a b c : Bool) → (a || (b || c)) ≡ ((a || b) || c)
    more true b c = refl
    more false b c = refl

    append : (ys : List Coordinates) → list_any t (ys ++ flat_map ends_of xs) ≡ (list_any t ys || list_any t (flat_map ends_of xs))
    append [] = refl
    append (y ∷ ys) = ap (λ c. t y || c) (append ys) ∙ more (t y) (list_any t ys) (list_any t (flat_map ends_of xs))

pub lines-boundary : (geometry : Geometry) (lines found : List (List Coordinates)) (r : Bool) (d : Dim) → geometry ≡ MultiLineString lines → found ≡ lines → r ≡ list_any (has_odd_end found) found →
    d ≡ (if r then Zero else Nothing) → d ≡ boundary_dim geometry
lines-boundary geometry lines found r d is same odd e =
    e
    ∙ ap (λ b. if b then Zero else Nothing) (odd ∙ ap (λ xs. list_any (has_odd_end xs) xs) same ∙ sym (ends-flat (is_odd_end lines) lines))
    ∙ sym (ap boundary_dim is)

pub no-meeting : (a b f g : Geometry) (e h : Extent) (r : Bool) → f ≡ a → g ≡ b → e ≡ envelope_of f → h ≡ envelope_of g → r ≡ extents_meet e h → not r ≡ true →
    extents_meet (envelope_of a) (envelope_of b) ≡ false
no-meeting a b f g e h r is_a is_b is_e is_h meets apart =
    ap (λ z. extents_meet z (envelope_of b)) (sym (is_e ∙ ap envelope_of is_a)) ∙ ap (extents_meet e) (sym (is_h ∙ ap envelope_of is_b)) ∙ sym meets ∙ negated r apart
  where
    negated : (b : Bool) → not b ≡ true → b ≡ false
    negated true k = sym k
    negated false k = refl
