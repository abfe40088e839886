-- What an entry of a matrix says of rings and edges as areas and lines.
use Rattle.std.proofs.Common.{◌≡◌, ◌≢◌, ◌↔◌, refl, ap, sym, ◌∙◌, Bool, true, false, not, ◌&&◌, ◌||◌, List, [], ◌∷◌, slice_index_or, inl, inr}
use Rattle.std.specs.Prelude.{IsTrue, if◌then◌else◌}
use Rattle.std.specs.List.{list_any}
use Rattle.std.proofs.lemmas.Bool.{and_from, and_parts, false≢true, false_from_ne_true, or_cases, or_left, or_right}
use Rattle.sf_grid.specs.Plane.{Coordinates, IsPoint, Point, grid_point, same_point}
use Rattle.sf_grid.specs.Edge.{edge_between, on_edge}
use Rattle.sf_geometry.specs.declared.geometry.Geometry.{Geometry}
use Rattle.sf_geometry.specs.declared.geometry.Geometry.TheVariants.{LineString, Polygon}
use Rattle.sf_geometry.specs.Lists.{edges_of, is_same}
use Rattle.sf_geometry.specs.PointSets.{in_boundary, in_exterior, in_interior, in_ring, is_among, on_line}
use Rattle.sf_geometry.proofs.ListLaws.{edges-step, same-is}
use Rattle.sf_plane.specs.declared.dim.Dim.{Dim}
use Rattle.sf_plane.specs.Dimension.{HasDimension, PointSet}
use Rattle.sf_relate.specs.Matrices.{both, matrix_of}
use Rattle.sf_known.specs.Patterns.{is_filled}
use Rattle.sf_relate.proofs.SetLaws.{matrices_are_over_the_plane}
use Rattle.sf_relate.proofs.SharedLaws.{filled, fills}
use Rattle.sf_valid_rules.specs.Conditions.{Applies, AtPoint}
use Rattle.sf_strands.proofs.EndLaws.{end-same-on, start-same-on}
use Rattle.sf_faults.specs.Candidates.{is_edge_outside, is_hole_outside}

-- ---- an entry is filled just where its set has a point
set-told : (set : PointSet) (d : Dim) → HasDimension set d → IsTrue (is_filled d) ↔ Applies (AtPoint set)
set-told set d h = (
  λ t. let p = filled set d h t in (p.point, p.is_point, p.has),
  λ a. fills set d h (record { point = a.0; is_point = a.1; has = a.2 }),
)

pub overlap-told : (a b : Geometry) (entries : List Dim) (e : Dim) (t : Bool) → entries ≡ matrix_of a b → t ≡ is_filled (slice_index_or entries 0 e) →
    IsTrue t ↔ Applies (AtPoint (λ p. in_interior a p && in_interior b p))
overlap-told a b entries e t m h =
    let dims = (matrices_are_over_the_plane a b).computed in
    let told = set-told (both (in_interior a) (in_interior b)) (slice_index_or (matrix_of a b) 0 e) dims.0 in
    let same : t ≡ is_filled (slice_index_or (matrix_of a b) 0 e) = h ∙ ap (λ es. is_filled (slice_index_or es 0 e)) m in
    (λ x. told.0 (sym same ∙ x), λ x. same ∙ told.1 x)

both-or : (s t u : PointSet) → Applies (AtPoint (both s t)) → Applies (AtPoint (λ p. s p && (t p || u p)))
both-or s t u a = let parts = and_parts (s a.0) (t a.0) a.2 in (a.0, a.1, and_from (s a.0) (t a.0 || u a.0) parts.0 (or_left (t a.0) (u a.0) parts.1))

both-or_right : (s t u : PointSet) → Applies (AtPoint (both s u)) → Applies (AtPoint (λ p. s p && (t p || u p)))
both-or_right s t u a = let parts = and_parts (s a.0) (u a.0) a.2 in (a.0, a.1, and_from (s a.0) (t a.0 || u a.0) parts.0 (or_right (t a.0) (u a.0) parts.1))

pub leaves-told : (a b : Geometry) (entries : List Dim) (e f : Dim) (t : Bool) → entries ≡ matrix_of a b → t ≡ (is_filled (slice_index_or entries 6 e) || is_filled (slice_index_or entries 7 f)) →
    IsTrue t ↔ Applies (AtPoint (λ p. in_exterior a p && (in_interior b p || in_boundary b p)))
leaves-told a b entries e f t m h =
    let dims = (matrices_are_over_the_plane a b).computed in
    let first = set-told (both (in_exterior a) (in_interior b)) (slice_index_or (matrix_of a b) 6 e) dims.1.1.1.1.1.1.0 in
    let second = set-told (both (in_exterior a) (in_boundary b)) (slice_index_or (matrix_of a b) 7 f) dims.1.1.1.1.1.1.1.0 in
    let left : Bool = is_filled (slice_index_or (matrix_of a b) 6 e) in
    let right : Bool = is_filled (slice_index_or (matrix_of a b) 7 f) in
    let same : t ≡ (left || right) = h ∙ ap (λ es. is_filled (slice_index_or es 6 e) || is_filled (slice_index_or es 7 f)) m in (
      λ x.
          elim (or_cases left right (sym same ∙ x)) [
            | inl y ↦ both-or (in_exterior a) (in_interior b) (in_boundary b) (first.0 y)
            | inr y ↦ both-or_right (in_exterior a) (in_interior b) (in_boundary b) (second.0 y)
          ],
      λ x.
          let parts = and_parts (in_exterior a x.0) (in_interior b x.0 || in_boundary b x.0) x.2 in
          elim (or_cases (in_interior b x.0) (in_boundary b x.0) parts.1) [
            | inl y ↦ same ∙ or_left left right (first.1 (x.0, x.1, and_from (in_exterior a x.0) (in_interior b x.0) parts.0 y))
            | inr y ↦ same ∙ or_right left right (second.1 (x.0, x.1, and_from (in_exterior a x.0) (in_boundary b x.0) parts.0 y))
          ],
    )

-- ---- a hole against its shell
hole-by : (os is oh ih : Bool) → ((not (is && true) && not (os || false)) && ((ih && true) || (oh || false))) ≡ ((oh || ih) && not (os || is))
hole-by true true true true = refl
hole-by true true true false = refl
hole-by true true false true = refl
hole-by true true false false = refl
hole-by true false true true = refl
hole-by true false true false = refl
hole-by true false false true = refl
hole-by true false false false = refl
hole-by false true true true = refl
hole-by false true true false = refl
hole-by false true false true = refl
hole-by false true false false = refl
hole-by false false true true = refl
hole-by false false true false = refl
hole-by false false false true = refl
hole-by false false false false = refl

-- a point of a geometry is outside the polygon of a shell
abbrev pub leaves : List Coordinates → Geometry → Point → Bool
leaves shell b p = in_exterior (Polygon (shell ∷ [])) p && (in_interior b p || in_boundary b p)

hole-same : (shell hole : List Coordinates) (p : Point) → leaves shell (Polygon (hole ∷ [])) p ≡ is_hole_outside shell hole p
hole-same shell hole p = hole-by (on_line shell p) (in_ring shell p) (on_line hole p) (in_ring hole p)

pub hole-to : (shell hole : List Coordinates) → Applies (AtPoint (leaves shell (Polygon (hole ∷ [])))) → Applies (AtPoint (is_hole_outside shell hole))
hole-to shell hole a = (a.0, a.1, sym (hole-same shell hole a.0) ∙ a.2)

pub hole-from : (shell hole : List Coordinates) → Applies (AtPoint (is_hole_outside shell hole)) → Applies (AtPoint (leaves shell (Polygon (hole ∷ []))))
hole-from shell hole a = (a.0, a.1, hole-same shell hole a.0 ∙ a.2)

-- ---- an edge against a shell
line-by : (O L B : Bool) → L ≡ O → (B ≡ true → O ≡ true) → ((L && not B) || B) ≡ O
line-by true L true e h = ap (λ l. (l && false) || true) e
line-by true L false e h = ap (λ l. (l && true) || false) e
line-by false L true e h = absurd (false≢true (h refl))
line-by false L false e h = ap (λ l. (l && true) || false) e

abbrev line : Coordinates → Coordinates → List Coordinates
line a b = a ∷ b ∷ []

differs : (a b : Coordinates) → a ≢ b → is_same a b ≡ false
differs a b n = false_from_ne_true (is_same a b) (λ t. n (same-is a b t))

edges-line : (a b : Coordinates) → a ≢ b → edges_of (line a b) ≡ edge_between a b ∷ []
edges-line a b n = edges-step a b [] ∙ ap (λ t. if t then [] else edge_between a b ∷ []) (differs a b n)

or-false : (t : Bool) → (t || false) ≡ t
or-false true = refl
or-false false = refl

on-line : (a b : Coordinates) (p : Point) → a ≢ b → on_line (line a b) p ≡ on_edge (edge_between a b) p
on-line a b p n = ap (list_any (λ e. on_edge e p)) (edges-line a b n) ∙ or-false (on_edge (edge_between a b) p)

among-on : (a b : Coordinates) (p : Point) → a ≢ b → IsPoint p → in_boundary (LineString (line a b)) p ≡ true → on_edge (edge_between a b) p ≡ true
among-on a b p n i h =
    let ends : (same_point (grid_point a) p || (same_point (grid_point b) p || false)) ≡ true =
    sym (ap (λ t. is_among (if t then [] else line a b) p) (differs a b n)) ∙ h in
    elim (or_cases (same_point (grid_point a) p) (same_point (grid_point b) p || false) ends) [
      | inl x ↦ start-same-on a b p i x
      | inr y ↦ end-same-on a b p i (sym (or-false (same_point (grid_point b) p)) ∙ y)
    ]

outside-by : (os is O : Bool) → ((not (is && true) && not (os || false)) && O) ≡ (O && not (os || is))
outside-by true true true = refl
outside-by true true false = refl
outside-by true false true = refl
outside-by true false false = refl
outside-by false true true = refl
outside-by false true false = refl
outside-by false false true = refl
outside-by false false false = refl

edge-same : (shell : List Coordinates) (a b : Coordinates) (p : Point) → a ≢ b → IsPoint p → leaves shell (LineString (line a b)) p ≡ is_edge_outside shell (edge_between a b) p
edge-same shell a b p n i =
    ap (λ t. in_exterior (Polygon (shell ∷ [])) p && t)
    (line-by (on_edge (edge_between a b) p) (on_line (line a b) p) (in_boundary (LineString (line a b)) p) (on-line a b p n) (among-on a b p n i))
    ∙ outside-by (on_line shell p) (in_ring shell p) (on_edge (edge_between a b) p)

pub edge-to : (shell : List Coordinates) (a b : Coordinates) → a ≢ b → Applies (AtPoint (leaves shell (LineString (line a b)))) → Applies (AtPoint (is_edge_outside shell (edge_between a b)))
edge-to shell a b n x = (x.0, x.1, sym (edge-same shell a b x.0 n x.1) ∙ x.2)

pub edge-from : (shell : List Coordinates) (a b : Coordinates) → a ≢ b → Applies (AtPoint (is_edge_outside shell (edge_between a b))) → Applies (AtPoint (leaves shell (LineString (line a b))))
edge-from shell a b n x = (x.0, x.1, edge-same shell a b x.0 n x.1 ∙ x.2)

-- as the code has the two
abbrev pub leaves_by : Geometry → Geometry → Point → Bool
leaves_by a b p = in_exterior a p && (in_interior b p || in_boundary b p)

pub leaves-to : (a b other : Geometry) (shell : List Coordinates) → a ≡ Polygon (shell ∷ []) → b ≡ other → Applies (AtPoint (leaves_by a b)) → Applies (AtPoint (leaves shell other))
leaves-to a b other shell e f x = (x.0, x.1, sym (ap (λ g. leaves_by g b x.0) e ∙ ap (λ g. leaves_by (Polygon (shell ∷ [])) g x.0) f) ∙ x.2)

pub leaves-from : (a b other : Geometry) (shell : List Coordinates) → a ≡ Polygon (shell ∷ []) → b ≡ other → Applies (AtPoint (leaves shell other)) → Applies (AtPoint (leaves_by a b))
leaves-from a b other shell e f x = (x.0, x.1, (ap (λ g. leaves_by g b x.0) e ∙ ap (λ g. leaves_by (Polygon (shell ∷ [])) g x.0) f) ∙ x.2)
