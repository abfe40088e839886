-- A set with a segment, or a triangle, that lies in two others of which one has none: the other one has it. So what a line shares
-- with a set has a segment in the line's interior if it has one at all, and what an area has off a line has a triangle.
use Rattle.std.proofs.Common.{◌≡◌, refl, subst, Bool, true, false, ◌&&◌, ◌||◌, ◌⊎◌, inl, inr}
use Rattle.std.specs.Prelude.{if◌then◌else◌}
use Rattle.std.proofs.lemmas.Bool.{and_from, and_parts, or_cases}
use Rattle.sf_geometry.specs.declared.geometry.Geometry.{Geometry}
use Rattle.sf_geometry.specs.declared.geometry.Geometry.TheVariants.{Point, LineString, Polygon, MultiPoint, MultiLineString, MultiPolygon}
use Rattle.sf_geometry.specs.PointSets.{in_boundary, in_exterior, in_interior}
use Rattle.sf_grid.specs.Plane.{Point as PlanePoint}
use Rattle.sf_interiors.proofs.DimensionLaws.{boundary_has_dimension, interior_has_dimension}
use Rattle.sf_interiors.specs.Dimensions.{boundary_dim, has_end, interior_dim}
use Rattle.sf_plane.proofs.CombineLaws.{and_union, or_union}
use Rattle.sf_plane.proofs.UnionLaws.{point_in_segment, samples_tell, segment_in_triangle}
use Rattle.sf_plane.specs.declared.dim.Dim.TheVariants as dims
use Rattle.sf_plane.specs.Dimension.{HasDimension, HasSegment, HasTriangle, PointSet}
use Rattle.sf_plane.specs.Unions.{IsUnionOfCells}
use Rattle.sf_valid_rules.specs.Validity.{IsValid}
use Rattle.sf_relate.specs.declared.shape.Shape.TheVariants.{Areas, Lines}
use Rattle.sf_relate.specs.AllPieces.{all_pieces}
use Rattle.sf_relate.specs.Contact.{is_in}
use Rattle.sf_relate.specs.Matrices.{both}
use Rattle.sf_relate.specs.Places.{shape_of}
use Rattle.sf_relate.proofs.SetLaws.{boundary_union, exterior_union, first_has, interior_union, second_has}
use Rattle.sf_relate.proofs.ToldLaws.{exterior-from}

-- ---- one of two parts
-- each point of the set is in one of two others
abbrev AreParts : PointSet → PointSet → PointSet → Type 0
AreParts s t u = (q : PlanePoint) → s q ≡ true → (t q ≡ true) ⊎ (u q ≡ true)

module _ (a b : Geometry) (s t u : PointSet) (whole : IsUnionOfCells (all_pieces a b) s) (part : IsUnionOfCells (all_pieces a b) t)
    (other : IsUnionOfCells (all_pieces a b) u) (parts : AreParts s t u) where
  segment-in-part : HasSegment s → (HasSegment u → ⊥) → HasSegment t
  segment-in-part h thin =
      let some = (samples_tell (all_pieces a b) s whole).segment.0 h in
      elim (parts some.1.point some.4.0) [
        | inl k ↦ (samples_tell (all_pieces a b) t part).segment.1 (some.0, some.1, some.2, some.3, (k, some.4.1))
        | inr k ↦ absurd (thin ((samples_tell (all_pieces a b) u other).segment.1 (some.0, some.1, some.2, some.3, (k, some.4.1))))
      ]

  triangle-in-part : HasTriangle s → (HasTriangle u → ⊥) → HasTriangle t
  triangle-in-part h thin =
      let some = (samples_tell (all_pieces a b) s whole).triangle.0 h in
      elim (parts some.1.point some.4.0) [
        | inl k ↦ (samples_tell (all_pieces a b) t part).triangle.1 (some.0, some.1, some.2, some.3, (k, some.4.1))
        | inr k ↦ absurd (thin ((samples_tell (all_pieces a b) u other).triangle.1 (some.0, some.1, some.2, some.3, (k, some.4.1))))
      ]

-- ---- lines are thin, and their ends have no length
one-long : (a : Geometry) → shape_of a ≡ Lines → interior_dim a ≡ dims.One
one-long (LineString ps) s = refl
one-long (MultiLineString lines) s = refl
one-long (Point p) s = absurd cc
one-long (MultiPoint ps) s = absurd cc
one-long (Polygon rings) s = absurd cc
one-long (MultiPolygon polygons) s = absurd cc

ends-alone : (a : Geometry) → shape_of a ≡ Lines → boundary_dim a ≡ (if has_end a then dims.Zero else dims.Nothing)
ends-alone (LineString ps) s = refl
ends-alone (MultiLineString lines) s = refl
ends-alone (Point p) s = absurd cc
ends-alone (MultiPoint ps) s = absurd cc
ends-alone (Polygon rings) s = absurd cc
ends-alone (MultiPolygon polygons) s = absurd cc

two-wide : (a : Geometry) → shape_of a ≡ Areas → interior_dim a ≡ dims.Two
two-wide (Polygon rings) s = refl
two-wide (MultiPolygon polygons) s = refl
two-wide (Point p) s = absurd cc
two-wide (MultiPoint ps) s = absurd cc
two-wide (LineString ps) s = absurd cc
two-wide (MultiLineString lines) s = absurd cc

no-length : (set : PointSet) (b : Bool) → HasDimension set (if b then dims.Zero else dims.Nothing) → HasSegment set → ⊥
no-length set true h k = h.1 k
no-length set false h k = h (point_in_segment set k)

ends-thin : (a : Geometry) → shape_of a ≡ Lines → IsValid a → HasSegment (in_boundary a) → ⊥
ends-thin a s v = no-length (in_boundary a) (has_end a) (subst (HasDimension (in_boundary a)) (ends-alone a s) (boundary_has_dimension a v))

-- ---- the line's part of a set
wider : (s t : PointSet) → ((q : PlanePoint) → s q ≡ true → t q ≡ true) → HasSegment s → HasSegment t
wider s t f h = record { a = h.a; b = h.b; is_a = h.is_a; is_b = h.is_b; differ = h.differ; has = λ q i j. f q (h.has q i j) }

split : (x y z : Bool) → ((x || y) && z) ≡ true → ((x && z) ≡ true) ⊎ ((y && z) ≡ true)
split true y z h = inl h
split false y z h = inr h

split-second : (x y z : Bool) → (z && (x || y)) ≡ true → ((z && x) ≡ true) ⊎ ((z && y) ≡ true)
split-second true y true h = inl refl
split-second false y true h = inr h
split-second x y false h = inl h

-- where the line comes first
pub first-inside : (a b : Geometry) (t : PointSet) → shape_of a ≡ Lines → IsValid a → IsUnionOfCells (all_pieces a b) t → HasSegment (both (is_in a) t) → HasSegment (both (in_interior a) t)
first-inside a b t s v cells h =
    let all = all_pieces a b in
    let interior = interior_union all a (first_has a b) in
    let boundary = boundary_union all a (first_has a b) in
    segment-in-part a b (both (is_in a) t) (both (in_interior a) t) (both (in_boundary a) t)
    (and_union all (is_in a) t (or_union all (in_interior a) (in_boundary a) interior boundary) cells)
    (and_union all (in_interior a) t interior cells)
    (and_union all (in_boundary a) t boundary cells)
    (λ q k. split (in_interior a q) (in_boundary a q) (t q) k) h
    (λ k. ends-thin a s v (wider (both (in_boundary a) t) (in_boundary a) (λ q m. (and_parts (in_boundary a q) (t q) m).0) k))

-- where it comes second
pub second-inside : (a b : Geometry) (t : PointSet) → shape_of b ≡ Lines → IsValid b → IsUnionOfCells (all_pieces a b) t → HasSegment (both t (is_in b)) → HasSegment (both t (in_interior b))
second-inside a b t s v cells h =
    let all = all_pieces a b in
    let interior = interior_union all b (second_has a b) in
    let boundary = boundary_union all b (second_has a b) in
    segment-in-part a b (both t (is_in b)) (both t (in_interior b)) (both t (in_boundary b))
    (and_union all t (is_in b) cells (or_union all (in_interior b) (in_boundary b) interior boundary))
    (and_union all t (in_interior b) cells interior)
    (and_union all t (in_boundary b) cells boundary)
    (λ q k. split-second (in_interior b q) (in_boundary b q) (t q) k) h
    (λ k. ends-thin b s v (wider (both t (in_boundary b)) (in_boundary b) (λ q m. (and_parts (t q) (in_boundary b q) m).1) k))

-- ---- the area off the line
no-width : (a b : Geometry) → shape_of a ≡ Lines → IsValid a → HasTriangle (is_in a) → ⊥
no-width a b s v h =
    let all = all_pieces a b in
    let interior = interior_union all a (first_has a b) in
    let boundary = boundary_union all a (first_has a b) in
    let long = subst (HasDimension (in_interior a)) (one-long a s) (interior_has_dimension a v) in
    long.1
    (triangle-in-part a b (is_in a) (in_interior a) (in_boundary a) (or_union all (in_interior a) (in_boundary a) interior boundary) interior boundary
    (λ q k. or_cases (in_interior a q) (in_boundary a q) k) h (λ k. ends-thin a s v (segment_in_triangle (in_boundary a) k)))

in-or-outside : (a : Geometry) (t : PointSet) (q : PlanePoint) → t q ≡ true → (both (in_exterior a) t q ≡ true) ⊎ (is_in a q ≡ true)
in-or-outside a t q h = by_test (is_in a q) refl
  where
    by_test : (b : Bool) → is_in a q ≡ b → (both (in_exterior a) t q ≡ true) ⊎ (is_in a q ≡ true)
    by_test true e = inr e
    by_test false e = inl (and_from (in_exterior a q) (t q) (exterior-from a q e) h)

pub area-outside : (a b : Geometry) → shape_of a ≡ Lines → shape_of b ≡ Areas → IsValid a → IsValid b → HasTriangle (both (in_exterior a) (in_interior b))
area-outside a b s t v w =
    let all = all_pieces a b in
    let interior = interior_union all a (first_has a b) in
    let boundary = boundary_union all a (first_has a b) in
    let area = interior_union all b (second_has a b) in
    let wide : HasTriangle (in_interior b) = subst (HasDimension (in_interior b)) (two-wide b t) (interior_has_dimension b w) in
    triangle-in-part a b (in_interior b) (both (in_exterior a) (in_interior b)) (is_in a) area
    (and_union all (in_exterior a) (in_interior b) (exterior_union all a (first_has a b)) area) (or_union all (in_interior a) (in_boundary a) interior boundary)
    (λ q k. in-or-outside a (in_interior b) q k) wide (no-width a b s v)
