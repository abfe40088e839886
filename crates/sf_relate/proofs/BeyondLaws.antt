-- Points leave of an area a part of its interior with area, and a part of its boundary with length. So the third row of their
-- matrix is known by their kinds.
use Rattle.std.proofs.Common.{◌≡◌, ℕ, ◌≤◌, refl, ap, subst, Bool, true, false, not, arith}
use Rattle.std.specs.List.{Any}
use Rattle.std.proofs.lemmas.Bool.{and_from, both_ways}
use Rattle.sf_cells.specs.Samples.{samples}
use Rattle.sf_geometry.specs.declared.geometry.Geometry.{Geometry}
use Rattle.sf_geometry.specs.declared.geometry.Geometry.TheVariants.{Point, LineString, Polygon, MultiPoint, MultiLineString, MultiPolygon}
use Rattle.sf_geometry.specs.PointSets.{in_boundary, in_exterior, in_interior}
use Rattle.sf_grid.specs.Plane.{Point as PlanePoint}
use Rattle.sf_interiors.proofs.DimensionLaws.{boundary_has_dimension, interior_has_dimension}
use Rattle.sf_interiors.specs.Dimensions.{interior_dim}
use Rattle.sf_plane.proofs.CombineLaws.{and_union}
use Rattle.sf_plane.proofs.UnionLaws.{samples_tell}
use Rattle.sf_plane.specs.declared.dim.Dim.TheVariants.{One, Two, Zero}
use Rattle.sf_plane.specs.Dimension.{HasDimension, HasSegment, HasTriangle, PointSet}
use Rattle.sf_plane.specs.Unions.{IsSampleOf}
use Rattle.sf_valid_rules.specs.Validity.{IsValid}
use Rattle.sf_known.specs.Known.{Holds, IsAtMost}
use Rattle.sf_relate.specs.declared.shape.Shape.TheVariants.{Areas, Points}
use Rattle.sf_relate.specs.AllPieces.{all_pieces}
use Rattle.sf_relate.specs.Matrices.{both, matrix_of}
use Rattle.sf_relate.specs.Most.{known_beyond}
use Rattle.sf_relate.specs.Nearby.{ReachesBeyond}
use Rattle.sf_relate.specs.Places.{shape_of}
use Rattle.sf_relate.proofs.MostLaws.{entries-at_most}
use Rattle.sf_relate.proofs.NearbyLaws.{area-edge, beyond-both, beyond-boundary, beyond-interior}
use Rattle.sf_relate.proofs.SetLaws.{boundary_union, exterior_union, first_has, interior_union, second_has}

-- ---- points have no length
points-wide : (a : Geometry) → shape_of a ≡ Points → interior_dim a ≡ Zero
points-wide (Point p) s = refl
points-wide (MultiPoint ps) s = refl
points-wide (LineString ps) s = absurd cc
points-wide (MultiLineString lines) s = absurd cc
points-wide (Polygon rings) s = absurd cc
points-wide (MultiPolygon polygons) s = absurd cc

no-boundary : (a : Geometry) (q : PlanePoint) → shape_of a ≡ Points → in_boundary a q ≡ false
no-boundary (Point p) q s = refl
no-boundary (MultiPoint ps) q s = refl
no-boundary (LineString ps) q s = absurd cc
no-boundary (MultiLineString lines) q s = absurd cc
no-boundary (Polygon rings) q s = absurd cc
no-boundary (MultiPolygon polygons) q s = absurd cc

area-wide : (a : Geometry) → shape_of a ≡ Areas → interior_dim a ≡ Two
area-wide (Polygon rings) s = refl
area-wide (MultiPolygon polygons) s = refl
area-wide (Point p) s = absurd cc
area-wide (MultiPoint ps) s = absurd cc
area-wide (LineString ps) s = absurd cc
area-wide (MultiLineString lines) s = absurd cc

is-false : (v : Bool) → (v ≡ true → ⊥) → v ≡ false
is-false true f = absurd (f refl)
is-false false f = refl

-- ---- a sample of the other geometry with length lies outside of them
beside : (a b : Geometry) (t : PointSet) (k : ℕ) → IsValid a → shape_of a ≡ Points → 1 ≤ k → Any (IsSampleOf t k) (samples (all_pieces a b))
    → Any (IsSampleOf (both (in_exterior a) t) k) (samples (all_pieces a b))
beside a b t k v s one some = (some.0, some.1, some.2, some.3, (and_from (in_exterior a q) (t q) outside some.4.0, some.4.1))
  where
    q : PlanePoint
    q = some.1.point

    thin : HasSegment (in_interior a) → ⊥
    thin = (subst (HasDimension (in_interior a)) (points-wide a s) (interior_has_dimension a v)).1

    off : in_interior a q ≡ false
    off =
        is-false (in_interior a q) (λ h. thin ((samples_tell (all_pieces a b) (in_interior a) (interior_union (all_pieces a b) a (first_has a b))).segment.1
        (some.0, some.1, some.2, some.3, (h, omega (arith, one, some.4.1)))))

    outside : in_exterior a q ≡ true
    outside = and_from (not (in_interior a q)) (not (in_boundary a q)) (ap not off) (ap not (no-boundary a q s))

points-leave : (a b : Geometry) → IsValid a → IsValid b → shape_of a ≡ Points → shape_of b ≡ Areas → ReachesBeyond a b
points-leave a b v w s t =
    let all = all_pieces a b in
    let outer = exterior_union all a (first_has a b) in
    let inner = interior_union all b (second_has a b) in
    let border = boundary_union all b (second_has a b) in
    let wide : HasTriangle (in_interior b) = subst (HasDimension (in_interior b)) (area-wide b t) (interior_has_dimension b w) in
    let long : HasSegment (in_boundary b) = (subst (HasDimension (in_boundary b)) (area-edge b t) (boundary_has_dimension b w)).0 in
    record {
      interior = (samples_tell all (both (in_exterior a) (in_interior b)) (and_union all (in_exterior a) (in_interior b) outer inner)).triangle.1
          (beside a b (in_interior b) 2 v s (omega arith) ((samples_tell all (in_interior b) inner).triangle.0 wide));
      boundary = (samples_tell all (both (in_exterior a) (in_boundary b)) (and_union all (in_exterior a) (in_boundary b) outer border)).segment.1
          (beside a b (in_boundary b) 1 v s (omega arith) ((samples_tell all (in_boundary b) border).segment.0 long));
    }

-- ---- what is known of an area that reaches beyond
beyond-holds : (a b : Geometry) → IsValid a → IsValid b → shape_of b ≡ Areas → ReachesBeyond a b → Holds (known_beyond a b) (matrix_of a b)
beyond-holds a b v w s h =
    let k = entries-at_most a b v w in
    let ei = beyond-interior a b h in
    let eb = beyond-boundary a b w (area-edge b s) h in
    let ee = beyond-both a b v w in
    record {
      least = (refl, (refl, (refl, (refl, (refl, (refl, (subst (IsAtMost Two) ei refl, (subst (IsAtMost One) eb refl, (subst (IsAtMost Two) ee refl, refl)))))))));
      most = (k.0, (k.1.0, (k.1.1.0, (k.1.1.1.0, (k.1.1.1.1.0, (k.1.1.1.1.1.0, (subst (λ d. IsAtMost d Two) ei refl, (subst (λ d. IsAtMost d One) eb refl, (subst (λ d. IsAtMost d Two) ee refl, refl)))))))));
      contact = λ c. absurd (both_ways false refl c);
    }

-- so it is of points with an area
pub points-beyond : (a b : Geometry) → IsValid a → IsValid b → shape_of a ≡ Points → shape_of b ≡ Areas → Holds (known_beyond a b) (matrix_of a b)
points-beyond a b v w s t = beyond-holds a b v w t (points-leave a b v w s t)
