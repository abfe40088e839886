-- No entry has more than the most that the kinds of the geometries allow.
use Rattle.std.proofs.Common.{◌≡◌, refl, Bool, true, false}
use Rattle.std.specs.Prelude.{if◌then◌else◌}
use Rattle.std.proofs.lemmas.Bool.{and_parts, both_ways}
use Rattle.sf_geometry.specs.declared.geometry.Geometry.{Geometry}
use Rattle.sf_geometry.specs.declared.geometry.Geometry.TheVariants.{Point, LineString, Polygon, MultiPoint, MultiLineString, MultiPolygon}
use Rattle.sf_geometry.specs.PointSets.{in_boundary, in_exterior, in_interior}
use Rattle.sf_grid.specs.Plane.{Point as PlanePoint}
use Rattle.sf_interiors.proofs.DimensionLaws.{boundary_has_dimension, interior_has_dimension}
use Rattle.sf_interiors.specs.Dimensions.{boundary_dim, has_end, interior_dim}
use Rattle.sf_plane.proofs.UnionLaws.{point_in_segment, segment_in_triangle}
use Rattle.sf_plane.specs.declared.dim.Dim.{Dim}
use Rattle.sf_plane.specs.declared.dim.Dim.TheVariants as dims
use Rattle.sf_plane.specs.Dimension.{HasDimension, HasPoint, HasSegment, HasTriangle, PointSet}
use Rattle.sf_valid_rules.specs.Validity.{IsValid}
use Rattle.sf_known.proofs.OrderLaws.{at-most-lesser, at-most-two, greater-same, through}
use Rattle.sf_known.specs.Known.{AreAtMost, Holds, IsAtMost}
use Rattle.sf_relate.specs.Matrices.{both, matrix_of}
use Rattle.sf_relate.specs.Most.{boundary_most, known_of_kinds, most_entries}
use Rattle.sf_relate.proofs.SetLaws.{matrices_are_over_the_plane}

-- ---- a set among the points of another has at most its dimension
abbrev IsAmong : PointSet → PointSet → Type 0
IsAmong s t = (p : PlanePoint) → s p ≡ true → t p ≡ true

wider-point : (s t : PointSet) → IsAmong s t → HasPoint s → HasPoint t
wider-point s t f h = record { point = h.point; is_point = h.is_point; has = f h.point h.has }

wider-segment : (s t : PointSet) → IsAmong s t → HasSegment s → HasSegment t
wider-segment s t f h = record { a = h.a; b = h.b; is_a = h.is_a; is_b = h.is_b; differ = h.differ; has = λ p i j. f p (h.has p i j) }

pub wider-triangle : (s t : PointSet) → IsAmong s t → HasTriangle s → HasTriangle t
wider-triangle s t f h = record { a = h.a; b = h.b; c = h.c; is_a = h.is_a; is_b = h.is_b; is_c = h.is_c; wide = h.wide; has = λ p i j. f p (h.has p i j) }

among-at_most : (s t : PointSet) (d m : Dim) → IsAmong s t → HasDimension s d → HasDimension t m → IsAtMost d m
among-at_most s t dims.Nothing m f h k = refl
among-at_most s t dims.Zero dims.Nothing f h k = absurd (k (wider-point s t f h.0))
among-at_most s t dims.Zero dims.Zero f h k = refl
among-at_most s t dims.Zero dims.One f h k = refl
among-at_most s t dims.Zero dims.Two f h k = refl
among-at_most s t dims.One dims.Nothing f h k = absurd (k (point_in_segment t (wider-segment s t f h.0)))
among-at_most s t dims.One dims.Zero f h k = absurd (k.1 (wider-segment s t f h.0))
among-at_most s t dims.One dims.One f h k = refl
among-at_most s t dims.One dims.Two f h k = refl
among-at_most s t dims.Two dims.Nothing f h k = absurd (k (point_in_segment t (segment_in_triangle t (wider-triangle s t f h))))
among-at_most s t dims.Two dims.Zero f h k = absurd (k.1 (segment_in_triangle t (wider-triangle s t f h)))
among-at_most s t dims.Two dims.One f h k = absurd (k.1 (wider-triangle s t f h))
among-at_most s t dims.Two dims.Two f h k = refl

in-first : (s t : PointSet) → IsAmong (both s t) s
in-first s t p i = (and_parts (s p) (t p) i).0

in-second : (s t : PointSet) → IsAmong (both s t) t
in-second s t p i = (and_parts (s p) (t p) i).1

boundary-at_most : (a : Geometry) → IsAtMost (boundary_dim a) (boundary_most a)
boundary-at_most (Point p) = refl
boundary-at_most (MultiPoint ps) = refl
boundary-at_most (LineString ps) = greater-same (boundary_dim (LineString ps))
boundary-at_most (MultiLineString lines) = by_end (has_end (MultiLineString lines))
  where
    by_end : (b : Bool) → IsAtMost (if b then dims.Zero else dims.Nothing) dims.Zero
    by_end true = refl
    by_end false = refl
boundary-at_most (Polygon rings) = refl
boundary-at_most (MultiPolygon polygons) = refl

-- ---- the entries of two valid geometries
pub entries-at_most : (a b : Geometry) → IsValid a → IsValid b → AreAtMost (matrix_of a b) (most_entries a b)
entries-at_most a b v w =
    let m = (matrices_are_over_the_plane a b).computed in
    let first_interior : (t : PointSet) (d : Dim) → HasDimension (both (in_interior a) t) d → IsAtMost d (interior_dim a) =
    λ t d h. among-at_most (both (in_interior a) t) (in_interior a) d (interior_dim a) (in-first (in_interior a) t) h (interior_has_dimension a v) in
    let first_boundary : (t : PointSet) (d : Dim) → HasDimension (both (in_boundary a) t) d → IsAtMost d (boundary_most a) =
    λ t d h. through d (boundary_dim a) (boundary_most a)
    (among-at_most (both (in_boundary a) t) (in_boundary a) d (boundary_dim a) (in-first (in_boundary a) t) h (boundary_has_dimension a v)) (boundary-at_most a) in
    let second_interior : (s : PointSet) (d : Dim) → HasDimension (both s (in_interior b)) d → IsAtMost d (interior_dim b) =
    λ s d h. among-at_most (both s (in_interior b)) (in_interior b) d (interior_dim b) (in-second s (in_interior b)) h (interior_has_dimension b w) in
    let second_boundary : (s : PointSet) (d : Dim) → HasDimension (both s (in_boundary b)) d → IsAtMost d (boundary_most b) =
    λ s d h. through d (boundary_dim b) (boundary_most b)
    (among-at_most (both s (in_boundary b)) (in_boundary b) d (boundary_dim b) (in-second s (in_boundary b)) h (boundary_has_dimension b w)) (boundary-at_most b) in (
      at-most-lesser _ _ _ (first_interior (in_interior b) _ m.0) (second_interior (in_interior a) _ m.0),
      (
        at-most-lesser _ _ _ (first_interior (in_boundary b) _ m.1.0) (second_boundary (in_interior a) _ m.1.0),
        (
          first_interior (in_exterior b) _ m.1.1.0,
          (
            at-most-lesser _ _ _ (first_boundary (in_interior b) _ m.1.1.1.0) (second_interior (in_boundary a) _ m.1.1.1.0),
            (
              at-most-lesser _ _ _ (first_boundary (in_boundary b) _ m.1.1.1.1.0) (second_boundary (in_boundary a) _ m.1.1.1.1.0),
              (
                first_boundary (in_exterior b) _ m.1.1.1.1.1.0,
                (
                  second_interior (in_exterior a) _ m.1.1.1.1.1.1.0,
                  (
                    second_boundary (in_exterior a) _ m.1.1.1.1.1.1.1.0,
                    (at-most-two _, refl),
                  ),
                ),
              ),
            ),
          ),
        ),
      ),
    )

-- what their kinds say holds of the matrix
pub kinds-hold : (a b : Geometry) → IsValid a → IsValid b → Holds (known_of_kinds a b) (matrix_of a b)
kinds-hold a b v w =
    record {
      least = (refl, (refl, (refl, (refl, (refl, (refl, (refl, (refl, (refl, refl)))))))));
      most = entries-at_most a b v w;
      contact = λ c. absurd (both_ways false refl c);
    }
