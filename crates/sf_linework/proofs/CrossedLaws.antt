-- What edges that cross at a point of no other edge show of the matrix of two lines, or of a line and an area: the lines have the
-- point in their interiors, on each side of it there is a piece of either line, and the area is wider than the line.
use Rattle.std.proofs.Common.{◌≡◌, refl, sym, subst, true, false}
use Rattle.std.proofs.lemmas.Bool.{and_from, both_ways}
use Rattle.sf_crossing.specs.Crossing.{HaveCrossing}
use Rattle.sf_geometry.specs.declared.geometry.Geometry.{Geometry}
use Rattle.sf_geometry.specs.Parts.{edges_of}
use Rattle.sf_geometry.specs.PointSets.{in_boundary, in_exterior, in_interior}
use Rattle.sf_grid.specs.Plane.{IsPoint, Point as PlanePoint}
use Rattle.sf_known.specs.Known.{Holds, IsAtMost}
use Rattle.sf_known.specs.Transposed.{known_transposed, transposed}
use Rattle.sf_known.proofs.OrderLaws.{at-most-two}
use Rattle.sf_plane.proofs.ShareLaws.{in_from_contains}
use Rattle.sf_plane.proofs.UnionLaws.{point_in_segment, segment_in_triangle}
use Rattle.sf_plane.specs.declared.dim.Dim.{Dim}
use Rattle.sf_plane.specs.declared.dim.Dim.TheVariants as dims
use Rattle.sf_plane.specs.Dimension.{HasDimension, HasPoint, HasSegment, HasTriangle, PointSet}
use Rattle.sf_prepared.proofs.TransposedLaws.{matrices_are_transposed}
use Rattle.sf_valid_rules.specs.Validity.{IsValid}
use Rattle.sf_relate.specs.declared.shape.Shape.{Shape}
use Rattle.sf_relate.specs.declared.shape.Shape.TheVariants.{Areas, Lines, Points}
use Rattle.sf_relate.specs.AllPieces.{all_pieces}
use Rattle.sf_relate.specs.Contact.{is_in}
use Rattle.sf_relate.specs.Matrices.{both, matrix_of}
use Rattle.sf_relate.specs.Places.{shape_of}
use Rattle.sf_relate.proofs.CommonBoxLaws.{edge-is-in}
use Rattle.sf_relate.proofs.FoundLaws.{nothing-holds}
use Rattle.sf_relate.proofs.OverlapLaws.{balanced-area, inside-at, on-boundary, outside-at}
use Rattle.sf_relate.proofs.SectorLaws.{crossing-clear, crossing-piece, swapped}
use Rattle.sf_relate.proofs.SetLaws.{exterior_union, first_has, interior_union, matrices_are_over_the_plane, second_has}
use Rattle.sf_relate.proofs.ToldLaws.{outside-both}
use Rattle.sf_linework.specs.Crossed.{CrossingShows, known_of_crossed, known_of_line_and_area, known_of_lines}
use Rattle.sf_linework.proofs.CrossedEndLaws.{crossing-ends, is-inside, is-outside}
use Rattle.sf_linework.proofs.CrossedPartLaws.{area-outside, first-inside, second-inside}

-- ---- a set's dimension is at least that of what it has
some-point : (set : PointSet) (d : Dim) → HasDimension set d → HasPoint set → IsAtMost dims.Zero d
some-point set dims.Nothing h k = absurd (h k)
some-point set dims.Zero h k = refl
some-point set dims.One h k = refl
some-point set dims.Two h k = refl

some-segment : (set : PointSet) (d : Dim) → HasDimension set d → HasSegment set → IsAtMost dims.One d
some-segment set dims.Nothing h k = absurd (h (point_in_segment set k))
some-segment set dims.Zero h k = absurd (h.1 k)
some-segment set dims.One h k = refl
some-segment set dims.Two h k = refl

some-triangle : (set : PointSet) (d : Dim) → HasDimension set d → HasTriangle set → IsAtMost dims.Two d
some-triangle set dims.Nothing h k = absurd (h (point_in_segment set (segment_in_triangle set k)))
some-triangle set dims.Zero h k = absurd (h.1 (segment_in_triangle set k))
some-triangle set dims.One h k = absurd (h.1 k)
some-triangle set dims.Two h k = refl

-- ---- two lines
lines-hold : (a b : Geometry) → IsValid a → IsValid b → shape_of a ≡ Lines → shape_of b ≡ Lines → HaveCrossing (edges_of a) (edges_of b) → Holds known_of_lines (matrix_of a b)
lines-hold a b v w s t h =
    let es = edges_of a in
    let fs = edges_of b in
    let m = (matrices_are_over_the_plane a b).computed in
    let back = swapped es fs h in
    let first = in_from_contains es h.first h.of_first in
    let second = in_from_contains fs h.second h.of_second in
    let crossed : HasPoint (both (in_interior a) (in_interior b)) =
    record {
      point = h.point;
      is_point = h.is_point;
      has =
          and_from (in_interior a h.point) (in_interior b h.point) (is-inside a h.first h.point s (crossing-ends es fs h) first h.on_first)
          (is-inside b h.second h.point t (crossing-ends fs es back) second h.on_second);
    } in
    let first_outside =
    first-inside a b (in_exterior b) s v (exterior_union (all_pieces a b) b (second_has a b))
    (crossing-clear es fs h (both (is_in a) (in_exterior b)) (λ q i on off. and_from (is_in a q) (in_exterior b q) (edge-is-in a h.first q first on) (is-outside b q t i off))) in
    let second_outside =
    second-inside a b (in_exterior a) t w (exterior_union (all_pieces a b) a (first_has a b))
    (crossing-clear fs es back (both (in_exterior a) (is_in b)) (λ q i on off. and_from (in_exterior a q) (is_in b q) (is-outside a q s i off) (edge-is-in b h.second q second on))) in
    record {
      least = (
        some-point (both (in_interior a) (in_interior b)) _ m.0 crossed,
        (
          refl,
          (
            some-segment (both (in_interior a) (in_exterior b)) _ m.1.1.0 first_outside,
            (
              refl,
              (
                refl,
                (
                  refl,
                  (
                    some-segment (both (in_exterior a) (in_interior b)) _ m.1.1.1.1.1.1.0 second_outside,
                    (refl, (some-triangle (both (in_exterior a) (in_exterior b)) _ m.1.1.1.1.1.1.1.1.0 (outside-both a b v w), refl)),
                  ),
                ),
              ),
            ),
          ),
        ),
      );
      most = (nothing-holds a b).most;
      contact = (nothing-holds a b).contact;
    }

-- ---- a line and an area
line-and-area-hold : (a b : Geometry) → IsValid a → IsValid b → shape_of a ≡ Lines → shape_of b ≡ Areas → HaveCrossing (edges_of a) (edges_of b) →
    Holds known_of_line_and_area (matrix_of a b)
line-and-area-hold a b v w s t h =
    let es = edges_of a in
    let fs = edges_of b in
    let m = (matrices_are_over_the_plane a b).computed in
    let back = swapped es fs h in
    let first = in_from_contains es h.first h.of_first in
    let second = in_from_contains fs h.second h.of_second in
    let balanced = λ (q : PlanePoint) (i : IsPoint q). balanced-area b q w t i in
    let inside =
    first-inside a b (in_interior b) s v (interior_union (all_pieces a b) b (second_has a b))
    (crossing-piece es fs h balanced true (both (is_in a) (in_interior b)) (λ q i on f. and_from (is_in a q) (in_interior b q) (edge-is-in a h.first q first on) (inside-at b q w t i f))) in
    let outside =
    first-inside a b (in_exterior b) s v (exterior_union (all_pieces a b) b (second_has a b))
    (crossing-piece es fs h balanced false (both (is_in a) (in_exterior b)) (λ q i on f. and_from (is_in a q) (in_exterior b q) (edge-is-in a h.first q first on) (outside-at b q w t i f))) in
    let on_border : HasPoint (both (in_interior a) (in_boundary b)) =
    record {
      point = h.point;
      is_point = h.is_point;
      has =
          and_from (in_interior a h.point) (in_boundary b h.point) (is-inside a h.first h.point s (crossing-ends es fs h) first h.on_first)
          (on-boundary b h.second h.point t second h.on_second);
    } in
    let border =
    crossing-clear fs es back (both (in_exterior a) (in_boundary b)) (λ q i on off. and_from (in_exterior a q) (in_boundary b q) (is-outside a q s i off) (on-boundary b h.second q t second on)) in
    record {
      least = (
        some-segment (both (in_interior a) (in_interior b)) _ m.0 inside,
        (
          some-point (both (in_interior a) (in_boundary b)) _ m.1.0 on_border,
          (
            some-segment (both (in_interior a) (in_exterior b)) _ m.1.1.0 outside,
            (
              refl,
              (
                refl,
                (
                  refl,
                  (
                    some-triangle (both (in_exterior a) (in_interior b)) _ m.1.1.1.1.1.1.0 (area-outside a b s t v w),
                    (
                      some-segment (both (in_exterior a) (in_boundary b)) _ m.1.1.1.1.1.1.1.0 border,
                      (some-triangle (both (in_exterior a) (in_exterior b)) _ m.1.1.1.1.1.1.1.1.0 (outside-both a b v w), refl),
                    ),
                  ),
                ),
              ),
            ),
          ),
        ),
      );
      most = (nothing-holds a b).most;
      contact = (nothing-holds a b).contact;
    }

-- an area and a line
area-and-line-hold : (a b : Geometry) → Holds known_of_line_and_area (matrix_of b a) → Holds (known_transposed known_of_line_and_area) (matrix_of a b)
area-and-line-hold a b h =
    let l = h.least in
    let turned : Holds (known_transposed known_of_line_and_area) (transposed (matrix_of b a)) =
    record {
      least = (l.0, (l.1.1.1.0, (l.1.1.1.1.1.1.0, (l.1.0, (l.1.1.1.1.0, (l.1.1.1.1.1.1.1.0, (l.1.1.0, (l.1.1.1.1.1.0, (l.1.1.1.1.1.1.1.1.0, refl)))))))));
      most = (at-most-two _, (at-most-two _, (at-most-two _, (at-most-two _, (at-most-two _, (at-most-two _, (at-most-two _, (at-most-two _, (at-most-two _, refl)))))))));
      contact = λ k. absurd (both_ways false refl k);
    } in
    subst (Holds (known_transposed known_of_line_and_area)) (sym (matrices_are_transposed b a)) turned

-- ---- the law
pub crossing_shows : CrossingShows
crossing_shows a b v w h = by_shapes (shape_of a) (shape_of b) refl refl
  where
    by_shapes : (s t : Shape) → shape_of a ≡ s → shape_of b ≡ t → Holds (known_of_crossed s t) (matrix_of a b)
    by_shapes Lines Lines s t = lines-hold a b v w s t h
    by_shapes Lines Areas s t = line-and-area-hold a b v w s t h
    by_shapes Areas Lines s t = area-and-line-hold a b (line-and-area-hold b a w v t s (swapped (edges_of a) (edges_of b) h))
    by_shapes Lines Points s t = nothing-holds a b
    by_shapes Areas Areas s t = nothing-holds a b
    by_shapes Areas Points s t = nothing-holds a b
    by_shapes Points t s u = nothing-holds a b
