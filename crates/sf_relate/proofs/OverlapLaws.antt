-- Valid areas of which edges cross at a point of no other edge: the sectors round it tell each entry of the matrix but that of the
-- two boundaries, which share the point.
use Rattle.std.proofs.Common.{◌≡◌, refl, ap, sym, ◌∙◌, subst, Bool, true, false, List, [], ◌∷◌}
use Rattle.std.specs.Prelude.{if◌then◌else◌}
use Rattle.std.specs.List.{list_any}
use Rattle.std.proofs.lemmas.Bool.{and_from, or_from}
use Rattle.sf_geometry.specs.declared.geometry.Geometry.{Geometry}
use Rattle.sf_geometry.specs.declared.geometry.Geometry.TheVariants.{Point, LineString, Polygon, MultiPoint, MultiLineString, MultiPolygon}
use Rattle.sf_geometry.specs.Lists.{is_closed}
use Rattle.sf_geometry.specs.Parts.{edges_of, joined}
use Rattle.sf_geometry.specs.PointSets.{in_boundary, in_exterior, in_interior}
use Rattle.sf_grid.specs.Edge.{Edge as Line, IsOnEdge, on_edge}
use Rattle.sf_grid.specs.EvenOdd.{edges_above, is_odd}
use Rattle.sf_grid.specs.Plane.{Coordinates, IsPoint, Point as PlanePoint}
use Rattle.sf_interiors.proofs.ChainLaws.{IsBalanced}
use Rattle.sf_interiors.proofs.InsideLaws.{IsOff}
use Rattle.sf_interiors.proofs.RingLaws.{balanced-rings}
use Rattle.sf_plane.proofs.PlaceLaws.{IsIn}
use Rattle.sf_plane.proofs.ShareLaws.{in_from_contains}
use Rattle.sf_plane.proofs.UnionLaws.{dimension_is_unique, point_in_segment}
use Rattle.sf_plane.specs.declared.dim.Dim.{Dim}
use Rattle.sf_plane.specs.declared.dim.Dim.TheVariants as dims
use Rattle.sf_plane.specs.Dimension.{HasDimension, HasPoint, HasSegment, HasTriangle, PointSet}
use Rattle.sf_plane.specs.Unions.{dimension_by_samples}
use Rattle.sf_valid_rules.proofs.MemberLaws.{each-of_flat, one-any}
use Rattle.sf_valid_rules.specs.Validity.{IsValid}
use Rattle.sf_relate.specs.declared.place.Place.TheVariants.{Interior, Exterior}
use Rattle.sf_relate.specs.declared.shape.Shape.TheVariants.{Areas}
use Rattle.sf_relate.specs.AllPieces.{all_pieces}
use Rattle.sf_relate.specs.Areas.{CrossingAreasOverlap}
use Rattle.sf_relate.specs.Locating.{area_place, edges_place, place_by_tests}
use Rattle.sf_relate.specs.Matrices.{both}
use Rattle.sf_relate.specs.Places.{IsPlaceOf, shape_of}
use Rattle.sf_relate.proofs.AreasLaws.{by-edges, first-thin, second-thin}
use Rattle.sf_relate.proofs.EnvelopeLaws.{valid-closed}
use Rattle.sf_relate.proofs.FoldLaws.{cons}
use Rattle.sf_relate.proofs.SectorLaws.{IsAt, crossing-piece, crossing-triangle, swapped}
use Rattle.sf_relate.proofs.SetLaws.{matrices_are_over_the_plane}
use Rattle.sf_relate.proofs.TestedPlaces.{tests_tell_places}
use Rattle.sf_relate.proofs.ToldLaws.{exterior-from, outside-both}

-- ---- points by the parity of the edges above them
pub none-on : (q : PlanePoint) (es : List Line) → IsOff q es → list_any (λ e. on_edge e q) es ≡ false
none-on q [] h = refl
none-on q (e ∷ es) h = or_from (on_edge e q) (list_any (λ f. on_edge f q) es) h.0 (none-on q es h.1)

by-tests : (a : Geometry) (q : PlanePoint) → shape_of a ≡ Areas → place_by_tests a q ≡ edges_place (edges_of a) q
by-tests (Polygon rings) q s = refl
by-tests (MultiPolygon polygons) q s = refl
by-tests (Point p) q s = absurd cc
by-tests (MultiPoint ps) q s = absurd cc
by-tests (LineString ps) q s = absurd cc
by-tests (MultiLineString lines) q s = absurd cc

place-at : (a : Geometry) (odd : Bool) (q : PlanePoint) → IsValid a → shape_of a ≡ Areas → IsPoint q → IsAt (edges_of a) odd q → IsPlaceOf a q (if odd then Interior else Exterior)
place-at a odd q v s i h =
    subst (IsPlaceOf a q)
    (by-tests a q s ∙ ap (λ on. area_place on (is_odd (edges_above q (edges_of a)))) (none-on q (edges_of a) h.off) ∙ ap (area_place false) h.parity)
    (tests_tell_places a q v i)

pub inside-at : (a : Geometry) (q : PlanePoint) → IsValid a → shape_of a ≡ Areas → IsPoint q → IsAt (edges_of a) true q → in_interior a q ≡ true
inside-at a q v s i h = (place-at a true q v s i h).interior

pub outside-at : (a : Geometry) (q : PlanePoint) → IsValid a → shape_of a ≡ Areas → IsPoint q → IsAt (edges_of a) false q → in_exterior a q ≡ true
outside-at a q v s i h = let p = place-at a false q v s i h in exterior-from a q (or_from (in_interior a q) (in_boundary a q) p.interior p.boundary)

pub on-boundary : (a : Geometry) (e : Line) (q : PlanePoint) → shape_of a ≡ Areas → IsIn (edges_of a) e → IsOnEdge e q → in_boundary a q ≡ true
on-boundary a e q s i on = sym (by-edges a q s) ∙ one-any (λ f. on_edge f q) (edges_of a) e i on

pub balanced-area : (a : Geometry) (q : PlanePoint) → IsValid a → shape_of a ≡ Areas → IsPoint q → IsBalanced (edges_of a) q
balanced-area (Polygon rings) q v s i = balanced-rings rings q i (each-of_flat (λ ring. is_closed ring ≡ true) (λ (rs : List (List Coordinates)). rs) (rings ∷ []) (valid-closed (Polygon rings) v)).0
balanced-area (MultiPolygon polygons) q v s i = balanced-rings (joined polygons) q i (valid-closed (MultiPolygon polygons) v)
balanced-area (Point p) q v s i = absurd cc
balanced-area (MultiPoint ps) q v s i = absurd cc
balanced-area (LineString ps) q v s i = absurd cc
balanced-area (MultiLineString lines) q v s i = absurd cc

-- ---- dimensions
two : (set : PointSet) (d : Dim) → HasDimension set d → HasTriangle set → d ≡ dims.Two
two set d h t = dimension_is_unique set d dims.Two h t

one : (set : PointSet) (d : Dim) → HasDimension set d → (d ≡ dims.Two → ⊥) → HasSegment set → d ≡ dims.One
one set dims.Nothing h thin k = absurd (h (point_in_segment set k))
one set dims.Zero h thin k = absurd (h.1 k)
one set dims.One h thin k = refl
one set dims.Two h thin k = absurd (thin refl)

abbrev is_one : Dim → Bool
is_one dims.One = true
is_one d = false

filled : (set : PointSet) (d : Dim) → HasDimension set d → (d ≡ dims.Two → ⊥) → HasPoint set → d ≡ (if is_one d then dims.One else dims.Zero)
filled set dims.Nothing h thin k = absurd (h k)
filled set dims.Zero h thin k = refl
filled set dims.One h thin k = refl
filled set dims.Two h thin k = absurd (thin refl)

-- ---- the law
pub crossing_areas_overlap : CrossingAreasOverlap
crossing_areas_overlap a b v w s t h =
    let es = edges_of a in
    let fs = edges_of b in
    let m = (matrices_are_over_the_plane a b).computed in
    let d = λ (x y : PointSet). dimension_by_samples (all_pieces a b) (both x y) in
    let bal = λ (q : PlanePoint) (i : IsPoint q). balanced-area a q v s i in
    let bal' = λ (q : PlanePoint) (i : IsPoint q). balanced-area b q w t i in
    let back = swapped es fs h in
    let first = in_from_contains es h.first h.of_first in
    let second = in_from_contains fs h.second h.of_second in
    record {
      along = is_one (d (in_boundary a) (in_boundary b));
      matrix =
          cons _ _ _ _
          (two (both (in_interior a) (in_interior b)) _ m.0
          (crossing-triangle es fs h bal bal' true true (both (in_interior a) (in_interior b))
          (λ q i f g. and_from (in_interior a q) (in_interior b q) (inside-at a q v s i f) (inside-at b q w t i g))))
          (cons _ _ _ _
          (one (both (in_interior a) (in_boundary b)) _ m.1.0 (second-thin b (in_interior a) _ w t m.1.0)
          (crossing-piece fs es back bal true (both (in_interior a) (in_boundary b))
          (λ q i on f. and_from (in_interior a q) (in_boundary b q) (inside-at a q v s i f) (on-boundary b h.second q t second on))))
          (cons _ _ _ _
          (two (both (in_interior a) (in_exterior b)) _ m.1.1.0
          (crossing-triangle es fs h bal bal' true false (both (in_interior a) (in_exterior b))
          (λ q i f g. and_from (in_interior a q) (in_exterior b q) (inside-at a q v s i f) (outside-at b q w t i g))))
          (cons _ _ _ _
          (one (both (in_boundary a) (in_interior b)) _ m.1.1.1.0 (first-thin a (in_interior b) _ v s m.1.1.1.0)
          (crossing-piece es fs h bal' true (both (in_boundary a) (in_interior b))
          (λ q i on f. and_from (in_boundary a q) (in_interior b q) (on-boundary a h.first q s first on) (inside-at b q w t i f))))
          (cons _ _ _ _
          (filled (both (in_boundary a) (in_boundary b)) _ m.1.1.1.1.0 (first-thin a (in_boundary b) _ v s m.1.1.1.1.0)
          (record {
            point = h.point;
            is_point = h.is_point;
            has = and_from (in_boundary a h.point) (in_boundary b h.point) (on-boundary a h.first h.point s first h.on_first) (on-boundary b h.second h.point t second h.on_second);
          }))
          (cons _ _ _ _
          (one (both (in_boundary a) (in_exterior b)) _ m.1.1.1.1.1.0 (first-thin a (in_exterior b) _ v s m.1.1.1.1.1.0)
          (crossing-piece es fs h bal' false (both (in_boundary a) (in_exterior b))
          (λ q i on f. and_from (in_boundary a q) (in_exterior b q) (on-boundary a h.first q s first on) (outside-at b q w t i f))))
          (cons _ _ _ _
          (two (both (in_exterior a) (in_interior b)) _ m.1.1.1.1.1.1.0
          (crossing-triangle es fs h bal bal' false true (both (in_exterior a) (in_interior b))
          (λ q i f g. and_from (in_exterior a q) (in_interior b q) (outside-at a q v s i f) (inside-at b q w t i g))))
          (cons _ _ _ _
          (one (both (in_exterior a) (in_boundary b)) _ m.1.1.1.1.1.1.1.0 (second-thin b (in_exterior a) _ w t m.1.1.1.1.1.1.1.0)
          (crossing-piece fs es back bal false (both (in_exterior a) (in_boundary b))
          (λ q i on f. and_from (in_exterior a q) (in_boundary b q) (outside-at a q v s i f) (on-boundary b h.second q t second on))))
          (cons _ _ _ _ (two (both (in_exterior a) (in_exterior b)) _ m.1.1.1.1.1.1.1.1.0 (outside-both a b v w)) refl))))))));
    }
