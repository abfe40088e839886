-- The points of a geometry and its segments: who leaves a geometry passes one of them.
use Rattle.std.proofs.Common.{◌≡◌, ◌≢◌, refl, ap, sym, ◌∙◌, subst, ◌<◌, arith, Bool, true, false, ◌&&◌, ◌||◌, not, List, [], ◌∷◌, map, length, ◌⊎◌, inl, inr, ⊎_elim}
use Rattle.std.specs.Prelude.{IsTrue}
use Rattle.std.specs.List.{AllByRecursion, flat_map, list_any}
use Rattle.std.proofs.lemmas.Bool.{and_parts, both_ways, false_from_ne_true, or_cases, or_left, or_right}
use Rattle.std.proofs.lemmas.List.Folds.{list_any-append}
use Rattle.sf_grid.specs.Plane.{Coordinates, IsPoint, Point as PlanePoint, grid_point, same_point}
use Rattle.sf_grid.specs.Edge.{Edge as Line, edge_above, on_edge}
use Rattle.sf_grid.proofs.CallerLemmas.{same_point_is_equivalence}
use Rattle.sf_slabs.proofs.CallerLemmas.{each-parts}
use Rattle.sf_geometry.specs.declared.geometry.Geometry.{Geometry}
use Rattle.sf_geometry.specs.declared.geometry.Geometry.TheVariants.{Point, LineString, Polygon, MultiPoint, MultiLineString, MultiPolygon}
use Rattle.sf_geometry.specs.Lists.{edges_of as edges_of_list, ends_of, is_closed}
use Rattle.sf_geometry.specs.Parts.{edges_of, joined}
use Rattle.sf_geometry.specs.PointSets.{in_boundary, in_exterior, in_interior, is_among, on_line}
use Rattle.sf_valid_rules.specs.Validity.{IsValid}
use Rattle.sf_valid_rules.proofs.TightLaws.{edges-differ}
use Rattle.sf_polygons.proofs.TestLaws.{any-follows}
use Rattle.sf_interiors.specs.Paths.{parity}
use Rattle.sf_interiors.proofs.ParityLaws.{odd-append, on-edges}
use Rattle.sf_interiors.proofs.RingLaws.{ring-chain}
use Rattle.sf_interiors.proofs.SideLaws.{differ}
use Rattle.sf_relate.specs.declared.place.Place.{Place}
use Rattle.sf_relate.specs.declared.place.Place.TheVariants.{Interior, Boundary}
use Rattle.sf_relate.specs.declared.shape.Shape.{Shape}
use Rattle.sf_relate.specs.declared.shape.Shape.TheVariants.{Points, Lines, Areas}
use Rattle.sf_relate.specs.Contact.{is_in}
use Rattle.sf_relate.specs.Locating.{area_place, edges_place, place_by_tests}
use Rattle.sf_relate.specs.Places.{is_place, shape_of}
use Rattle.sf_relate.proofs.EnvelopeLaws.{valid-closed}
use Rattle.sf_relate.proofs.PlaceLaws.{end-on, odd-some-count}
use Rattle.sf_relate.proofs.TestedPlaces.{tests_tell_places}
use Rattle.sf_contact.specs.Divided.{is_area}
use Rattle.sf_contact.proofs.PairLaws.{edges-in}
use Rattle.sf_distance.specs.Squares.{square_between}
use Rattle.sf_distance.proofs.DotLaws.{dot_is_point, point_is_dot}
use Rattle.sf_edge_distance.proofs.SearchLaws.{self}
use Rattle.sf_nearness.specs.Laws.{LeavesBySegments}
use Rattle.sf_nearness.specs.Leaving.{IsPassed}
use Rattle.sf_nearness.specs.Segments.{dot_at, on_segments, segments_of}
use Rattle.sf_nearness.specs.Sets.{IsOf}
use Rattle.sf_nearness.proofs.LeavingLaws.{leaving_passes}

-- ---- the points of a geometry
either : (i b : Bool) → not (not i && not b) ≡ (i || b)
either true true = refl
either true false = refl
either false true = refl
either false false = refl

pub in-of : (a : Geometry) (q : PlanePoint) → IsOf a q → is_in a q ≡ true
in-of a q h = sym (either (in_interior a q) (in_boundary a q)) ∙ h

pub of-in : (a : Geometry) (q : PlanePoint) → is_in a q ≡ true → IsOf a q
of-in a q h = either (in_interior a q) (in_boundary a q) ∙ h

not-both : (b : Bool) → b ≡ true → not b ≡ true → ⊥
not-both true h k = both_ways false refl k
not-both false h k = both_ways false refl h

pub out-of : (a : Geometry) (q : PlanePoint) → IsTrue (in_exterior a q) → is_in a q ≡ false
out-of a q h = false_from_ne_true (is_in a q) (λ is. not-both (in_exterior a q) h (of-in a q is))

pub exterior-of : (a : Geometry) (q : PlanePoint) → (is_in a q ≡ true → ⊥) → IsTrue (in_exterior a q)
exterior-of a q none = by (in_exterior a q) refl
  where
    by : (b : Bool) → in_exterior a q ≡ b → in_exterior a q ≡ true
    by true is = is
    by false is = absurd (none (in-of a q (ap not is)))

-- ---- points as segments
dots-on : (ps : List Coordinates) (q : PlanePoint) → is_among ps q ≡ true → list_any (λ e. on_edge e q) (map dot_at ps) ≡ true
dots-on [] q h = absurd (both_ways false refl h)
dots-on (p ∷ ps) q h =
    ⊎_elim
    (λ here. or_left (on_edge (dot_at p) q) (list_any (λ e. on_edge e q) (map dot_at ps)) (point_is_dot p q (same_point_is_equivalence.symmetric (grid_point p) q here)))
    (λ later. or_right (on_edge (dot_at p) q) (list_any (λ e. on_edge e q) (map dot_at ps)) (dots-on ps q later))
    (or_cases (same_point (grid_point p) q) (is_among ps q) h)

on-dots : (ps : List Coordinates) (q : PlanePoint) → list_any (λ e. on_edge e q) (map dot_at ps) ≡ true → is_among ps q ≡ true
on-dots [] q h = absurd (both_ways false refl h)
on-dots (p ∷ ps) q h =
    ⊎_elim
    (λ here. or_left (same_point (grid_point p) q) (is_among ps q) (same_point_is_equivalence.symmetric q (grid_point p) (dot_is_point p q here)))
    (λ later. or_right (same_point (grid_point p) q) (is_among ps q) (on-dots ps q later))
    (or_cases (on_edge (dot_at p) q) (list_any (λ e. on_edge e q) (map dot_at ps)) h)

first-of : (b : Bool) → (b || false) ≡ true → b ≡ true
first-of true h = refl
first-of false h = h

-- ---- what is in points or lines is on a segment
points-on : (a : Geometry) (q : PlanePoint) → shape_of a ≡ Points → is_in a q ≡ true → on_segments a q ≡ true
points-on (Point p) q s h = dots-on (p ∷ []) q (or_left (same_point (grid_point p) q) false (first-of (same_point (grid_point p) q) h))
points-on (MultiPoint ps) q s h = dots-on ps q (first-of (is_among ps q) h)
points-on (LineString ps) q s h = absurd cc
points-on (MultiLineString lines) q s h = absurd cc
points-on (Polygon rings) q s h = absurd cc
points-on (MultiPolygon polygons) q s h = absurd cc

lines-on : (a : Geometry) (q : PlanePoint) → shape_of a ≡ Lines → IsPoint q → is_in a q ≡ true → on_segments a q ≡ true
lines-on (Point p) q s i h = absurd cc
lines-on (MultiPoint ps) q s i h = absurd cc
lines-on (Polygon rings) q s i h = absurd cc
lines-on (MultiPolygon polygons) q s i h = absurd cc
lines-on (LineString ps) q s i h =
    on-edges (ps ∷ []) q
    ∙ or_left (on_line ps q) false
    (⊎_elim (λ inner. (and_parts (on_line ps q) (not (is_among (ends_of ps) q)) inner).0) (λ end. end-on ps q i end)
    (or_cases (in_interior (LineString ps) q) (in_boundary (LineString ps) q) h))
lines-on (MultiLineString lines) q s i h =
    on-edges lines q
    ∙ ⊎_elim (λ inner. (and_parts (list_any (λ ps. on_line ps q) lines) (not (in_boundary (MultiLineString lines) q)) inner).0)
    (λ end. any-follows (λ ps. is_among (ends_of ps) q) (λ ps. on_line ps q) lines (λ ps m. end-on ps q i m) (odd-some-count (λ ps. is_among (ends_of ps) q) lines end))
    (or_cases (in_interior (MultiLineString lines) q) (in_boundary (MultiLineString lines) q) h)

pub flat-on : (a : Geometry) (q : PlanePoint) → is_area a ≡ false → IsPoint q → is_in a q ≡ true → on_segments a q ≡ true
flat-on (Point p) q flat i h = points-on (Point p) q refl h
flat-on (MultiPoint ps) q flat i h = points-on (MultiPoint ps) q refl h
flat-on (LineString ps) q flat i h = lines-on (LineString ps) q refl i h
flat-on (MultiLineString lines) q flat i h = lines-on (MultiLineString lines) q refl i h
flat-on (Polygon rings) q flat i h = absurd (both_ways true flat refl)
flat-on (MultiPolygon polygons) q flat i h = absurd (both_ways true flat refl)

-- ---- what is on a segment is in the geometry
pub segments-in : (a : Geometry) (q : PlanePoint) → on_segments a q ≡ true → is_in a q ≡ true
segments-in (Point p) q h = or_left (same_point (grid_point p) q) false (first-of (same_point (grid_point p) q) (on-dots (p ∷ []) q h))
segments-in (MultiPoint ps) q h = or_left (is_among ps q) false (on-dots ps q h)
segments-in (LineString ps) q h = edges-in (LineString ps) q h
segments-in (MultiLineString lines) q h = edges-in (MultiLineString lines) q h
segments-in (Polygon rings) q h = edges-in (Polygon rings) q h
segments-in (MultiPolygon polygons) q h = edges-in (MultiPolygon polygons) q h

-- ---- an area by the parities of its edges above
record Area (b : Geometry) : Type 0 where
  rings : List (List Coordinates)
  edges : edges_of b ≡ flat_map edges_of_list rings
  segments : segments_of b ≡ flat_map edges_of_list rings
  places : (q : PlanePoint) → place_by_tests b q ≡ edges_place (flat_map edges_of_list rings) q
  closed : AllByRecursion (λ ring. is_closed ring ≡ true) rings

area-of : (b : Geometry) → IsValid b → shape_of b ≡ Areas → Area b
area-of (Point p) v s = absurd cc
area-of (MultiPoint ps) v s = absurd cc
area-of (LineString ps) v s = absurd cc
area-of (MultiLineString lines) v s = absurd cc
area-of (Polygon rings) v s =
    record { rings = rings; edges = refl; segments = refl; places = λ q. refl; closed = (each-parts (λ ring. is_closed ring ≡ true) rings [] (valid-closed (Polygon rings) v)).0 }
area-of (MultiPolygon polygons) v s = record { rings = joined polygons; edges = refl; segments = refl; places = λ q. refl; closed = valid-closed (MultiPolygon polygons) v }

-- off its edges a point is in it exactly where an odd number of them is above
inside : (b : Geometry) (area : Area b) (q : PlanePoint) → IsValid b → IsPoint q → list_any (λ e. on_edge e q) (flat_map edges_of_list area.rings) ≡ false → is_in b q ≡ parity (flat_map edges_of_list area.rings) q
inside b area q v i off =
    let es = flat_map edges_of_list area.rings in
    let tests = tests_tell_places b q v i in
    ap (λ t. t || in_boundary b q) tests.interior
    ∙ ap (λ t. is_place Interior (place_by_tests b q) || t) tests.boundary
    ∙ ap (λ (place : Place). is_place Interior place || is_place Boundary place) (area.places q)
    ∙ by_parity (list_any (λ e. on_edge e q) es) (parity es q) off
  where
    by_parity : (on odd : Bool) → on ≡ false → (is_place Interior (area_place on odd) || is_place Boundary (area_place on odd)) ≡ odd
    by_parity true odd none = absurd (both_ways true none refl)
    by_parity false true none = refl
    by_parity false false none = refl

-- ---- two points of different parity
same-or-not : (b c : Bool) → (b ≡ c) ⊎ (b ≢ c)
same-or-not true true = inl refl
same-or-not true false = inr (λ e. both_ways false refl (sym e))
same-or-not false true = inr (λ e. both_ways false refl e)
same-or-not false false = inl refl

rings-passed : (rings : List (List Coordinates)) (p q : PlanePoint) → AllByRecursion (λ ring. is_closed ring ≡ true) rings → IsPoint p → IsPoint q
    → parity (flat_map edges_of_list rings) p ≢ parity (flat_map edges_of_list rings) q → IsPassed (flat_map edges_of_list rings) p q
rings-passed [] p q closed o i d = absurd (d refl)
rings-passed (ring ∷ rings) p q closed o i d =
    ⊎_elim
    (λ same.
    let rest =
    rings-passed rings p q closed.1 o i
    (λ e. d (odd-append (λ f. edge_above f p) (edges_of_list ring) (flat_map edges_of_list rings)
    ∙ ap (λ b. differ b (parity (flat_map edges_of_list rings) p)) same
    ∙ ap (differ (parity (edges_of_list ring) q)) e
    ∙ sym (odd-append (λ f. edge_above f q) (edges_of_list ring) (flat_map edges_of_list rings)))) in
    record {
      point = rest.point;
      is_point = rest.is_point;
      nearer = rest.nearer;
      on_chain =
          list_any-append (λ e. on_edge e rest.point) (edges_of_list ring) (flat_map edges_of_list rings)
          ∙ or_right (list_any (λ e. on_edge e rest.point) (edges_of_list ring)) (list_any (λ e. on_edge e rest.point) (flat_map edges_of_list rings)) rest.on_chain;
    })
    (λ other.
    let here = leaving_passes (edges_of_list ring) p q (ring-chain ring closed.0) (edges-differ ring) o i other in
    record {
      point = here.point;
      is_point = here.is_point;
      nearer = here.nearer;
      on_chain =
          list_any-append (λ e. on_edge e here.point) (edges_of_list ring) (flat_map edges_of_list rings)
          ∙ or_left (list_any (λ e. on_edge e here.point) (edges_of_list ring)) (list_any (λ e. on_edge e here.point) (flat_map edges_of_list rings)) here.on_chain;
    })
    (same-or-not (parity (edges_of_list ring) p) (parity (edges_of_list ring) q))

-- ---- who leaves passes a segment
stays : (a : Geometry) (p q : PlanePoint) → IsPoint p → on_segments a p ≡ true → IsPassed (segments_of a) p q
stays a p q o on = record { point = p; is_point = o; on_chain = on; nearer = self (square_between p q) }

by_edge : {P : Type 0} (b : Bool) → (b ≡ true → P) → (b ≡ false → P) → P
by_edge true on off = on refl
by_edge false on off = off refl

area-leaves : (a : Geometry) (p q : PlanePoint) → IsValid a → shape_of a ≡ Areas → IsPoint p → IsPoint q → is_in a p ≡ true → is_in a q ≡ false → IsPassed (segments_of a) p q
area-leaves a p q v s o i in_p out_q =
    by_edge (on_segments a p) (λ on. stays a p q o on)
    (λ off.
    let off_q = false_from_ne_true (on_segments a q) (λ on. both_ways (is_in a q) out_q (segments-in a q on)) in
    let at_p = sym (inside a area p v o (sym (ap (λ es. list_any (λ e. on_edge e p) es) area.segments) ∙ off)) ∙ in_p in
    let at_q = sym (inside a area q v i (sym (ap (λ es. list_any (λ e. on_edge e q) es) area.segments) ∙ off_q)) ∙ out_q in
    subst (λ (es : List Line). IsPassed es p q) (sym area.segments)
    (rings-passed area.rings p q area.closed o i (λ e. both_ways (parity (flat_map edges_of_list area.rings) q) at_q (sym e ∙ at_p))))
  where
    area : Area a
    area = area-of a v s

pub leaves_by_segments : LeavesBySegments
leaves_by_segments a p q v o i in_p out_q = by_shape (shape_of a) refl
  where
    by_shape : (shape : Shape) → shape_of a ≡ shape → IsPassed (segments_of a) p q
    by_shape Points s = stays a p q o (points-on a p s (in-of a p in_p))
    by_shape Lines s = stays a p q o (lines-on a p s o (in-of a p in_p))
    by_shape Areas s = area-leaves a p q v s o i (in-of a p in_p) (out-of a q out_q)

-- ---- a valid geometry has a segment, since it has a point
no-segment : (a : Geometry) (p : PlanePoint) → IsValid a → IsPoint p → is_in a p ≡ true → segments_of a ≡ [] → ⊥
no-segment a p v o in_p none = by_shape (shape_of a) refl
  where
    off : on_segments a p ≡ false
    off = ap (λ (es : List Line). list_any (λ e. on_edge e p) es) none

    by_shape : (shape : Shape) → shape_of a ≡ shape → ⊥
    by_shape Points s = both_ways (on_segments a p) off (points-on a p s in_p)
    by_shape Lines s = both_ways (on_segments a p) off (lines-on a p s o in_p)
    by_shape Areas s =
        let area = area-of a v s in
        both_ways (is_in a p)
        (inside a area p v o (sym (ap (λ es. list_any (λ e. on_edge e p) es) area.segments) ∙ off) ∙ ap (λ (es : List Line). parity es p) (sym area.segments ∙ none)) in_p

pub some-segment : (a : Geometry) (p : PlanePoint) → IsValid a → IsPoint p → is_in a p ≡ true → 0 < length (segments_of a)
some-segment a p v o in_p = by (segments_of a) refl
  where
    by : (es : List Line) → segments_of a ≡ es → 0 < length (segments_of a)
    by [] is = absurd (no-segment a p v o in_p is)
    by (e ∷ es) is = subst (λ (fs : List Line). 0 < length fs) (sym is) (omega arith)
