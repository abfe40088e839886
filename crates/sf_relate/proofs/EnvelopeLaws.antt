-- What is in a geometry with closed rings is in its envelope; so where two envelopes share no point there is no contact.
use Rattle.std.proofs.Common.{◌≡◌, refl, ℤ, pos, ◌*ℤ◌, ◌≤ℤ◌, arith, Bool, true, false, ◌&&◌, not, List, [], ◌∷◌, ◌++◌, inl, inr}
use Rattle.std.specs.Prelude.{if◌then◌else◌, int_le}
use Rattle.std.specs.List.{AllByRecursion, count_by, flat_map, list_any}
use Rattle.std.proofs.lemmas.Bool.{and_from, and_parts, both_ways, false_from_ne_true, or_cases}
use Rattle.std.proofs.lemmas.Int.{ints}
use Rattle.std.proofs.lemmas.List.Elements.{All-from_recursion}
use Rattle.sf_grid.specs.Plane.{Coordinates, IsPoint, Point as PlanePoint, grid_point, same_point}
use Rattle.sf_grid.specs.Edge.{edge_above, edge_between, on_edge}
use Rattle.sf_grid.specs.EvenOdd.{is_odd}
use Rattle.sf_grid.proofs.CallerLemmas.{test_from_le}
use Rattle.sf_slabs.proofs.CallerLemmas.{each-both, each-map, each-parts}
use Rattle.sf_geometry.specs.declared.geometry.Geometry.{Geometry}
use Rattle.sf_geometry.specs.declared.geometry.Geometry.TheVariants.{Point, LineString, Polygon, MultiPoint, MultiLineString, MultiPolygon}
use Rattle.sf_geometry.specs.Envelope.{envelope_of, extents_meet}
use Rattle.sf_geometry.specs.Lists.{before_tight, edges_between, edges_from, edges_of as edges_of_list, ends_of as ends_of_line, is_closed, is_same, tight}
use Rattle.sf_geometry.specs.Parts.{HasClosedRings, lines_of, lists_of, points_of, polygons_of, rings_of}
use Rattle.sf_geometry.specs.PointSets.{in_boundary, in_interior, in_polygon, in_ring, is_among, on_line, on_polygon, within_ring}
use Rattle.sf_plane.specs.Boxes.{Box, HasEnds, in_box}
use Rattle.sf_plane.proofs.BoxLaws.{common_point_meets, edge_in_box, ring_in_box}
use Rattle.sf_valid_rules.specs.Conditions.{Applies}
use Rattle.sf_valid_rules.specs.Rules.{Rule, line_rules, polygon_rules, ring_rules}
use Rattle.sf_valid_rules.specs.Validity.{IsValid}
use Rattle.sf_valid_rules.proofs.MemberLaws.{each-of_flat}
use Rattle.sf_interiors.proofs.RingLaws.{ring-chain}
use Rattle.sf_strands.proofs.EndLaws.{start-same-on}
use Rattle.sf_polygons.proofs.TestLaws.{any-follows}
use Rattle.sf_edge_tree.proofs.EnvelopeLaws.{HasPoint, points-in as points-within}
use Rattle.sf_validity.specs.Beside.{box_of_extent}
use Rattle.sf_relate.specs.Contact.{ApartHasNoContact, LiesInBox}
use Rattle.sf_relate.specs.Matrices.{matrix_of}
use Rattle.sf_known.specs.Patterns.{has_contact}
use Rattle.sf_geometry.proofs.ListLaws.{not-false}
use Rattle.sf_relate.proofs.PlaceLaws.{end-on, odd-some-count}
use Rattle.sf_relate.proofs.SharedLaws.{contact_is_shared}

-- ---- the points of a geometry are in its box
abbrev box_of : Geometry → Box
box_of a = box_of_extent (envelope_of a)

abbrev AreIn : Box → List Coordinates → Type 0
AreIn box ps = AllByRecursion (λ p. in_box box (grid_point p) ≡ true) ps

points-in : (a : Geometry) → AreIn (box_of a) (points_of a)
points-in a =
    each-map (HasPoint (envelope_of a)) (λ p. in_box (box_of a) (grid_point p) ≡ true) (points_of a)
    (λ p h. and_from _ _ (within (envelope_of a).min_x (envelope_of a).max_x p.x h.left h.right) (within (envelope_of a).min_y (envelope_of a).max_y p.y h.low h.high))
    (points-within a)
  where
    within : (m n z : ℤ) → m ≤ℤ z → z ≤ℤ n → (int_le (m *ℤ pos 1) z && int_le z (n *ℤ pos 1)) ≡ true
    within m n z h k = and_from _ _ (test_from_le (m *ℤ pos 1) z (omega (arith, ints))) (test_from_le z (n *ℤ pos 1) (omega (arith, ints)))

lists-in : (a : Geometry) → AllByRecursion (AreIn (box_of a)) (lists_of a)
lists-in a = each-of_flat (λ p. in_box (box_of a) (grid_point p) ≡ true) (λ (ps : List Coordinates). ps) (lists_of a) (points-in a)

-- ---- the edges of lists in a box
before-in : (box : Box) (p : Coordinates) (ts : List Coordinates) → in_box box (grid_point p) ≡ true → AreIn box ts → AreIn box (before_tight p ts)
before-in box p [] h k = (h, tt)
before-in box p (q ∷ qs) h k = by_test (is_same p q)
  where
    by_test : (c : Bool) → AreIn box (if c then q ∷ qs else p ∷ q ∷ qs)
    by_test true = k
    by_test false = (h, k)

tight-in : (box : Box) (ps : List Coordinates) → AreIn box ps → AreIn box (tight ps)
tight-in box [] h = tt
tight-in box (p ∷ ps) h = before-in box p (tight ps) h.0 (tight-in box ps h.1)

from-in : (box : Box) (p : Coordinates) (ps : List Coordinates) → in_box box (grid_point p) ≡ true → AreIn box ps → AllByRecursion (HasEnds box) (edges_from p ps)
from-in box p [] h k = tt
from-in box p (q ∷ qs) h k = ((h, k.0), from-in box q qs k.0 k.1)

between-in : (box : Box) (ts : List Coordinates) → AreIn box ts → AllByRecursion (HasEnds box) (edges_between ts)
between-in box [] h = tt
between-in box (p ∷ ps) h = from-in box p ps h.0 h.1

edges-in : (box : Box) (ps : List Coordinates) → AreIn box ps → AllByRecursion (HasEnds box) (edges_of_list ps)
edges-in box ps h = between-in box (tight ps) (tight-in box ps h)

-- ---- points on and in what has its points in a box
any-in : {A : Type 0} (P : A → Type 0) (t : A → Bool) (goal : Type 0) (xs : List A) → ((x : A) → P x → t x ≡ true → goal) → AllByRecursion P xs → list_any t xs ≡ true → goal
any-in P t goal [] f h k = absurd (both_ways false refl k)
any-in P t goal (x ∷ xs) f h k = elim (or_cases (t x) (list_any t xs) k) [ inl here ↦ f x h.0 here | inr later ↦ any-in P t goal xs f h.1 later ]

line-in : (box : Box) (q : PlanePoint) → IsPoint q → (ps : List Coordinates) → AreIn box ps → on_line ps q ≡ true → in_box box q ≡ true
line-in box q i ps h k = any-in (HasEnds box) (λ e. on_edge e q) (in_box box q ≡ true) (edges_of_list ps) (λ e m n. edge_in_box box e q m i n) (edges-in box ps h) k

lines-in : (box : Box) (q : PlanePoint) → IsPoint q → (lines : List (List Coordinates)) → AllByRecursion (AreIn box) lines → list_any (λ ps. on_line ps q) lines ≡ true → in_box box q ≡ true
lines-in box q i lines h k = any-in (AreIn box) (λ ps. on_line ps q) (in_box box q ≡ true) lines (line-in box q i) h k

dot-in : (box : Box) (q : PlanePoint) → IsPoint q → (p : Coordinates) → in_box box (grid_point p) ≡ true → same_point (grid_point p) q ≡ true → in_box box q ≡ true
dot-in box q i p h k = edge_in_box box (edge_between p p) q (h, h) i (start-same-on p p q i k)

polygon-in : (box : Box) (q : PlanePoint) → IsPoint q → (rings : List (List Coordinates)) → AllByRecursion (AreIn box) rings → AllByRecursion (λ ring. is_closed ring ≡ true) rings →
    in_polygon rings q ≡ true → in_box box q ≡ true
polygon-in box q i [] h c k = absurd (both_ways false refl k)
polygon-in box q i (shell ∷ holes) h c k =
    let inside = (and_parts (in_ring shell q) (not (list_any (λ hole. within_ring hole q) holes)) k).0 in
    ring_in_box box (edges_of_list shell) q (ring-chain shell c.0) (All-from_recursion (HasEnds box) (edges_of_list shell) (edges-in box shell h.0)) i
    (and_parts (not (on_line shell q)) (is_odd (count_by (λ e. edge_above e q) (edges_of_list shell))) inside).1

pub lies_in_box : LiesInBox
lies_in_box a q closed i h = elim (or_cases (in_interior a q) (in_boundary a q) h) [ inl k ↦ interior a closed (lists-in a) k | inr k ↦ boundary a (lists-in a) k ]
  where
    boundary : (g : Geometry) → AllByRecursion (AreIn (box_of g)) (lists_of g) → in_boundary g q ≡ true → in_box (box_of g) q ≡ true
    boundary (Point p) l k = absurd (both_ways false refl k)
    boundary (MultiPoint ps) l k = absurd (both_ways false refl k)
    boundary (LineString ps) l k = line-in (box_of (LineString ps)) q i ps l.0 (end-on ps q i k)
    boundary (MultiLineString lines) l k =
        lines-in (box_of (MultiLineString lines)) q i lines l
        (any-follows (λ ps. is_among (ends_of_line ps) q) (λ ps. on_line ps q) lines (λ ps m. end-on ps q i m) (odd-some-count (λ ps. is_among (ends_of_line ps) q) lines k))
    boundary (Polygon rings) l k = lines-in (box_of (Polygon rings)) q i rings l k
    boundary (MultiPolygon polygons) l k =
        any-in (λ rings. AllByRecursion (AreIn (box_of (MultiPolygon polygons))) rings) (λ rings. on_polygon rings q) (in_box (box_of (MultiPolygon polygons)) q ≡ true) polygons
        (λ rings m n. lines-in (box_of (MultiPolygon polygons)) q i rings m n)
        (each-of_flat (AreIn (box_of (MultiPolygon polygons))) (λ (rings : List (List Coordinates)). rings) polygons l) k

    interior : (g : Geometry) → HasClosedRings g → AllByRecursion (AreIn (box_of g)) (lists_of g) → in_interior g q ≡ true → in_box (box_of g) q ≡ true
    interior (Point p) c l k = dot-in (box_of (Point p)) q i p l.0.0 k
    interior (MultiPoint ps) c l k =
        any-in (λ p. in_box (box_of (MultiPoint ps)) (grid_point p) ≡ true) (λ p. same_point (grid_point p) q) (in_box (box_of (MultiPoint ps)) q ≡ true) ps
        (dot-in (box_of (MultiPoint ps)) q i) l.0 k
    interior (LineString ps) c l k = line-in (box_of (LineString ps)) q i ps l.0 (and_parts (on_line ps q) _ k).0
    interior (MultiLineString lines) c l k = lines-in (box_of (MultiLineString lines)) q i lines l (and_parts (list_any (λ ps. on_line ps q) lines) _ k).0
    interior (Polygon rings) c l k = polygon-in (box_of (Polygon rings)) q i rings l (each-of_flat (λ ring. is_closed ring ≡ true) (λ (rs : List (List Coordinates)). rs) (rings ∷ []) c).0 k
    interior (MultiPolygon polygons) c l k =
        any-in (λ rings. AllByRecursion (AreIn (box_of (MultiPolygon polygons))) rings × AllByRecursion (λ ring. is_closed ring ≡ true) rings) (λ rings. in_polygon rings q)
        (in_box (box_of (MultiPolygon polygons)) q ≡ true) polygons
        (λ rings m n. polygon-in (box_of (MultiPolygon polygons)) q i rings m.0 m.1 n)
        (each-both (AllByRecursion (AreIn (box_of (MultiPolygon polygons)))) (AllByRecursion (λ ring. is_closed ring ≡ true))
        (λ rings. AllByRecursion (AreIn (box_of (MultiPolygon polygons))) rings × AllByRecursion (λ ring. is_closed ring ≡ true) rings) polygons (λ rings m n. (m, n))
        (each-of_flat (AreIn (box_of (MultiPolygon polygons))) (λ (rings : List (List Coordinates)). rings) polygons l)
        (each-of_flat (λ ring. is_closed ring ≡ true) (λ (rings : List (List Coordinates)). rings) polygons c))
        k

-- the rings of a valid geometry are closed
abbrev NoneOf : Rule → Type 0
NoneOf rule = ¬ (Applies rule.condition)

pub valid-closed : (a : Geometry) → IsValid a → HasClosedRings a
valid-closed a v =
    let rules = (each-parts NoneOf (flat_map line_rules (lines_of a) ++ flat_map ring_rules (rings_of a)) (polygon_rules (polygons_of a)) v.faultless).0 in
    each-map (λ ring. AllByRecursion NoneOf (ring_rules ring)) (λ ring. is_closed ring ≡ true) (rings_of a)
    (λ ring h. not-false (is_closed ring) (false_from_ne_true (not (is_closed ring)) h.0))
    (each-of_flat NoneOf ring_rules (rings_of a) (each-parts NoneOf (flat_map line_rules (lines_of a)) (flat_map ring_rules (rings_of a)) rules).1)

pub apart_has_no_contact : ApartHasNoContact
apart_has_no_contact a b ha hb apart =
    false_from_ne_true (has_contact (matrix_of a b))
    (λ h.
    let s = (contact_is_shared a b).shared.0 h in
    both_ways (extents_meet (envelope_of a) (envelope_of b)) apart
    (common_point_meets (box_of a) (box_of b) s.q s.is_point (lies_in_box a s.q ha s.is_point s.in_first) (lies_in_box b s.q hb s.is_point s.in_second)))
