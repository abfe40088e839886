-- Where a geometry lies in another one whose edges have no point of its box.
use Rattle.std.proofs.Common.{◌≡◌, ℕ, ◌<◌, refl, ap, sym, ◌∙◌, subst, ℤ, pos, ◌*ℤ◌, ◌≤ℤ◌, arith, lit<, Bool, true, false, not, List, [], ◌∷◌, map, Option, Some, inl, inr}
use Rattle.std.specs.List.{AllByRecursion, flat_map, list_any}
use Rattle.std.proofs.lemmas.Bool.{and_from, and_parts, both_ways, false_from_ne_true, or_cases, or_from, or_left, or_parts}
use Rattle.std.proofs.lemmas.Int.{ints}
use Rattle.sf_grid.specs.Plane.{Coordinates, IsPoint, Point as PlanePoint, grid_point}
use Rattle.sf_grid.specs.Edge.{Edge as Line, edge_above, on_edge}
use Rattle.sf_grid.specs.EvenOdd.{edges_above, is_odd}
use Rattle.sf_grid.proofs.CallerLemmas.{le_from_mul}
use Rattle.sf_slabs.proofs.CallerLemmas.{each-parts}
use Rattle.sf_geometry.specs.declared.extent.Extent.{Extent}
use Rattle.sf_geometry.specs.declared.geometry.Geometry.{Geometry}
use Rattle.sf_geometry.specs.declared.geometry.Geometry.TheVariants.{LineString, MultiLineString, MultiPoint, MultiPolygon, Point, Polygon}
use Rattle.sf_geometry.specs.Envelope.{envelope_of}
use Rattle.sf_geometry.specs.Lists.{edges_of as edges_of_list, ends_of, is_closed}
use Rattle.sf_geometry.specs.Parts.{edge_of, edges_of, joined}
use Rattle.sf_geometry.specs.PointSets.{in_boundary, in_exterior, in_interior, is_among, on_line, on_polygon}
use Rattle.sf_geometry.specs.Vertices.{vertex_of}
use Rattle.sf_interiors.proofs.InsideLaws.{IsInside, IsOff}
use Rattle.sf_interiors.proofs.ParityLaws.{odd-append, on-edges}
use Rattle.sf_interiors.proofs.RingLaws.{balanced-rings, ring-chain}
use Rattle.sf_interiors.proofs.SideLaws.{differ}
use Rattle.sf_interiors.specs.Paths.{IsOffBox, parity}
use Rattle.sf_interiors.proofs.PathLaws.{box_has_one_parity}
use Rattle.sf_plane.specs.Boxes.{Box, in_box}
use Rattle.sf_valid_rules.specs.Validity.{IsValid}
use Rattle.sf_validity.specs.Beside.{box_of_extent}
use Rattle.sf_relate.specs.Contact.{in_extent, is_in}
use Rattle.sf_relate.specs.declared.place.Place.{Place}
use Rattle.sf_relate.specs.declared.place.Place.TheVariants.{Boundary, Exterior, Interior}
use Rattle.sf_relate.specs.declared.shape.Shape.TheVariants.{Areas, Lines}
use Rattle.sf_relate.specs.Locating.{area_place, edges_place, place_by_tests}
use Rattle.sf_relate.specs.Matrices.{both}
use Rattle.sf_relate.specs.Places.{IsPlaceOf, is_place, shape_of}
use Rattle.sf_relate.specs.ByKinds.{IsWithin, ShareNone}
use Rattle.sf_relate.proofs.EnvelopeLaws.{lies_in_box, valid-closed}
use Rattle.sf_polygons.proofs.TestLaws.{any-follows}
use Rattle.sf_relate.proofs.PlaceLaws.{end-on, odd-some-count}
use Rattle.sf_relate.proofs.TestedPlaces.{tests_tell_places}
use Rattle.sf_relate.proofs.ToldLaws.{beyond, exterior-from}
use Rattle.sf_relate.proofs.FirstLaws.{first_point_is_in}
use Rattle.sf_prepared.specs.Boxes.{AreEdgesOf}
use Rattle.sf_prepared.specs.Places.{ApartByPoint, ApartFromLines, AreClear, WithinByPoint}
use Rattle.sf_prepared.proofs.AboveLaws.{boxed-from, boxed-sides}
use Rattle.sf_prepared.proofs.NearLaws.{triangle-near}

-- ---- the rings of an area: one parity in the box
rings-parity : (rings : List (List Coordinates)) (box : Box) (p q : PlanePoint) → AllByRecursion (λ ring. is_closed ring ≡ true) rings →
    AllByRecursion (IsOffBox box) (flat_map edges_of_list rings) → IsPoint p → IsPoint q → in_box box p ≡ true → in_box box q ≡ true →
    parity (flat_map edges_of_list rings) p ≡ parity (flat_map edges_of_list rings) q
rings-parity [] box p q closed off i j in_p in_q = refl
rings-parity (r ∷ rs) box p q closed off i j in_p in_q =
    let parts = each-parts (IsOffBox box) (edges_of_list r) (flat_map edges_of_list rs) off in
    odd-append (λ e. edge_above e p) (edges_of_list r) (flat_map edges_of_list rs)
    ∙ ap (λ b. differ b (parity (flat_map edges_of_list rs) p)) (box_has_one_parity (edges_of_list r) box p q (ring-chain r closed.0) parts.0 i j in_p in_q)
    ∙ ap (λ b. differ (parity (edges_of_list r) q) b) (rings-parity rs box p q closed.1 parts.1 i j in_p in_q)
    ∙ sym (odd-append (λ e. edge_above e q) (edges_of_list r) (flat_map edges_of_list rs))

none-on : (box : Box) (es : List Line) (q : PlanePoint) → AllByRecursion (IsOffBox box) es → IsPoint q → in_box box q ≡ true → list_any (λ e. on_edge e q) es ≡ false
none-on box [] q off i h = refl
none-on box (e ∷ es) q off i h = or_from (on_edge e q) (list_any (λ f. on_edge f q) es) (false_from_ne_true (on_edge e q) (off.0 q i h)) (none-on box es q off.1 i h)

each-off : (es : List Line) (q : PlanePoint) → list_any (λ e. on_edge e q) es ≡ false → IsOff q es
each-off [] q h = tt
each-off (e ∷ es) q h = let parts = or_parts (on_edge e q) (list_any (λ f. on_edge f q) es) h in (parts.0, each-off es q parts.1)

rings-place : (rings : List (List Coordinates)) (box : Box) (p q : PlanePoint) → AllByRecursion (λ ring. is_closed ring ≡ true) rings →
    AllByRecursion (IsOffBox box) (flat_map edges_of_list rings) → IsPoint p → IsPoint q → in_box box p ≡ true → in_box box q ≡ true →
    edges_place (flat_map edges_of_list rings) p ≡ edges_place (flat_map edges_of_list rings) q
rings-place rings box p q closed off i j in_p in_q =
    ap (λ b. area_place b (parity (flat_map edges_of_list rings) p)) (none-on box (flat_map edges_of_list rings) p off i in_p)
    ∙ ap (area_place false) (rings-parity rings box p q closed off i j in_p in_q)
    ∙ sym (ap (λ b. area_place b (parity (flat_map edges_of_list rings) q)) (none-on box (flat_map edges_of_list rings) q off j in_q))

-- ---- an area has the places of its rings' edges
pub record HasRings (b : Geometry) : Type 0 where
  pub rings : List (List Coordinates)
  pub edges : edges_of b ≡ flat_map edges_of_list rings
  pub places : (q : PlanePoint) → place_by_tests b q ≡ edges_place (flat_map edges_of_list rings) q
  pub closed : AllByRecursion (λ ring. is_closed ring ≡ true) rings

pub has-rings : (b : Geometry) → IsValid b → shape_of b ≡ Areas → HasRings b
has-rings (Point p) v s = absurd cc
has-rings (MultiPoint ps) v s = absurd cc
has-rings (LineString ps) v s = absurd cc
has-rings (MultiLineString lines) v s = absurd cc
has-rings (Polygon rings) v s =
    record { rings = rings; edges = refl; places = λ q. refl; closed = (each-parts (λ ring. is_closed ring ≡ true) rings [] (valid-closed (Polygon rings) v)).0 }
has-rings (MultiPolygon polygons) v s = record { rings = joined polygons; edges = refl; places = λ q. refl; closed = valid-closed (MultiPolygon polygons) v }

same-place : (b : Geometry) (extent : Extent) (p q : PlanePoint) → IsValid b → shape_of b ≡ Areas → AreClear extent (edges_of b) → IsPoint p → IsPoint q →
    in_extent extent p ≡ true → in_extent extent q ≡ true → place_by_tests b p ≡ place_by_tests b q
same-place b extent p q v s clear i j in_p in_q =
    let r = has-rings b v s in
    r.places p
    ∙ rings-place r.rings (box_of_extent extent) p q r.closed (subst (AllByRecursion (IsOffBox (box_of_extent extent))) r.edges clear) i j in_p in_q
    ∙ sym (r.places q)

same-interior : (b : Geometry) (extent : Extent) (p q : PlanePoint) → IsValid b → shape_of b ≡ Areas → AreClear extent (edges_of b) → IsPoint p → IsPoint q →
    in_extent extent p ≡ true → in_extent extent q ≡ true → in_interior b p ≡ in_interior b q
same-interior b extent p q v s clear i j in_p in_q =
    (tests_tell_places b p v i).interior
    ∙ ap (is_place Interior) (same-place b extent p q v s clear i j in_p in_q)
    ∙ sym (tests_tell_places b q v j).interior

-- no point of the box is in the boundary
off-boundary : (b : Geometry) (extent : Extent) (q : PlanePoint) → IsValid b → shape_of b ≡ Areas → AreClear extent (edges_of b) → IsPoint q → in_extent extent q ≡ true → in_boundary b q ≡ false
off-boundary b extent q v s clear j in_q =
    let r = has-rings b v s in
    let es = flat_map edges_of_list r.rings in
    let none = none-on (box_of_extent extent) es q (subst (AllByRecursion (IsOffBox (box_of_extent extent))) r.edges clear) j in_q in
    (tests_tell_places b q v j).boundary ∙ ap (is_place Boundary) (r.places q) ∙ ap (λ c. is_place Boundary (area_place c (parity es q))) none ∙ never (parity es q)
  where
    never : (c : Bool) → is_place Boundary (area_place false c) ≡ false
    never true = refl
    never false = refl

-- ---- the last corner of a box with a point is in it
abbrev last_corner : Extent → Coordinates
last_corner extent = record { x = extent.max_x; y = extent.max_y }

in-order : (low high z : ℤ) (d : ℕ) → 0 < d → (low *ℤ pos d) ≤ℤ z → z ≤ℤ (high *ℤ pos d) → (low *ℤ pos 1) ≤ℤ high
in-order low high z d p f g = once (le_from_mul low high d p (chain (low *ℤ pos d) (high *ℤ pos d) f g))
  where
    chain : (a b : ℤ) → a ≤ℤ z → z ≤ℤ b → a ≤ℤ b
    chain a b h k = omega (arith, ints)

    once : low ≤ℤ high → (low *ℤ pos 1) ≤ℤ high
    once h = omega (arith, ints)

corner-in : (e : Extent) (q : PlanePoint) → IsPoint q → in_extent e q ≡ true → in_extent e (grid_point (last_corner e)) ≡ true
corner-in e q i h =
    let b = boxed-sides e q h in
    boxed-from e (grid_point (last_corner e))
    (record {
      left = in-order e.min_x e.max_x q.x q.d i.positive b.left b.right;
      right = self e.max_x;
      bottom = in-order e.min_y e.max_y q.y q.d i.positive b.bottom b.top;
      top = self e.max_y;
    })
  where
    self : (a : ℤ) → a ≤ℤ (a *ℤ pos 1)
    self a = omega (arith, ints)

is_corner : (e : Extent) → IsPoint (grid_point (last_corner e))
is_corner e = record { positive = lit< tt }

-- ---- the laws
-- a point of the geometry lies in its box
pub boxed : (a : Geometry) (q : PlanePoint) → IsValid a → IsPoint q → is_in a q ≡ true → in_extent (envelope_of a) q ≡ true
boxed a q v i h = lies_in_box a q (valid-closed a v) i h

-- and so its last corner lies where the point does
corner-interior : (a b : Geometry) (p : PlanePoint) → IsValid a → IsValid b → shape_of b ≡ Areas → AreClear (envelope_of a) (edges_of b) → IsPoint p → is_in a p ≡ true →
    in_interior b (grid_point (last_corner (envelope_of a))) ≡ in_interior b p
corner-interior a b p v w s clear i h =
    let in_p = boxed a p v i h in
    same-interior b (envelope_of a) (grid_point (last_corner (envelope_of a))) p w s clear (is_corner (envelope_of a)) i (corner-in (envelope_of a) p i in_p) in_p

-- inside the edges of an area is in its interior
inner-from : (b : Geometry) (r : HasRings b) (q : PlanePoint) → IsValid b → IsPoint q → IsInside (flat_map edges_of_list r.rings) q → in_interior b q ≡ true
inner-from b r q w i h =
    (tests_tell_places b q w i).interior ∙ ap (is_place Interior) (r.places q)
    ∙ ap (λ c. is_place Interior (area_place c (parity (flat_map edges_of_list r.rings) q))) (none-of (flat_map edges_of_list r.rings) h.off)
    ∙ ap (λ c. is_place Interior (area_place false c)) h.odd
  where
    none-of : (es : List Line) → IsOff q es → list_any (λ e. on_edge e q) es ≡ false
    none-of [] k = refl
    none-of (e ∷ es) k = or_from (on_edge e q) (list_any (λ f. on_edge f q) es) k.0 (none-of es k.1)

inner-inside : (b : Geometry) (r : HasRings b) (q : PlanePoint) → IsValid b → IsPoint q → in_interior b q ≡ true → IsInside (flat_map edges_of_list r.rings) q
inner-inside b r q w i h =
    by_tests (list_any (λ e. on_edge e q) (flat_map edges_of_list r.rings)) refl (parity (flat_map edges_of_list r.rings) q) refl
    (sym (ap (is_place Interior) (r.places q)) ∙ sym (tests_tell_places b q w i).interior ∙ h)
  where
    by_tests : (c : Bool) → list_any (λ e. on_edge e q) (flat_map edges_of_list r.rings) ≡ c → (d : Bool) → parity (flat_map edges_of_list r.rings) q ≡ d →
        is_place Interior (edges_place (flat_map edges_of_list r.rings) q) ≡ true → IsInside (flat_map edges_of_list r.rings) q
    by_tests false e true f k = record { off = each-off (flat_map edges_of_list r.rings) q e; odd = f }
    by_tests false e false f k =
        absurd (both_ways false refl (sym (ap (λ c. is_place Interior (area_place c (parity (flat_map edges_of_list r.rings) q))) e ∙ ap (λ c. is_place Interior (area_place false c)) f) ∙ k))
    by_tests true e d f k = absurd (both_ways false refl (sym (ap (λ c. is_place Interior (area_place c (parity (flat_map edges_of_list r.rings) q))) e) ∙ k))

pub within_by_point : WithinByPoint
within_by_point a b p v w s clear o there at =
    let r = has-rings b w s in
    let c = last_corner (envelope_of a) in
    let es = flat_map edges_of_list r.rings in
    record {
      inside = λ q i h. same-interior b (envelope_of a) q p w s clear i o (boxed a q v i h) (boxed a p v o there) ∙ at.interior;
      beside =
          triangle-near c es (both (in_exterior a) (in_interior b)) (balanced-rings r.rings (grid_point c) (is_corner (envelope_of a)) r.closed)
          (inner-inside b r (grid_point c) w (is_corner (envelope_of a)) (corner-interior a b p v w s clear o there ∙ at.interior))
          (λ q i far inside.
          and_from (in_exterior a q) (in_interior b q) (exterior-from a q (beyond a q v i far)) (inner-from b r q w i inside));
    }

pub apart_by_point : ApartByPoint
apart_by_point a b p v w s clear o there at share =
    let in_a = boxed a share.q v share.is_point share.in_first in
    elim (or_cases (in_interior b share.q) (in_boundary b share.q) share.in_second) [
      | inl inner ↦
          both_ways (in_interior b share.q)
          (same-interior b (envelope_of a) share.q p w s clear share.is_point o in_a (boxed a p v o there) ∙ at.interior) inner
      | inr edge ↦ both_ways (in_boundary b share.q) (off-boundary b (envelope_of a) share.q w s clear share.is_point in_a) edge
    ]

-- ---- lines
lines-on : (lines : List (List Coordinates)) (box : Box) (q : PlanePoint) → AllByRecursion (IsOffBox box) (flat_map edges_of_list lines) → IsPoint q → in_box box q ≡ true → on_polygon lines q ≡ false
lines-on lines box q off i h = sym (on-edges lines q) ∙ none-on box (flat_map edges_of_list lines) q off i h

lines-have : (lines : List (List Coordinates)) (q : PlanePoint) → IsPoint q → is_in (MultiLineString lines) q ≡ true → on_polygon lines q ≡ true
lines-have lines q i h =
    elim (or_cases (in_interior (MultiLineString lines) q) (in_boundary (MultiLineString lines) q) h) [
      | inl k ↦ (and_parts (list_any (λ ps. on_line ps q) lines) (not (in_boundary (MultiLineString lines) q)) k).0
      | inr k ↦
          any-follows (λ ps. is_among (ends_of ps) q) (λ ps. on_line ps q) lines (λ ps m. end-on ps q i m) (odd-some-count (λ ps. is_among (ends_of ps) q) lines k)
    ]

line-has : (ps : List Coordinates) (q : PlanePoint) → IsPoint q → is_in (LineString ps) q ≡ true → on_polygon (ps ∷ []) q ≡ true
line-has ps q i h =
    or_left (on_line ps q) false
    (elim (or_cases (in_interior (LineString ps) q) (in_boundary (LineString ps) q) h) [
      | inl k ↦ (and_parts (on_line ps q) (not (is_among (ends_of ps) q)) k).0
      | inr k ↦ end-on ps q i k
    ])

pub apart_from_lines : ApartFromLines
apart_from_lines a b v w s clear share = off b s clear share.in_second
  where
    in_a : in_extent (envelope_of a) share.q ≡ true
    in_a = boxed a share.q v share.is_point share.in_first

    off : (g : Geometry) → shape_of g ≡ Lines → AreClear (envelope_of a) (edges_of g) → is_in g share.q ≡ true → ⊥
    off (Point p) e k t = cc
    off (MultiPoint ps) e k t = cc
    off (Polygon rings) e k t = cc
    off (MultiPolygon polygons) e k t = cc
    off (LineString ps) e k t =
        both_ways (on_polygon (ps ∷ []) share.q) (lines-on (ps ∷ []) (box_of_extent (envelope_of a)) share.q k share.is_point in_a) (line-has ps share.q share.is_point t)
    off (MultiLineString lines) e k t =
        both_ways (on_polygon lines share.q) (lines-on lines (box_of_extent (envelope_of a)) share.q k share.is_point in_a) (lines-have lines share.q share.is_point t)

-- ---- as they are called
first-in : (a found : Geometry) (vertex : Option Coordinates) (p : Coordinates) → IsValid a → found ≡ a → vertex ≡ vertex_of found 0 0 0 → vertex ≡ Some p → is_in a (grid_point p) ≡ true
first-in a found vertex p v is first some = first_point_is_in a p v (ap (λ g. vertex_of g 0 0 0) (sym is) ∙ sym first ∙ some)

pub within-told : (a b found : Geometry) (extent : Extent) (vertex : Option Coordinates) (p : Coordinates) (place : Place) → IsValid a → IsValid b → shape_of b ≡ Areas → extent ≡ envelope_of a →
    AreClear extent (edges_of b) → found ≡ a → vertex ≡ vertex_of found 0 0 0 → vertex ≡ Some p → IsPlaceOf b (grid_point p) place → place ≡ Interior → IsWithin a b
within-told a b found extent vertex p place v w s e clear f first some at is =
    within_by_point a b (grid_point p) v w s (subst (λ x. AreClear x (edges_of b)) e clear) (record { positive = lit< tt }) (first-in a found vertex p v f first some) (subst (IsPlaceOf b (grid_point p)) is at)

pub apart-told : (a b found : Geometry) (extent : Extent) (vertex : Option Coordinates) (p : Coordinates) (place : Place) → IsValid a → IsValid b → shape_of b ≡ Areas → extent ≡ envelope_of a →
    AreClear extent (edges_of b) → found ≡ a → vertex ≡ vertex_of found 0 0 0 → vertex ≡ Some p → IsPlaceOf b (grid_point p) place → place ≡ Exterior → ShareNone a b
apart-told a b found extent vertex p place v w s e clear f first some at is =
    apart_by_point a b (grid_point p) v w s (subst (λ x. AreClear x (edges_of b)) e clear) (record { positive = lit< tt }) (first-in a found vertex p v f first some) (subst (IsPlaceOf b (grid_point p)) is at)

pub lines-told : (a b : Geometry) (extent : Extent) → IsValid a → IsValid b → shape_of b ≡ Lines → extent ≡ envelope_of a → AreClear extent (edges_of b) → ShareNone a b
lines-told a b extent v w s e clear = apart_from_lines a b v w s (subst (λ x. AreClear x (edges_of b)) e clear)

-- where the first point lies no edge is
pub first-off : (a b found : Geometry) (extent : Extent) (vertex : Option Coordinates) (p : Coordinates) → IsValid a → extent ≡ envelope_of a → AreClear extent (edges_of b) → found ≡ a →
    vertex ≡ vertex_of found 0 0 0 → vertex ≡ Some p → list_any (λ e. on_edge e (grid_point p)) (edges_of b) ≡ false
first-off a b found extent vertex p v e clear f first some =
    none-on (box_of_extent (envelope_of a)) (edges_of b) (grid_point p) (subst (λ x. AreClear x (edges_of b)) e clear) (record { positive = lit< tt })
    (boxed a (grid_point p) v (record { positive = lit< tt }) (first-in a found vertex p v f first some))

-- a point that no edge of an area has lies there by the edges above
pub place-by-parity : (b : Geometry) (pairs : List (Coordinates × Coordinates)) (p : Coordinates) (odd : Bool) (place : Place) → IsValid b → shape_of b ≡ Areas → AreEdgesOf b pairs →
    list_any (λ e. on_edge e (grid_point p)) (edges_of b) ≡ false → odd ≡ is_odd (edges_above (grid_point p) (map edge_of pairs)) → place ≡ area_place false odd → IsPlaceOf b (grid_point p) place
place-by-parity b pairs p odd place v s are off counted is =
    subst (IsPlaceOf b (grid_point p))
    (r.places (grid_point p)
    ∙ ap (λ es. edges_place es (grid_point p)) (sym r.edges)
    ∙ ap (λ t. area_place t (parity (edges_of b) (grid_point p))) off
    ∙ ap (λ es. area_place false (parity es (grid_point p))) (sym are)
    ∙ ap (area_place false) (sym counted)
    ∙ sym is)
    (tests_tell_places b (grid_point p) v (record { positive = lit< tt }))
  where
    r : HasRings b
    r = has-rings b v s

-- a point that no edge of an area has is not in its boundary
pub never-boundary : (b : Geometry) (p : Coordinates) (place : Place) → IsValid b → shape_of b ≡ Areas → list_any (λ e. on_edge e (grid_point p)) (edges_of b) ≡ false →
    IsPlaceOf b (grid_point p) place → place ≡ Boundary → ⊥
never-boundary b p place v s off at is = both_ways (in_boundary b (grid_point p)) free (at.boundary ∙ ap (is_place Boundary) is)
  where
    r : HasRings b
    r = has-rings b v s

    never : (odd : Bool) → is_place Boundary (area_place false odd) ≡ false
    never true = refl
    never false = refl

    free : in_boundary b (grid_point p) ≡ false
    free =
        (tests_tell_places b (grid_point p) v (record { positive = lit< tt })).boundary
        ∙ ap (is_place Boundary)
        (r.places (grid_point p)
        ∙ ap (λ es. edges_place es (grid_point p)) (sym r.edges)
        ∙ ap (λ t. area_place t (parity (edges_of b) (grid_point p))) off)
        ∙ never (parity (edges_of b) (grid_point p))

-- nor is the place by the edges above
pub parity-off-boundary : (odd : Bool) (place : Place) → place ≡ area_place false odd → place ≡ Boundary → ⊥
parity-off-boundary true place is at = inside (sym is ∙ at)
  where
    inside : Interior ≡ Boundary → ⊥
    inside e = cc
parity-off-boundary false place is at = outside (sym is ∙ at)
  where
    outside : Exterior ≡ Boundary → ⊥
    outside e = cc
