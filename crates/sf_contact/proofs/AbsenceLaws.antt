-- Geometries that share a point have edges that share one, or a part of either begins in the other.
use Rattle.std.proofs.Common.{◌≡◌, refl, ap, sym, ◌∙◌, subst, ℤ, pos, ◌*ℤ◌, ◌≤ℤ◌, arith, Bool, true, false, ◌||◌, not, List, [], ◌∷◌, ◌++◌, ◌⊎◌, inl, inr, ⊎_elim}
use Rattle.std.specs.Prelude.{count_by}
use Rattle.std.specs.List.{AllByRecursion, flat_map, list_any}
use Rattle.std.proofs.lemmas.Bool.{and_from, and_parts, both_ways, false_from_ne_true, or_cases, or_left, or_right}
use Rattle.std.proofs.lemmas.Int.{by_lt_z, ints}
use Rattle.std.proofs.lemmas.List.Folds.{list_any-append}
use Rattle.sf_grid.specs.Plane.{Coordinates, IsPoint, IsSamePoint, Point as PlanePoint, grid_point, same_point}
use Rattle.sf_grid.specs.Edge.{Edge as Line, IsOnEdge, edge_above, edge_between, on_edge}
use Rattle.sf_grid.specs.EvenOdd.{is_odd}
use Rattle.sf_grid.proofs.CallerLemmas.{on_edge-same_point, test_from_eq}
use Rattle.sf_slabs.proofs.CallerLemmas.{each-parts}
use Rattle.sf_geometry.specs.declared.geometry.Geometry.{Geometry}
use Rattle.sf_geometry.specs.declared.geometry.Geometry.TheVariants.{Point, LineString, Polygon, MultiPoint, MultiLineString, MultiPolygon}
use Rattle.sf_geometry.specs.Lists.{edges_between, edges_from, edges_of as edges_of_list, ends_of, is_closed}
use Rattle.sf_geometry.specs.Parts.{edges_of, joined}
use Rattle.sf_geometry.specs.PointSets.{in_boundary, in_interior, is_among, on_line}
use Rattle.sf_plane.specs.Boxes.{IsClosedChain}
use Rattle.sf_plane.proofs.CombineLaws.{or_union, start_on_edge}
use Rattle.sf_polygons.proofs.TestLaws.{any-follows}
use Rattle.sf_valid_rules.specs.Validity.{IsValid}
use Rattle.sf_interiors.proofs.ParityLaws.{odd-append, on-edges}
use Rattle.sf_interiors.proofs.RingLaws.{ring-chain}
use Rattle.sf_interiors.proofs.SideLaws.{differ}
use Rattle.sf_interiors.specs.Paths.{AreApart, parity}
use Rattle.sf_interiors.proofs.PathLaws.{edge_has_one_parity}
use Rattle.sf_interiors.proofs.SlantLaws.{end_on_edge, is_grid}
use Rattle.sf_interiors.proofs.UprightLaws.{IsClearUp, IsUp, up}
use Rattle.sf_relate.specs.declared.place.Place.{Place}
use Rattle.sf_relate.specs.declared.place.Place.TheVariants.{Interior, Boundary}
use Rattle.sf_relate.specs.declared.shape.Shape.{Shape}
use Rattle.sf_relate.specs.declared.shape.Shape.TheVariants.{Points, Lines, Areas}
use Rattle.sf_relate.specs.AllPieces.{all_pieces}
use Rattle.sf_relate.specs.Contact.{is_in}
use Rattle.sf_relate.specs.Locating.{area_place, edges_place, place_by_tests}
use Rattle.sf_relate.specs.Places.{is_place, shape_of}
use Rattle.sf_relate.proofs.EnvelopeLaws.{valid-closed}
use Rattle.sf_relate.proofs.PlaceLaws.{end-on, odd-some-count, tight-of}
use Rattle.sf_relate.proofs.SetLaws.{boundary_union, interior_union, second_has}
use Rattle.sf_relate.proofs.SharedLaws.{one_cell}
use Rattle.sf_relate.proofs.TestedPlaces.{tests_tell_places}
use Rattle.sf_contact.specs.Absence.{AbsenceIsDecided, begins_in, has_start_in, on_edges}
use Rattle.sf_contact.proofs.LowestLaws.{IsClearBelow, lowest, one_column}

-- q is on one of these edges
abbrev on_one : List Line → PlanePoint → Bool
on_one es q = list_any (λ e. on_edge e q) es

-- no point of the plane is on edges of both
abbrev ShareNoPoint : List Line → List Line → Type 0
ShareNoPoint es fs = (w : PlanePoint) → IsPoint w → on_one es w ≡ true → on_one fs w ≡ true → ⊥

no_edge : (q : PlanePoint) → on_one [] q ≡ true → ⊥
no_edge q on = both_ways false refl on

-- ---- along a line or ring that meets no edge of a closed chain

apart-each : (es : List Line) (f : Line) → ((w : PlanePoint) → IsPoint w → on_one es w ≡ true → IsOnEdge f w → ⊥) → AllByRecursion (λ e. AreApart e f) es
apart-each [] f apart = tt
apart-each (e ∷ es) f apart = (
  λ w i on_e on_f. apart w i (or_left (on_edge e w) (on_one es w) on_e) on_f,
  apart-each es f (λ w i on_es on_f. apart w i (or_right (on_edge e w) (on_one es w) on_es) on_f),
)

walk : (es : List Line) (p : Coordinates) (ps : List Coordinates) (q : PlanePoint) → IsClosedChain es → IsPoint q → ShareNoPoint es (edges_from p ps)
    → on_one (edges_from p ps) q ≡ true → parity es q ≡ parity es (grid_point p)
walk es p [] q closed i apart on = absurd (no_edge q on)
walk es p (r ∷ ps) q closed i apart on =
    let first = apart-each es (edge_between p r) (λ w j on_es on_f. apart w j on_es (or_left (on_edge (edge_between p r) w) (on_one (edges_from r ps) w) on_f)) in
    ⊎_elim
    (λ here. edge_has_one_parity es (edge_between p r) q (grid_point p) closed first i (is_grid p) here (start_on_edge p r))
    (λ later.
    walk es r ps q closed i (λ w j on_es on_fs. apart w j on_es (or_right (on_edge (edge_between p r) w) (on_one (edges_from r ps) w) on_fs)) later
    ∙ edge_has_one_parity es (edge_between p r) (grid_point r) (grid_point p) closed first (is_grid r) (is_grid p) (end_on_edge p r) (start_on_edge p r))
    (or_cases (on_edge (edge_between p r) q) (on_one (edges_from r ps) q) on)

starts-on : (p : Coordinates) (ps : List Coordinates) (q : PlanePoint) → on_one (edges_from p ps) q ≡ true → on_one (edges_from p ps) (grid_point p) ≡ true
starts-on p [] q on = absurd (no_edge q on)
starts-on p (r ∷ ps) q on = or_left (on_edge (edge_between p r) (grid_point p)) (on_one (edges_from r ps) (grid_point p)) (start_on_edge p r)

-- ---- an area by the parities of its edges above

record Area (b : Geometry) : Type 0 where
  rings : List (List Coordinates)
  edges : edges_of b ≡ flat_map edges_of_list rings
  places : (q : PlanePoint) → place_by_tests b q ≡ edges_place (flat_map edges_of_list rings) q
  closed : AllByRecursion (λ ring. is_closed ring ≡ true) rings

area-of : (b : Geometry) → IsValid b → shape_of b ≡ Areas → Area b
area-of (Point p) v s = absurd cc
area-of (MultiPoint ps) v s = absurd cc
area-of (LineString ps) v s = absurd cc
area-of (MultiLineString lines) v s = absurd cc
area-of (Polygon rings) v s =
    record { rings = rings; edges = refl; places = λ q. refl; closed = (each-parts (λ ring. is_closed ring ≡ true) rings [] (valid-closed (Polygon rings) v)).0 }
area-of (MultiPolygon polygons) v s = record { rings = joined polygons; edges = refl; places = λ q. refl; closed = valid-closed (MultiPolygon polygons) v }

-- off its edges a point is in it just where an odd number of them is above
inside : (b : Geometry) (q : PlanePoint) → IsValid b → shape_of b ≡ Areas → IsPoint q → on_edges b q ≡ false → is_in b q ≡ parity (edges_of b) q
inside b q v s i off =
    let area = area-of b v s in
    let es = flat_map edges_of_list area.rings in
    let tests = tests_tell_places b q v i in
    ap (λ t. t || in_boundary b q) tests.interior
    ∙ ap (λ t. is_place Interior (place_by_tests b q) || t) tests.boundary
    ∙ ap (λ (place : Place). is_place Interior place || is_place Boundary place) (area.places q)
    ∙ by_parity (on_one es q) (parity es q) (sym (ap (λ fs. on_one fs q) area.edges) ∙ off)
    ∙ sym (ap (λ fs. parity fs q) area.edges)
  where
    by_parity : (on odd : Bool) → on ≡ false → (is_place Interior (area_place on odd) || is_place Boundary (area_place on odd)) ≡ odd
    by_parity true odd none = absurd (both_ways true none refl)
    by_parity false true none = refl
    by_parity false false none = refl

-- what holds of each ring's parity holds of that of all
rings-parity : (rings : List (List Coordinates)) (p q : PlanePoint) → AllByRecursion (λ ring. parity (edges_of_list ring) p ≡ parity (edges_of_list ring) q) rings
    → parity (flat_map edges_of_list rings) p ≡ parity (flat_map edges_of_list rings) q
rings-parity [] p q each = refl
rings-parity (ring ∷ rings) p q each =
    odd-append (λ e. edge_above e p) (edges_of_list ring) (flat_map edges_of_list rings)
    ∙ ap (λ b. differ b (parity (flat_map edges_of_list rings) p)) each.0
    ∙ ap (differ (parity (edges_of_list ring) q)) (rings-parity rings p q each.1)
    ∙ sym (odd-append (λ e. edge_above e q) (edges_of_list ring) (flat_map edges_of_list rings))

rings-walk : (rings : List (List Coordinates)) (p : Coordinates) (ps : List Coordinates) (q : PlanePoint) → AllByRecursion (λ ring. is_closed ring ≡ true) rings → IsPoint q
    → ShareNoPoint (flat_map edges_of_list rings) (edges_from p ps) → on_one (edges_from p ps) q ≡ true
    → AllByRecursion (λ ring. parity (edges_of_list ring) q ≡ parity (edges_of_list ring) (grid_point p)) rings
rings-walk [] p ps q closed i apart on = tt
rings-walk (ring ∷ rings) p ps q closed i apart on = (
  walk (edges_of_list ring) p ps q (ring-chain ring closed.0) i
      (λ w j on_es on_fs. apart w j (list_any-append (λ e. on_edge e w) (edges_of_list ring) (flat_map edges_of_list rings) ∙ or_left (on_one (edges_of_list ring) w) (on_one (flat_map edges_of_list rings) w) on_es) on_fs) on,
  rings-walk rings p ps q closed.1 i
      (λ w j on_es on_fs. apart w j (list_any-append (λ e. on_edge e w) (edges_of_list ring) (flat_map edges_of_list rings) ∙ or_right (on_one (edges_of_list ring) w) (on_one (flat_map edges_of_list rings) w) on_es) on_fs) on,
)

-- ---- a line or ring with a point in an area, whose edges it doesn't meet, begins in it

from-begins : (b : Geometry) (p : Coordinates) (ps : List Coordinates) (q : PlanePoint) → IsValid b → shape_of b ≡ Areas → IsPoint q → ShareNoPoint (edges_of b) (edges_from p ps)
    → on_one (edges_from p ps) q ≡ true → is_in b q ≡ true → is_in b (grid_point p) ≡ true
from-begins b p ps q v s i apart on inner =
    let area = area-of b v s in
    let off_q = false_from_ne_true (on_edges b q) (λ on_b. apart q i on_b on) in
    let off_p = false_from_ne_true (on_edges b (grid_point p)) (λ on_b. apart (grid_point p) (is_grid p) on_b (starts-on p ps q on)) in
    let walked = rings-parity area.rings q (grid_point p) (rings-walk area.rings p ps q area.closed i (subst (λ es. ShareNoPoint es (edges_from p ps)) area.edges apart) on) in
    inside b (grid_point p) v s (is_grid p) off_p
    ∙ ap (λ es. parity es (grid_point p)) area.edges
    ∙ sym walked
    ∙ sym (ap (λ es. parity es q) area.edges)
    ∙ sym (inside b q v s i off_q)
    ∙ inner

list-begins : (b : Geometry) (ps : List Coordinates) (q : PlanePoint) → IsValid b → shape_of b ≡ Areas → IsPoint q → ShareNoPoint (edges_of b) (edges_of_list ps)
    → on_one (edges_of_list ps) q ≡ true → is_in b q ≡ true → begins_in b ps ≡ true
list-begins b [] q v s i apart on inner = absurd (no_edge q on)
list-begins b (p ∷ ps) q v s i apart on inner =
    let t = tight-of p ps in
    let edges = ap edges_between t.is in
    from-begins b p t.rest q v s i (subst (λ es. ShareNoPoint (edges_of b) es) edges apart) (subst (λ es. on_one es q ≡ true) edges on) inner

lists-begin : (b : Geometry) (lists : List (List Coordinates)) (q : PlanePoint) → IsValid b → shape_of b ≡ Areas → IsPoint q → ShareNoPoint (edges_of b) (flat_map edges_of_list lists)
    → on_one (flat_map edges_of_list lists) q ≡ true → is_in b q ≡ true → list_any (begins_in b) lists ≡ true
lists-begin b [] q v s i apart on inner = absurd (no_edge q on)
lists-begin b (ps ∷ lists) q v s i apart on inner =
    let among = λ (w : PlanePoint). list_any-append (λ e. on_edge e w) (edges_of_list ps) (flat_map edges_of_list lists) in
    ⊎_elim
    (λ here.
    or_left (begins_in b ps) (list_any (begins_in b) lists)
    (list-begins b ps q v s i (λ w j on_b on_ps. apart w j on_b (among w ∙ or_left (on_one (edges_of_list ps) w) (on_one (flat_map edges_of_list lists) w) on_ps)) here inner))
    (λ later.
    or_right (begins_in b ps) (list_any (begins_in b) lists)
    (lists-begin b lists q v s i (λ w j on_b on_ls. apart w j on_b (among w ∙ or_right (on_one (edges_of_list ps) w) (on_one (flat_map edges_of_list lists) w) on_ls)) later inner))
    (or_cases (on_one (edges_of_list ps) q) (on_one (flat_map edges_of_list lists) q) (sym (among q) ∙ on))

-- so does a geometry
edge-begins : (a b : Geometry) (q : PlanePoint) → IsValid b → shape_of b ≡ Areas → IsPoint q → ShareNoPoint (edges_of b) (edges_of a) → on_edges a q ≡ true → is_in b q ≡ true
    → has_start_in a b ≡ true
edge-begins (Point p) b q v s i apart on inner = absurd (no_edge q on)
edge-begins (MultiPoint ps) b q v s i apart on inner = absurd (no_edge q on)
edge-begins (LineString ps) b q v s i apart on inner = lists-begin b (ps ∷ []) q v s i apart on inner
edge-begins (MultiLineString lines) b q v s i apart on inner = lists-begin b lines q v s i apart on inner
edge-begins (Polygon rings) b q v s i apart on inner = lists-begin b rings q v s i apart on inner
edge-begins (MultiPolygon polygons) b q v s i apart on inner = lists-begin b (joined polygons) q v s i apart on inner

-- ---- points and lines

is_in-same : (b : Geometry) (p q : PlanePoint) → IsPoint p → IsPoint q → IsSamePoint p q → is_in b p ≡ is_in b q
is_in-same b p q i j s =
    let all = all_pieces b b in
    or_union all (in_interior b) (in_boundary b) (interior_union all b (second_has b b)) (boundary_union all b (second_has b b)) p q i j (one_cell all p q i j s)

points-start : (b : Geometry) (ps : List Coordinates) (q : PlanePoint) → IsPoint q → is_among ps q ≡ true → is_in b q ≡ true → list_any (λ p. is_in b (grid_point p)) ps ≡ true
points-start b ps q i among inner = any-follows (λ p. same_point (grid_point p) q) (λ p. is_in b (grid_point p)) ps (λ p same. is_in-same b (grid_point p) q (is_grid p) i same ∙ inner) among

-- what is in points is one of them
point-starts : (a b : Geometry) (q : PlanePoint) → shape_of a ≡ Points → IsPoint q → is_in a q ≡ true → is_in b q ≡ true → has_start_in a b ≡ true
point-starts (Point p) b q s i in_a in_b =
    ⊎_elim (λ same. is_in-same b (grid_point p) q (is_grid p) i same ∙ in_b) (λ none. absurd (both_ways false refl none)) (or_cases (same_point (grid_point p) q) false in_a)
point-starts (MultiPoint ps) b q s i in_a in_b =
    points-start b ps q i (⊎_elim (λ among. among) (λ none. absurd (both_ways false refl none)) (or_cases (is_among ps q) false in_a)) in_b
point-starts (LineString ps) b q s i in_a in_b = absurd cc
point-starts (MultiLineString lines) b q s i in_a in_b = absurd cc
point-starts (Polygon rings) b q s i in_a in_b = absurd cc
point-starts (MultiPolygon polygons) b q s i in_a in_b = absurd cc

-- what is in lines is on an edge of one
pub lines-on : (a : Geometry) (q : PlanePoint) → shape_of a ≡ Lines → IsPoint q → is_in a q ≡ true → on_edges a q ≡ true
lines-on (Point p) q s i in_a = absurd cc
lines-on (MultiPoint ps) q s i in_a = absurd cc
lines-on (Polygon rings) q s i in_a = absurd cc
lines-on (MultiPolygon polygons) q s i in_a = absurd cc
lines-on (LineString ps) q s i in_a =
    on-edges (ps ∷ []) q
    ∙ or_left (on_line ps q) false
    (⊎_elim (λ inner. (and_parts (on_line ps q) (not (is_among (ends_of ps) q)) inner).0) (λ end. end-on ps q i end)
    (or_cases (in_interior (LineString ps) q) (in_boundary (LineString ps) q) in_a))
lines-on (MultiLineString lines) q s i in_a =
    on-edges lines q
    ∙ ⊎_elim (λ inner. (and_parts (list_any (λ ps. on_line ps q) lines) (not (in_boundary (MultiLineString lines) q)) inner).0)
    (λ end. any-follows (λ ps. is_among (ends_of ps) q) (λ ps. on_line ps q) lines (λ ps m. end-on ps q i m) (odd-some-count (λ ps. is_among (ends_of ps) q) lines end))
    (or_cases (in_interior (MultiLineString lines) q) (in_boundary (MultiLineString lines) q) in_a)

-- ---- straight up from a point inside of two areas

-- an edge with a property, with all that is on it on one of all
record Found (test : Line → Bool) (es : List Line) : Type 0 where
  e : Line
  passes : test e ≡ true
  among : (w : PlanePoint) → IsOnEdge e w → on_one es w ≡ true

found : (test : Line → Bool) (es : List Line) → is_odd (count_by test es) ≡ true → Found test es
found test es odd = by_any es (odd-some-count test es odd)
  where
    by_any : (es : List Line) → list_any test es ≡ true → Found test es
    by_any [] any = absurd (both_ways false refl any)
    by_any (e ∷ es) any =
        ⊎_elim (λ here. record { e = e; passes = here; among = λ w on. or_left (on_edge e w) (on_one es w) on })
        (λ later. let f = by_any es later in record { e = f.e; passes = f.passes; among = λ w on. or_right (on_edge e w) (on_one es w) (f.among w on) })
        (or_cases (test e) (list_any test es) any)

-- where the edges have no point below r, and r is on none, they have none up to r
clear-up : (p r : PlanePoint) (es : List Line) → IsUp p r → on_one es r ≡ false → AllByRecursion (IsClearBelow p r) es → AllByRecursion (IsClearUp p r) es
clear-up p r [] u off clear = tt
clear-up p r (e ∷ es) u off clear = (
  λ w i column over to on.
      by_lt_z (w.y *ℤ pos r.d) (r.y *ℤ pos w.d) (λ lower. clear.0 w i column over lower on)
      (λ above.
      both_ways (on_one (e ∷ es) r) off
      (or_left (on_edge e r) (on_one es r)
      (on_edge-same_point e r w u.is_second i
      (and_from _ _ (test_from_eq (r.x *ℤ pos w.d) (w.x *ℤ pos r.d) (sym (one_column p w r u.is_first column (sym u.column))))
      (test_from_eq (r.y *ℤ pos w.d) (w.y *ℤ pos r.d) (equal (r.y *ℤ pos w.d) (w.y *ℤ pos r.d) above to))) on))),
  clear-up p r es u (false_from_ne_true (on_one es r) (λ on. both_ways (on_one (e ∷ es) r) off (or_right (on_edge e r) (on_one es r) on))) clear.1,
)
  where
    equal : (m n : ℤ) → m ≤ℤ n → n ≤ℤ m → m ≡ n
    equal m n h k = omega (arith, ints)

-- a point inside of b, and r above it on an edge of a, below which b has no edge: a begins in b
rises-begin : (a b : Geometry) (q r : PlanePoint) → IsValid b → shape_of b ≡ Areas → ShareNoPoint (edges_of b) (edges_of a) → IsUp q r → on_edges b q ≡ false → is_in b q ≡ true
    → AllByRecursion (IsClearBelow q r) (edges_of b) → on_edges a r ≡ true → has_start_in a b ≡ true
rises-begin a b q r v s apart u off inner clear on =
    let off_r = false_from_ne_true (on_edges b r) (λ on_b. apart r u.is_second on_b on) in
    edge-begins a b r v s u.is_second apart on
    (inside b r v s u.is_second off_r ∙ sym (up q r (edges_of b) u (clear-up q r (edges_of b) u off_r clear)) ∙ sym (inside b q v s u.is_first off) ∙ inner)

off-both : (es fs : List Line) (q : PlanePoint) → on_one es q ≡ false → on_one fs q ≡ false → AllByRecursion (λ e. on_edge e q ≡ false) (es ++ fs)
off-both [] [] q off none = tt
off-both [] (f ∷ fs) q off none = (
  false_from_ne_true (on_edge f q) (λ on. both_ways (on_one (f ∷ fs) q) none (or_left (on_edge f q) (on_one fs q) on)),
  off-both [] fs q off (false_from_ne_true (on_one fs q) (λ on. both_ways (on_one (f ∷ fs) q) none (or_right (on_edge f q) (on_one fs q) on))),
)
off-both (e ∷ es) fs q off none = (
  false_from_ne_true (on_edge e q) (λ on. both_ways (on_one (e ∷ es) q) off (or_left (on_edge e q) (on_one es q) on)),
  off-both es fs q (false_from_ne_true (on_one es q) (λ on. both_ways (on_one (e ∷ es) q) off (or_right (on_edge e q) (on_one es q) on))) none,
)

-- one of them begins in the other
abbrev Begins : Geometry → Geometry → Type 0
Begins a b = (has_start_in a b ≡ true) ⊎ (has_start_in b a ≡ true)

areas-begin : (a b : Geometry) (q : PlanePoint) → IsValid a → IsValid b → shape_of a ≡ Areas → shape_of b ≡ Areas → ShareNoPoint (edges_of a) (edges_of b) → IsPoint q
    → on_edges a q ≡ false → on_edges b q ≡ false → is_in a q ≡ true → is_in b q ≡ true → Begins a b
areas-begin a b q va vb sa sb apart i off_a off_b in_a in_b =
    let above = found (λ e. edge_above e q) (edges_of a) (sym (inside a q va sa i off_a) ∙ in_a) in
    let low = lowest q above.e (edges_of a ++ edges_of b) i above.passes
    (λ w on. list_any-append (λ e. on_edge e w) (edges_of a) (edges_of b) ∙ or_left (on_one (edges_of a) w) (on_one (edges_of b) w) (above.among w on))
    (off-both (edges_of a) (edges_of b) q off_a off_b) in
    let clear = each-parts (IsClearBelow q low.r) (edges_of a) (edges_of b) low.clear in
    ⊎_elim
    (λ on_a. inl (rises-begin a b q low.r vb sb (λ w j on_b on_a. apart w j on_a on_b) low.up off_b in_b clear.1 on_a))
    (λ on_b. inr (rises-begin b a q low.r va sa apart low.up off_a in_a clear.0 on_b))
    (or_cases (on_one (edges_of a) low.r) (on_one (edges_of b) low.r) (sym (list_any-append (λ e. on_edge e low.r) (edges_of a) (edges_of b)) ∙ low.on))

-- ---- all kinds

-- what is on an edge of an area, or else inside
by_edge : {P : Type 0} (b : Bool) → (b ≡ true → P) → (b ≡ false → P) → P
by_edge true on off = on refl
by_edge false on off = off refl

begins : (a b : Geometry) (q : PlanePoint) (f g : Shape) → shape_of a ≡ f → shape_of b ≡ g → IsValid a → IsValid b → ShareNoPoint (edges_of a) (edges_of b) → IsPoint q
    → is_in a q ≡ true → is_in b q ≡ true → Begins a b
begins a b q Points g sa sb va vb apart i in_a in_b = inl (point-starts a b q sa i in_a in_b)
begins a b q Lines Points sa sb va vb apart i in_a in_b = inr (point-starts b a q sb i in_b in_a)
begins a b q Lines Lines sa sb va vb apart i in_a in_b = absurd (apart q i (lines-on a q sa i in_a) (lines-on b q sb i in_b))
begins a b q Lines Areas sa sb va vb apart i in_a in_b = inl (edge-begins a b q vb sb i (λ w j on_b on_a. apart w j on_a on_b) (lines-on a q sa i in_a) in_b)
begins a b q Areas Points sa sb va vb apart i in_a in_b = inr (point-starts b a q sb i in_b in_a)
begins a b q Areas Lines sa sb va vb apart i in_a in_b = inr (edge-begins b a q va sa i apart (lines-on b q sb i in_b) in_a)
begins a b q Areas Areas sa sb va vb apart i in_a in_b =
    by_edge (on_edges a q) (λ on_a. inl (edge-begins a b q vb sb i (λ w j on_b on_a. apart w j on_a on_b) on_a in_b))
    (λ off_a.
    by_edge (on_edges b q) (λ on_b. inr (edge-begins b a q va sa i apart on_b in_a))
    (λ off_b. areas-begin a b q va vb sa sb apart i off_a off_b in_a in_b))

pub absence_is_decided : AbsenceIsDecided
absence_is_decided a b va vb apart none share =
    let none_shared : ShareNoPoint (edges_of a) (edges_of b) = λ w i on_a on_b. apart (record { q = w; is_point = i; in_first = on_a; in_second = on_b }) in
    ⊎_elim
    (λ first. both_ways (has_start_in a b || has_start_in b a) none (or_left (has_start_in a b) (has_start_in b a) first))
    (λ second. both_ways (has_start_in a b || has_start_in b a) none (or_right (has_start_in a b) (has_start_in b a) second))
    (begins a b share.q (shape_of a) (shape_of b) refl refl va vb none_shared share.is_point share.in_first share.in_second)
