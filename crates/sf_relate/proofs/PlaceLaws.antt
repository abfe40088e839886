-- The place of a point by counts is what the tests of a geometry say.
use Rattle.std.proofs.Common.{◌≡◌, ℕ, ◌+◌, arith, refl, ap, sym, ◌∙◌, Bool, true, false, cond, ◌&&◌, ◌||◌, not, List, [], ◌∷◌, map, nat_lt}
use Rattle.std.specs.Prelude.{if◌then◌else◌}
use Rattle.std.specs.List.{AllByRecursion, count_by, flat_map, list_any}
use Rattle.std.proofs.lemmas.Bool.{both_ways, false_from_ne_true}
use Rattle.std.proofs.lemmas.List.Sums.{sum_by-append, sum_by-cons}
use Rattle.sf_grid.specs.Plane.{Coordinates, IsPoint, Point as PlanePoint, grid_point, same_point}
use Rattle.sf_grid.specs.Edge.{Edge, edge_above, edge_between, on_edge}
use Rattle.sf_grid.specs.EvenOdd.{is_odd}
use Rattle.sf_strips.specs.declared.piece.Piece.TheVariants as pieces
use Rattle.sf_cells.specs.Pieces.{is_above, is_on}
use Rattle.sf_slabs.proofs.CallerLemmas.{each-parts}
use Rattle.sf_geometry.specs.declared.geometry.Geometry.TheVariants.{Point, LineString, Polygon, MultiPoint, MultiLineString, MultiPolygon}
use Rattle.sf_geometry.specs.Lists.{before_tight, edges_between, edges_from, edges_of as edges_of_list, ends_of as ends_of_line, is_closed, is_same, last_from, tight}
use Rattle.sf_geometry.specs.Parts.{joined}
use Rattle.sf_geometry.specs.PointSets.{in_polygon, is_among, on_line, on_polygon}
use Rattle.sf_geometry.proofs.ListLaws.{same-is}
use Rattle.sf_valid_rules.specs.Conditions.{Applies, any_two}
use Rattle.sf_valid_rules.specs.Rules.{Rule, polygon_rules, ring_rules}
use Rattle.sf_valid_rules.specs.Shapes.{in_hole_outside, in_two_holes, in_two_polygons}
use Rattle.sf_valid_rules.specs.Validity.{NoneApplies}
use Rattle.sf_pieces.specs.Marked.{piece_of}
use Rattle.sf_strands.proofs.EndLaws.{both-same, end-same-on, same-self, start-same-on}
use Rattle.sf_polygons.proofs.TestLaws.{any-flat, any-follows, any-map, count-map, odd-flat, odd-joined, odd_many, or-neither, or-none, or-right, some-count, xor}
use Rattle.sf_polygons.proofs.PieceLaws.{parity}
use Rattle.sf_polygons.proofs.PolygonLaws.{told-inside}
use Rattle.sf_interiors.proofs.ApartLaws.{interior_is_apart}
use Rattle.sf_relate.specs.declared.place.Place.TheVariants.{Interior, Boundary, Exterior}
use Rattle.sf_relate.specs.declared.shape.Shape.TheVariants.{Points, Lines, Areas}
use Rattle.sf_relate.specs.AllPieces.{end_dots_of, pieces_of}
use Rattle.sf_relate.specs.Places.{CountsTellPlaces, is_place, place_by}

-- ---- the places of points, lines and areas, by tests
points-told : (n e v : ℕ) (on : Bool) → nat_lt 0 n ≡ on → (on ≡ is_place Interior (place_by Points n e v)) × (false ≡ is_place Boundary (place_by Points n e v))
points-told n e v on h = (
  inside on ∙ ap (λ b. is_place Interior (if b then Interior else Exterior)) (sym h),
  never on ∙ ap (λ b. is_place Boundary (if b then Interior else Exterior)) (sym h),
)
  where
    inside : (b : Bool) → b ≡ is_place Interior (if b then Interior else Exterior)
    inside true = refl
    inside false = refl

    never : (b : Bool) → false ≡ is_place Boundary (if b then Interior else Exterior)
    never true = refl
    never false = refl

lines-told : (n e v : ℕ) (on end : Bool) → nat_lt 0 n ≡ on → is_odd e ≡ end → (end ≡ true → on ≡ true) →
    ((on && not end) ≡ is_place Interior (place_by Lines n e v)) × (end ≡ is_place Boundary (place_by Lines n e v))
lines-told n e v on end h k f = (
  inside on end ∙ ap (λ b. is_place Interior (if b then (if end then Boundary else Interior) else Exterior)) (sym h)
      ∙ ap (λ b. is_place Interior (if nat_lt 0 n then (if b then Boundary else Interior) else Exterior)) (sym k),
  ending on end f ∙ ap (λ b. is_place Boundary (if b then (if end then Boundary else Interior) else Exterior)) (sym h)
      ∙ ap (λ b. is_place Boundary (if nat_lt 0 n then (if b then Boundary else Interior) else Exterior)) (sym k),
)
  where
    inside : (b c : Bool) → (b && not c) ≡ is_place Interior (if b then (if c then Boundary else Interior) else Exterior)
    inside true true = refl
    inside true false = refl
    inside false c = refl

    ending : (b c : Bool) → (c ≡ true → b ≡ true) → c ≡ is_place Boundary (if b then (if c then Boundary else Interior) else Exterior)
    ending true true g = refl
    ending true false g = refl
    ending false true g = sym (g refl)
    ending false false g = refl

-- inside is off the boundary, where an odd number is above
areas-told : (n e v : ℕ) (on odd inside : Bool) → nat_lt 0 n ≡ on → is_odd v ≡ odd → inside ≡ (not on && odd) →
    (inside ≡ is_place Interior (place_by Areas n e v)) × (on ≡ is_place Boundary (place_by Areas n e v))
areas-told n e v on odd inside h k is = (
  is ∙ within on odd ∙ ap (λ b. is_place Interior (if b then Boundary else (if odd then Interior else Exterior))) (sym h)
      ∙ ap (λ b. is_place Interior (if nat_lt 0 n then Boundary else (if b then Interior else Exterior))) (sym k),
  around on odd ∙ ap (λ b. is_place Boundary (if b then Boundary else (if odd then Interior else Exterior))) (sym h)
      ∙ ap (λ b. is_place Boundary (if nat_lt 0 n then Boundary else (if b then Interior else Exterior))) (sym k),
)
  where
    within : (b c : Bool) → (not b && c) ≡ is_place Interior (if b then Boundary else (if c then Interior else Exterior))
    within true c = refl
    within false true = refl
    within false false = refl

    around : (b c : Bool) → b ≡ is_place Boundary (if b then Boundary else (if c then Interior else Exterior))
    around true c = refl
    around false true = refl
    around false false = refl

-- ---- lines: something on q, and the ends there
pub on-lines : (lines : List (List Coordinates)) (q : PlanePoint) → nat_lt 0 (count_by (is_on q) (map piece_of (flat_map edges_of_list lines))) ≡ list_any (λ ps. on_line ps q) lines
on-lines lines q =
    some-count (is_on q) (map piece_of (flat_map edges_of_list lines))
    ∙ any-map (is_on q) piece_of (flat_map edges_of_list lines)
    ∙ any-flat (λ (e : Edge). on_edge e q) edges_of_list lines

-- one for each member of some lists, or none
count-ones : {A B : Type 0} (t : B → Bool) (f : A → List B) (u : A → Bool) (xs : List A) → ((x : A) → count_by t (f x) ≡ cond (u x) 1 0) →
    count_by t (flat_map f xs) ≡ count_by u xs
count-ones t f u [] h = refl
count-ones t f u (x ∷ xs) h =
    sum_by-append (λ y. cond (t y) 1 0) (f x) (flat_map f xs)
    ∙ ap (λ n. n + count_by t (flat_map f xs)) (h x)
    ∙ ap (λ n. cond (u x) 1 0 + n) (count-ones t f u xs h)
    ∙ sym (sum_by-cons (λ y. cond (u y) 1 0) x xs)

-- two different ends aren't both at q
ends-once : (q : PlanePoint) → IsPoint q → (ps : List Coordinates) → count_by (λ p. same_point (grid_point p) q) (ends_of_line ps) ≡ cond (is_among (ends_of_line ps) q) 1 0
ends-once q i [] = refl
ends-once q i (p ∷ ps) = by_test (is_closed (p ∷ ps)) refl
  where
    two : (s t : Bool) → (s ≡ true → t ≡ true → ⊥) → 0 + cond s 1 0 + cond t 1 0 ≡ cond (s || (t || false)) 1 0
    two true true f = absurd (f refl refl)
    two true false f = refl
    two false true f = refl
    two false false f = refl

    by_test : (c : Bool) → is_closed (p ∷ ps) ≡ c →
        count_by (λ r. same_point (grid_point r) q) (if c then [] else p ∷ last_from p ps ∷ []) ≡ cond (is_among (if c then [] else p ∷ last_from p ps ∷ []) q) 1 0
    by_test true e = refl
    by_test false e =
        two (same_point (grid_point p) q) (same_point (grid_point (last_from p ps)) q)
        (λ h k. both_ways (is_closed (p ∷ ps)) e (both-same p (last_from p ps) q i h k))

pub count-ends : (lines : List (List Coordinates)) (q : PlanePoint) → IsPoint q →
    count_by (is_on q) (map pieces.Dot (flat_map ends_of_line lines)) ≡ count_by (λ ps. is_among (ends_of_line ps) q) lines
count-ends lines q i =
    count-map (is_on q) pieces.Dot (flat_map ends_of_line lines)
    ∙ count-ones (λ p. same_point (grid_point p) q) ends_of_line (λ ps. is_among (ends_of_line ps) q) lines (ends-once q i)

-- a tight list begins and ends as its list does
pub record IsTightOf (p : Coordinates) (ps ts : List Coordinates) : Type 0 where
  pub rest : List Coordinates
  pub is : ts ≡ p ∷ rest
  pub last : last_from p rest ≡ last_from p ps

pub tight-of : (p : Coordinates) (ps : List Coordinates) → IsTightOf p ps (tight (p ∷ ps))
tight-of p [] = record { rest = []; is = refl; last = refl }
tight-of p (q ∷ qs) = step (tight-of q qs)
  where
    step : IsTightOf q qs (tight (q ∷ qs)) → IsTightOf p (q ∷ qs) (tight (p ∷ q ∷ qs))
    step t = by_test (is_same p q) refl
      where
        by_test : (c : Bool) → is_same p q ≡ c → IsTightOf p (q ∷ qs) (tight (p ∷ q ∷ qs))
        by_test true e =
            record {
              rest = t.rest;
              is = ap (before_tight p) t.is ∙ ap (λ c. if c then q ∷ t.rest else p ∷ q ∷ t.rest) e ∙ ap (λ r. r ∷ t.rest) (sym (same-is p q e));
              last = ap (λ r. last_from r t.rest) (same-is p q e) ∙ t.last;
            }
        by_test false e =
            record {
              rest = q ∷ t.rest;
              is = ap (before_tight p) t.is ∙ ap (λ c. if c then q ∷ t.rest else p ∷ q ∷ t.rest) e;
              last = t.last;
            }

-- the ends of a line are on it
last-on : (p s : Coordinates) (rest : List Coordinates) (q : PlanePoint) → IsPoint q → same_point (grid_point (last_from s rest)) q ≡ true →
    list_any (λ e. on_edge e q) (edges_from p (s ∷ rest)) ≡ true
last-on p s [] q i h = ap (λ b. b || false) (end-same-on p s q i h)
last-on p s (t ∷ rest) q i h = or-right (on_edge (edge_between p s) q) (list_any (λ e. on_edge e q) (edges_from s (t ∷ rest))) (last-on s t rest q i h)

pub end-on : (ps : List Coordinates) (q : PlanePoint) → IsPoint q → is_among (ends_of_line ps) q ≡ true → on_line ps q ≡ true
end-on [] q i h = absurd (both_ways (is_among [] q) refl h)
end-on (p ∷ ps) q i h = by_test (is_closed (p ∷ ps)) refl h
  where
    at_ends : (rest : List Coordinates) → last_from p rest ≡ last_from p ps → is_closed (p ∷ ps) ≡ false →
        (same_point (grid_point p) q || (same_point (grid_point (last_from p ps)) q || false)) ≡ true → list_any (λ e. on_edge e q) (edges_from p rest) ≡ true
    at_ends [] l ends k = absurd (both_ways (is_closed (p ∷ ps)) ends (ap (is_same p) (sym l) ∙ same-self p))
    at_ends (s ∷ rest) l ends k = by_end (same_point (grid_point p) q) refl k
      where
        by_end : (c : Bool) → same_point (grid_point p) q ≡ c → (c || (same_point (grid_point (last_from p ps)) q || false)) ≡ true →
            list_any (λ e. on_edge e q) (edges_from p (s ∷ rest)) ≡ true
        by_end true e m = ap (λ b. b || list_any (λ d. on_edge d q) (edges_from s rest)) (start-same-on p s q i e)
        by_end false e m =
            last-on p s rest q i
            (ap (λ v. same_point (grid_point v) q) l ∙ sym (or-none (same_point (grid_point (last_from p ps)) q)) ∙ m)

    by_test : (c : Bool) → is_closed (p ∷ ps) ≡ c → is_among (if c then [] else p ∷ last_from p ps ∷ []) q ≡ true → on_line (p ∷ ps) q ≡ true
    by_test true e k = absurd (both_ways (is_among [] q) refl k)
    by_test false e k =
        let t = tight-of p ps in
        ap (λ ts. list_any (λ d. on_edge d q) (edges_between ts)) t.is ∙ at_ends t.rest t.last e k

pub odd-some-count : {A : Type 0} (t : A → Bool) (xs : List A) → is_odd (count_by t xs) ≡ true → list_any t xs ≡ true
odd-some-count t xs h = sym (some-count t xs) ∙ positive (count_by t xs) h
  where
    positive : (n : ℕ) → is_odd n ≡ true → nat_lt 0 n ≡ true
    positive n k = grind (arith, k)

-- ---- areas: where no two polygons have a point, an odd number of them does just where one does
odd-one : {A : Type 0} (t : A → Bool) (xs : List A) → any_two (λ x y. t x && t y) xs ≡ false → odd_many (map t xs) ≡ list_any t xs
odd-one t [] h = refl
odd-one t (x ∷ xs) h = by_test (t x) (odd-one t xs) h
  where
    by_test : (b : Bool) → (any_two (λ y z. t y && t z) xs ≡ false → odd_many (map t xs) ≡ list_any t xs) →
        (list_any (λ y. b && t y) xs || any_two (λ y z. t y && t z) xs) ≡ false → xor b (odd_many (map t xs)) ≡ (b || list_any t xs)
    by_test true rest k = let parts = or-neither (list_any t xs) (any_two (λ y z. t y && t z) xs) k in ap not (rest parts.1 ∙ parts.0)
    by_test false rest k = rest ((or-neither (list_any (λ y. false) xs) (any_two (λ y z. t y && t z) xs) k).1)

map-each : {A B : Type 0} (f g : A → B) (xs : List A) → AllByRecursion (λ x. f x ≡ g x) xs → map f xs ≡ map g xs
map-each f g [] h = refl
map-each f g (x ∷ xs) h = ap (λ y. y ∷ map f xs) h.0 ∙ ap (λ ys. g x ∷ ys) (map-each f g xs h.1)

odd-rings : (rings : List (List Coordinates)) (q : PlanePoint) → is_odd (count_by (is_above q) (map piece_of (flat_map edges_of_list rings))) ≡ odd_many (map (parity q) rings)
odd-rings rings q =
    ap is_odd (count-map (is_above q) piece_of (flat_map edges_of_list rings)) ∙ odd-flat (λ (e : Edge). edge_above e q) edges_of_list rings

-- what is known of polygons at a point
record IsTold (polygons : List (List (List Coordinates))) (q : PlanePoint) : Type 0 where
  within : list_any (λ rings. in_hole_outside rings q) polygons ≡ false
  apart : list_any (λ rings. in_two_holes rings q) polygons ≡ false
  alone : in_two_polygons polygons q ≡ false

-- off all rings: each polygon by its own parity
polygons-off : (polygons : List (List (List Coordinates))) (q : PlanePoint) → list_any (λ rings. on_polygon rings q) polygons ≡ false →
    list_any (λ rings. in_hole_outside rings q) polygons ≡ false → list_any (λ rings. in_two_holes rings q) polygons ≡ false →
    AllByRecursion (λ rings. in_polygon rings q ≡ odd_many (map (parity q) rings)) polygons
polygons-off [] q off within apart = tt
polygons-off (rings ∷ polygons) q off within apart =
    let offs = or-neither (on_polygon rings q) (list_any (λ rs. on_polygon rs q) polygons) off in
    let withins = or-neither (in_hole_outside rings q) (list_any (λ rs. in_hole_outside rs q) polygons) within in
    let aparts = or-neither (in_two_holes rings q) (list_any (λ rs. in_two_holes rs q) polygons) apart in (
      sym (told-inside rings q withins.0 aparts.0) ∙ ap (λ b. not b && odd_many (map (parity q) rings)) offs.0,
      polygons-off polygons q offs.1 withins.1 aparts.1,
    )

polygons-told : (polygons : List (List (List Coordinates))) (q : PlanePoint) → IsTold polygons q →
    (list_any (λ rings. in_polygon rings q) polygons ≡ true → list_any (λ rings. on_polygon rings q) polygons ≡ false) →
    list_any (λ rings. in_polygon rings q) polygons ≡ (not (list_any (λ rings. on_polygon rings q) polygons) && odd_many (map (parity q) (joined polygons)))
polygons-told polygons q told apart = by_test (list_any (λ rings. on_polygon rings q) polygons) refl
  where
    by_test : (b : Bool) → list_any (λ rings. on_polygon rings q) polygons ≡ b → list_any (λ rings. in_polygon rings q) polygons ≡ (not b && odd_many (map (parity q) (joined polygons)))
    by_test true e =
        false_from_ne_true (list_any (λ rings. in_polygon rings q) polygons) (λ h. both_ways (list_any (λ rings. on_polygon rings q) polygons) (apart h) e)
    by_test false e =
        sym (odd-one (λ rings. in_polygon rings q) polygons told.alone)
        ∙ ap odd_many (map-each (λ rings. in_polygon rings q) (λ rings. odd_many (map (parity q) rings)) polygons (polygons-off polygons q e told.within told.apart))
        ∙ sym (odd-joined (parity q) (λ (rings : List (List Coordinates)). rings) polygons)

told-from : (polygons : List (List (List Coordinates))) (q : PlanePoint) → IsPoint q → NoneApplies (polygon_rules polygons) → IsTold polygons q
told-from polygons q i h =
    record {
      within = false_from_ne_true (list_any (λ rings. in_hole_outside rings q) polygons) (λ t. h.1.0 (q, i, t));
      apart = false_from_ne_true (list_any (λ rings. in_two_holes rings q) polygons) (λ t. h.1.1.0 (q, i, t));
      alone = false_from_ne_true (in_two_polygons polygons q) (λ t. h.1.1.1.0 (q, i, t));
    }

abbrev NoneOf : Rule → Type 0
NoneOf rule = ¬ (Applies rule.condition)

-- ---- the law
pub counts_tell_places : CountsTellPlaces
counts_tell_places (Point p) q v i =
    let t = points-told (count_by (is_on q) (pieces.Dot p ∷ [])) 0 0 (same_point (grid_point p) q) (some-count (is_on q) (pieces.Dot p ∷ []) ∙ or-none (same_point (grid_point p) q)) in
    record { interior = t.0; boundary = t.1 }
counts_tell_places (MultiPoint ps) q v i =
    let t = points-told (count_by (is_on q) (map pieces.Dot ps)) 0 0 (is_among ps q) (some-count (is_on q) (map pieces.Dot ps) ∙ any-map (is_on q) pieces.Dot ps) in
    record { interior = t.0; boundary = t.1 }
counts_tell_places (LineString ps) q v i =
    let a = LineString ps in
    let t =
    lines-told (count_by (is_on q) (pieces_of a)) (count_by (is_on q) (end_dots_of a)) 0 (on_line ps q) (is_among (ends_of_line ps) q)
    (on-lines (ps ∷ []) q ∙ or-none (on_line ps q)) (ap is_odd (count-ends (ps ∷ []) q i) ∙ one (is_among (ends_of_line ps) q)) (end-on ps q i) in
    record { interior = t.0; boundary = t.1 }
  where
    one : (b : Bool) → is_odd (0 + cond b 1 0) ≡ b
    one true = refl
    one false = refl
counts_tell_places (MultiLineString lines) q v i =
    let a = MultiLineString lines in
    let t =
    lines-told (count_by (is_on q) (pieces_of a)) (count_by (is_on q) (end_dots_of a)) 0 (list_any (λ ps. on_line ps q) lines)
    (is_odd (count_by (λ ps. is_among (ends_of_line ps) q) lines)) (on-lines lines q) (ap is_odd (count-ends lines q i))
    (λ o. any-follows (λ ps. is_among (ends_of_line ps) q) (λ ps. on_line ps q) lines (λ ps k. end-on ps q i k)
    (odd-some-count (λ ps. is_among (ends_of_line ps) q) lines o)) in
    record { interior = t.0; boundary = t.1 }
counts_tell_places (Polygon rings) q v i =
    let a = Polygon rings in
    let told = told-from (rings ∷ []) q i (each-parts NoneOf (flat_map ring_rules (joined (rings ∷ []))) (polygon_rules (rings ∷ [])) v.faultless).1 in
    let t =
    areas-told (count_by (is_on q) (pieces_of a)) 0 (count_by (is_above q) (pieces_of a)) (on_polygon rings q) (odd_many (map (parity q) rings)) (in_polygon rings q)
    (on-lines rings q) (odd-rings rings q)
    (sym (told-inside rings q (sym (or-none (in_hole_outside rings q)) ∙ told.within) (sym (or-none (in_two_holes rings q)) ∙ told.apart))) in
    record { interior = t.0; boundary = t.1 }
counts_tell_places (MultiPolygon polygons) q v i =
    let a = MultiPolygon polygons in
    let told = told-from polygons q i (each-parts NoneOf (flat_map ring_rules (joined polygons)) (polygon_rules polygons) v.faultless).1 in
    let t =
    areas-told (count_by (is_on q) (pieces_of a)) 0 (count_by (is_above q) (pieces_of a)) (list_any (λ rings. on_polygon rings q) polygons)
    (odd_many (map (parity q) (joined polygons))) (list_any (λ rings. in_polygon rings q) polygons)
    (on-lines (joined polygons) q ∙ any-flat (λ ring. on_line ring q) (λ (rings : List (List Coordinates)). rings) polygons) (odd-rings (joined polygons) q)
    (polygons-told polygons q told (interior_is_apart a q v i)) in
    record { interior = t.0; boundary = t.1 }
