-- The place by tests on edges and ends is the place by counts, so it is the place of a point in a valid geometry.
use Rattle.std.proofs.Common.{◌≡◌, ℕ, ◌+◌, refl, ap, sym, ◌∙◌, subst, Bool, true, false, cond, List, ◌∷◌, [], map, nat_lt, inl, inr, ⊎_elim}
use Rattle.std.specs.Prelude.{if◌then◌else◌}
use Rattle.std.specs.List.{count_by, flat_map, list_any}
use Rattle.std.proofs.lemmas.Bool.{both_ways, or_cases, or_left, or_right}
use Rattle.sf_grid.specs.Plane.{Coordinates, IsPoint, Point as PlanePoint, grid_point, same_point}
use Rattle.sf_grid.specs.Edge.{Edge, IsOnEdge, on_edge}
use Rattle.sf_grid.specs.EvenOdd.{is_odd}
use Rattle.sf_strips.specs.declared.piece.Piece.TheVariants as pieces
use Rattle.sf_cells.specs.Pieces.{is_above, is_on}
use Rattle.sf_geometry.specs.declared.geometry.Geometry.{Geometry}
use Rattle.sf_geometry.specs.declared.geometry.Geometry.TheVariants.{Point, LineString, Polygon, MultiPoint, MultiLineString, MultiPolygon}
use Rattle.sf_geometry.specs.Lists.{edges_of as edges_of_list, ends_of as ends_of_line}
use Rattle.sf_geometry.specs.Parts.{edges_of, joined}
use Rattle.sf_geometry.specs.Walks.{HasEdge}
use Rattle.sf_interiors.proofs.ParityLaws.{on-edges}
use Rattle.sf_geometry.specs.PointSets.{is_among, on_line}
use Rattle.sf_pieces.specs.Marked.{piece_of}
use Rattle.sf_polygons.proofs.TestLaws.{any-follows, any-map, count-map, or-none, some-count}
use Rattle.sf_valid_rules.specs.Validity.{IsValid}
use Rattle.sf_strands.proofs.EndLaws.{grid-IsPoint}
use Rattle.sf_relate.specs.declared.place.Place.{Place}
use Rattle.sf_relate.specs.declared.place.Place.TheVariants.{Interior, Boundary, Exterior}
use Rattle.sf_relate.specs.declared.shape.Shape.TheVariants.{Areas, Lines}
use Rattle.sf_relate.specs.AllPieces.{end_dots_of, pieces_of}
use Rattle.sf_relate.specs.Locating.{area_place, edges_place, line_place, place_by_tests, point_place}
use Rattle.sf_relate.specs.Places.{IsPlaceOf, place_at, place_by}
use Rattle.sf_relate.proofs.PlaceLaws.{count-ends, counts_tell_places, end-on, odd-some-count, on-lines}

-- where an odd number of lines ends there is a line
odd-on : (lines : List (List Coordinates)) (q : PlanePoint) → IsPoint q → is_odd (count_by (λ ps. is_among (ends_of_line ps) q) lines) ≡ true →
    list_any (λ ps. on_line ps q) lines ≡ true
odd-on lines q i h =
    any-follows (λ ps. is_among (ends_of_line ps) q) (λ ps. on_line ps q) lines (λ ps k. end-on ps q i k) (odd-some-count (λ ps. is_among (ends_of_line ps) q) lines h)

-- ---- lines, by all of their edges
pub on-one : (q : PlanePoint) (es : List Edge) → HasEdge (λ e. IsOnEdge e q) es → list_any (λ e. on_edge e q) es ≡ true
on-one q [] none = absurd none
on-one q (e ∷ es) has =
    ⊎_elim (λ here. or_left (on_edge e q) (list_any (λ d. on_edge d q) es) here) (λ later. or_right (on_edge e q) (list_any (λ d. on_edge d q) es) (on-one q es later)) has

pub one-on : (q : PlanePoint) (es : List Edge) → list_any (λ e. on_edge e q) es ≡ true → HasEdge (λ e. IsOnEdge e q) es
one-on q [] h = absurd (both_ways false refl h)
one-on q (e ∷ es) h = ⊎_elim (λ here. inl here) (λ later. inr (one-on q es later)) (or_cases (on_edge e q) (list_any (λ d. on_edge d q) es) h)

-- the place on one line, and on several
pub on-line : (g : Geometry) (ps : List Coordinates) (q : PlanePoint) (end : Bool) (place : Place) → g ≡ LineString ps → end ≡ is_among (ends_of_line ps) q →
    place ≡ line_place (list_any (λ e. on_edge e q) (edges_of g)) end → place ≡ place_by_tests g q
on-line g ps q end place is ends h =
    h
    ∙ ap (λ a. line_place (list_any (λ e. on_edge e q) (edges_of a)) end) is
    ∙ ap (λ b. line_place b end) (on-edges (ps ∷ []) q ∙ or-none (on_line ps q))
    ∙ ap (line_place (on_line ps q)) ends
    ∙ ap (λ a. place_by_tests a q) (sym is)

pub on-lines-by : (g : Geometry) (lines : List (List Coordinates)) (q : PlanePoint) (end : Bool) (place : Place) → g ≡ MultiLineString lines →
    end ≡ is_odd (count_by (λ ps. is_among (ends_of_line ps) q) lines) → place ≡ line_place (list_any (λ e. on_edge e q) (edges_of g)) end → place ≡ place_by_tests g q
on-lines-by g lines q end place is ends h =
    h
    ∙ ap (λ a. line_place (list_any (λ e. on_edge e q) (edges_of a)) end) is
    ∙ ap (λ b. line_place b end) (on-edges lines q)
    ∙ ap (line_place (list_any (λ ps. on_line ps q) lines)) ends
    ∙ ap (λ a. place_by_tests a q) (sym is)

-- ---- the place by counts
line-same : (on end : Bool) → (end ≡ true → on ≡ true) → line_place on end ≡ (if on then (if end then Boundary else Interior) else Exterior)
line-same true true f = refl
line-same true false f = refl
line-same false true f = absurd (both_ways false refl (f refl))
line-same false false f = refl

lines-counted : (n e v : ℕ) (on end : Bool) → nat_lt 0 n ≡ on → is_odd e ≡ end → (end ≡ true → on ≡ true) → line_place on end ≡ place_by Lines n e v
lines-counted n e v on end h k f =
    line-same on end f
    ∙ ap (λ b. if b then (if end then Boundary else Interior) else Exterior) (sym h)
    ∙ ap (λ b. if nat_lt 0 n then (if b then Boundary else Interior) else Exterior) (sym k)

edges-counted : (es : List Edge) (q : PlanePoint) (ends : ℕ) →
    edges_place es q ≡ place_by Areas (count_by (is_on q) (map piece_of es)) ends (count_by (is_above q) (map piece_of es))
edges-counted es q ends =
    sym (ap (λ b. area_place b (is_odd (count_by (is_above q) (map piece_of es)))) (some-count (is_on q) (map piece_of es) ∙ any-map (is_on q) piece_of es)
    ∙ ap (λ n. area_place (list_any (λ (e : Edge). on_edge e q) es) (is_odd n)) (count-map (is_above q) piece_of es))

one : (b : Bool) → is_odd (0 + cond b 1 0) ≡ b
one true = refl
one false = refl

counted : (a : Geometry) (q : PlanePoint) → IsPoint q → place_by_tests a q ≡ place_at a q
counted (Point p) q i = ap point_place (sym (some-count (is_on q) (pieces.Dot p ∷ []) ∙ or-none (same_point (grid_point p) q)))
counted (MultiPoint ps) q i = ap point_place (sym (some-count (is_on q) (map pieces.Dot ps) ∙ any-map (is_on q) pieces.Dot ps))
counted (LineString ps) q i =
    let a = LineString ps in
    lines-counted (count_by (is_on q) (pieces_of a)) (count_by (is_on q) (end_dots_of a)) (count_by (is_above q) (pieces_of a)) (on_line ps q) (is_among (ends_of_line ps) q)
    (on-lines (ps ∷ []) q ∙ or-none (on_line ps q)) (ap is_odd (count-ends (ps ∷ []) q i) ∙ one (is_among (ends_of_line ps) q)) (end-on ps q i)
counted (MultiLineString lines) q i =
    let a = MultiLineString lines in
    lines-counted (count_by (is_on q) (pieces_of a)) (count_by (is_on q) (end_dots_of a)) (count_by (is_above q) (pieces_of a)) (list_any (λ ps. on_line ps q) lines)
    (is_odd (count_by (λ ps. is_among (ends_of_line ps) q) lines)) (on-lines lines q) (ap is_odd (count-ends lines q i)) (odd-on lines q i)
counted (Polygon rings) q i = edges-counted (flat_map edges_of_list rings) q (count_by (is_on q) (end_dots_of (Polygon rings)))
counted (MultiPolygon polygons) q i = edges-counted (flat_map edges_of_list (joined polygons)) q (count_by (is_on q) (end_dots_of (MultiPolygon polygons)))

pub tests_tell_places : (a : Geometry) (q : PlanePoint) → IsValid a → IsPoint q → IsPlaceOf a q (place_by_tests a q)
tests_tell_places a q v i = subst (IsPlaceOf a q) (sym (counted a q i)) (counts_tell_places a q v i)

-- the place that was found by tests, of the geometry that a valid one holds
pub located : (a g : Geometry) (p : Coordinates) (place : Place) → IsValid a → g ≡ a → place ≡ place_by_tests g (grid_point p) → IsPlaceOf a (grid_point p) place
located a g p place v e h =
    subst (IsPlaceOf a (grid_point p)) (sym (h ∙ ap (λ b. place_by_tests b (grid_point p)) e)) (tests_tell_places a (grid_point p) v (grid-IsPoint p))
