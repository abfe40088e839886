-- The entries gathered from a geometry's pieces and the edges of an area that tell the places of its points: the rows of its
-- interior and its boundary are those of the matrix; the third row is told by parts of the area beyond the geometry.
use Rattle.std.proofs.Common.{◌≡◌, ℕ, ◌+◌, ◌<◌, ◌≤◌, ◌==◌, ◌⊎◌, inl, inr, arith, refl, ap, sym, ◌∙◌, subst, Bool, true, false, ◌&&◌, List, [], ◌∷◌, ◌++◌, map, fold, get_or, length, nat_lt}
use Rattle.std.specs.Prelude.{if◌then◌else◌, slice_index}
use Rattle.std.specs.List.{AllByRecursion, count_by, list_any}
use Rattle.std.proofs.lemmas.Bool.{and_parts, or_left, or_right}
use Rattle.std.proofs.lemmas.List.{length-append, length-map}
use Rattle.std.proofs.lemmas.List.Elements.{All-from_recursion, recursion_from_All}
use Rattle.sf_grid.specs.Edge.{Edge, edge_above, edge_between, on_edge}
use Rattle.sf_grid.specs.EvenOdd.{edges_above, is_odd}
use Rattle.sf_grid.specs.Plane.{Coordinates, IsPoint, Point as PlanePoint}
use Rattle.sf_strips.specs.declared.piece.Piece.{Piece}
use Rattle.sf_strips.specs.declared.piece.Piece.TheVariants as pieces
use Rattle.sf_cells.specs.Cells.{cell_of}
use Rattle.sf_cells.specs.Groups.{Item, item_of}
use Rattle.sf_cells.specs.Pieces.{is_above, is_on}
use Rattle.sf_cells.specs.Samples.{Sample, samples}
use Rattle.sf_classes.specs.Classes.{Represent, WereHanded}
use Rattle.sf_classes.proofs.ClassLaws.{represent-answers}
use Rattle.sf_slabs.proofs.CallerLemmas.{each-map}
use Rattle.sf_geometry.specs.declared.geometry.Geometry.{Geometry}
use Rattle.sf_geometry.specs.declared.geometry.Geometry.TheVariants.{Point, LineString, Polygon, MultiPoint, MultiLineString, MultiPolygon}
use Rattle.sf_geometry.specs.Lists.{edges_of, is_same}
use Rattle.sf_geometry.specs.Parts.{edge_of, ends_of, lines_of}
use Rattle.sf_geometry.proofs.ListLaws.{edges-step}
use Rattle.sf_geometry.specs.PointSets.{in_boundary, in_exterior, in_interior}
use Rattle.sf_plane.proofs.CombineLaws.{above_union, any_union, count_union, on_union}
use Rattle.sf_plane.proofs.CoverLaws.{in_append_left, in_append_right}
use Rattle.sf_plane.proofs.PlaceLaws.{IsIn}
use Rattle.sf_plane.proofs.SampleCellLaws.{every_sample}
use Rattle.sf_plane.proofs.UnionLaws.{dimension_is_unique, samples_tell}
use Rattle.sf_plane.specs.Cover.{IsInCell}
use Rattle.sf_plane.specs.declared.dim.Dim.{Dim}
use Rattle.sf_plane.specs.declared.dim.Dim.TheVariants.{Nothing, One, Two}
use Rattle.sf_plane.specs.Dimension.{HasDimension, HasTriangle}
use Rattle.sf_plane.specs.Unions.{IsUnionOfCells, dim_of, dimension_by_samples, greater_dim, greatest_dim}
use Rattle.sf_valid_rules.specs.Validity.{IsValid}
use Rattle.sf_valid_rules.proofs.MemberLaws.{each-from_in, each-of_map}
use Rattle.sf_interiors.specs.Dimensions.{boundary_dim, interior_dim}
use Rattle.sf_interiors.proofs.DimensionLaws.{boundary_has_dimension}
use Rattle.sf_pieces.specs.Marked.{HasGroups, Marked, groups_of, item_at, items_of, marked, piece_of, pieces_of as pieces_among}
use Rattle.sf_pieces.proofs.CountLaws.{items-count}
use Rattle.sf_polygons.proofs.TestLaws.{any-map, count-map, map-join, some-count}
use Rattle.sf_known.proofs.NineLaws.{nine-listed, same-length, six-known}
use Rattle.sf_known.specs.declared.aim.Aim.TheVariants.{Entries}
use Rattle.sf_known.specs.declared.known.Known.{Known}
use Rattle.sf_known.specs.Entries.{lesser_dim}
use Rattle.sf_known.specs.Known.{AreAtMost, have_most}
use Rattle.sf_relate.specs.declared.place.Place.{Place}
use Rattle.sf_relate.specs.declared.place.Place.TheVariants.{Interior, Boundary, Exterior}
use Rattle.sf_relate.specs.declared.shape.Shape.TheVariants.{Areas}
use Rattle.sf_relate.specs.AllPieces.{all_pieces, end_dots_of, grouped, pieces_of, with_ends}
use Rattle.sf_relate.specs.Contact.{is_in, own_rows}
use Rattle.sf_relate.specs.Locating.{area_place, edges_place}
use Rattle.sf_relate.specs.Matrices.{both, matrix_of}
use Rattle.sf_relate.specs.Most.{beyond_row, boundary_most, known_beyond, most_entries}
use Rattle.sf_relate.specs.Nearby.{ReachesBeyond, TellPlaces, nearby_grouped, nearby_pieces}
use Rattle.sf_relate.specs.Places.{Gathered, IsPlaceOf, begun, first_place, is_areal, is_place, place_at, place_by, second_place, shape_of, with_cell}
use Rattle.sf_relate.proofs.FoldLaws.{Table, areal_of, fold-listed, greatest_at, is_at, listed, listed-same, of_place, places-of-classes, set_of}
use Rattle.sf_relate.proofs.GroupLaws.{one-are, passing, passing-append, passing-marked, passing-one, places-of, unmarked}
use Rattle.sf_relate.proofs.MostLaws.{entries-at_most}
use Rattle.sf_relate.proofs.PlaceLaws.{counts_tell_places}
use Rattle.sf_relate.proofs.SetLaws.{HasAll, boundary_union, interior_union, matrices_are_over_the_plane}
use Rattle.sf_relate.proofs.SinkLaws.{IsGatheredOf, gathered-from}
use Rattle.sf_relate.proofs.SizeLaws.{CanWalk, each-joined, each-marked, ends-pairs, few-with_ends, length-grouped, some-piece}
use Rattle.sf_relate.proofs.ToldLaws.{outside-both}

-- ---- the pieces without their groups
nearby-are : (a : Geometry) (es : List Edge) → pieces_among (nearby_grouped a es) ≡ nearby_pieces a es
nearby-are a es =
    map-join (λ (k : Marked). k.0) (marked 1 (map piece_of es)) (grouped 0 2 a)
    ∙ ap (λ ps. ps ++ pieces_among (grouped 0 2 a)) (unmarked 1 (map piece_of es))
    ∙ ap (λ ps. map piece_of es ++ ps) (one-are 0 2 a)

-- ---- how many of a group pass a test
passing-nearby : (test : Piece → Bool) (g : ℕ) (a : Geometry) (es : List Edge) → passing test g (nearby_grouped a es)
    ≡ (if 1 == g then count_by test (map piece_of es) else 0)
    + ((if 0 == g then count_by test (pieces_of a) else 0) + (if 2 == g then count_by test (end_dots_of a) else 0))
passing-nearby test g a es =
    passing-append test g (marked 1 (map piece_of es)) (grouped 0 2 a)
    ∙ ap (λ k. k + passing test g (grouped 0 2 a)) (passing-marked test g 1 (map piece_of es))
    ∙ ap (λ k. (if 1 == g then count_by test (map piece_of es) else 0) + k) (passing-one test g 0 2 a)

in-zero : (test : Piece → Bool) (a : Geometry) (es : List Edge) → passing test 0 (nearby_grouped a es) ≡ count_by test (pieces_of a)
in-zero test a es = passing-nearby test 0 a es ∙ of (count_by test (pieces_of a))
  where
    of : (n : ℕ) → 0 + (n + 0) ≡ n
    of n = omega arith

in-one : (test : Piece → Bool) (a : Geometry) (es : List Edge) → passing test 1 (nearby_grouped a es) ≡ count_by test (map piece_of es)
in-one test a es = passing-nearby test 1 a es ∙ of (count_by test (map piece_of es))
  where
    of : (n : ℕ) → n + (0 + 0) ≡ n
    of n = omega arith

in-two : (test : Piece → Bool) (a : Geometry) (es : List Edge) → passing test 2 (nearby_grouped a es) ≡ count_by test (end_dots_of a)
in-two test a es = passing-nearby test 2 a es ∙ of (count_by test (end_dots_of a))
  where
    of : (n : ℕ) → 0 + (0 + n) ≡ n
    of n = omega arith

-- ---- the places of a point's item
own-place : (a : Geometry) (es : List Edge) (p : PlanePoint) → first_place (shape_of a) (item_at (nearby_grouped a es) p) ≡ place_at a p
own-place a es p =
    let counted = items-count (nearby_grouped a es) p in
    places-of (shape_of a) _ _ _ _ _ _ (counted.on 0 ∙ in-zero (is_on p) a es) (counted.on 2 ∙ in-two (is_on p) a es) (counted.above 0 ∙ in-zero (is_above p) a es)

-- by counts of edges on the point and above it
by-edges : (es : List Edge) (p : PlanePoint) (on ends above : ℕ) → on ≡ count_by (is_on p) (map piece_of es) → above ≡ count_by (is_above p) (map piece_of es) →
    place_by Areas on ends above ≡ edges_place es p
by-edges es p on ends above e f =
    ap (λ t. if t then Boundary else (if is_odd above then Interior else Exterior)) (ap (nat_lt 0) e ∙ some-count (is_on p) (map piece_of es) ∙ any-map (is_on p) piece_of es)
    ∙ ap (λ n. area_place (list_any (λ (d : Edge). on_edge d p) es) (is_odd n)) (f ∙ count-map (is_above p) piece_of es)

area-place : (a : Geometry) (es : List Edge) (p : PlanePoint) → second_place Areas (item_at (nearby_grouped a es) p) ≡ edges_place es p
area-place a es p =
    let counted = items-count (nearby_grouped a es) p in
    by-edges es p _ (slice_index (item_at (nearby_grouped a es) p).on 3) _ (counted.on 1 ∙ in-one (is_on p) a es) (counted.above 1 ∙ in-one (is_above p) a es)

-- ---- what is in the interior or in the boundary is in the geometry
abbrev IsOwn : Geometry → Place → Type 0
IsOwn a p = (q : PlanePoint) → set_of a p q ≡ true → is_in a q ≡ true

own-interior : (a : Geometry) → IsOwn a Interior
own-interior a q h = or_left (in_interior a q) (in_boundary a q) h

own-boundary : (a : Geometry) → IsOwn a Boundary
own-boundary a q h = or_right (in_interior a q) (in_boundary a q) h

-- ---- the item of a sample has the place of its point, and where that is in the geometry its place in the area
abbrev item_for : List Marked → Sample → Item
item_for ms s = item_of (groups_of ms) (cell_of (pieces_among ms) s)

record IsPlaced (a area : Geometry) (ms : List Marked) (s : Sample) : Type 0 where
  own : IsPlaceOf a s.point (first_place (shape_of a) (item_for ms s))
  other : is_in a s.point ≡ true → IsPlaceOf area s.point (second_place Areas (item_for ms s))

all-placed : (a area : Geometry) (es : List Edge) → IsValid a → TellPlaces a area es →
    AllByRecursion (IsPlaced a area (nearby_grouped a es)) (samples (pieces_among (nearby_grouped a es)))
all-placed a area es v tell =
    let ms = nearby_grouped a es in
    let P = λ (s : Sample). IsPoint s.point × IsInCell (pieces_among ms) s.point s in
    each-map P (IsPlaced a area ms) (samples (pieces_among ms))
    (λ s i. record {
      own = subst (IsPlaceOf a s.point) (sym (own-place a es s.point)) (counts_tell_places a s.point v i.0);
      other = λ t. subst (IsPlaceOf area s.point) (sym (area-place a es s.point)) (tell s.point i.0 t);
    })
    (recursion_from_All P (samples (pieces_among ms)) (every_sample (pieces_among ms)))

sample-placed : (a area : Geometry) (ms : List Marked) (s : Sample) (p q : Place) → IsOwn a p → IsPlaced a area ms s →
    is_at (shape_of a) Areas p q (item_for ms s) ≡ both (set_of a p) (set_of area q) s.point
sample-placed a area ms s p q own h = by_test (set_of a p s.point) refl
  where
    first : set_of a p s.point ≡ is_place p (first_place (shape_of a) (item_for ms s))
    first = of_place a s.point p (first_place (shape_of a) (item_for ms s)) h.own

    by_test : (c : Bool) → set_of a p s.point ≡ c → is_at (shape_of a) Areas p q (item_for ms s) ≡ (c && set_of area q s.point)
    by_test true e =
        ap (λ v. v && is_place q (second_place Areas (item_for ms s))) (sym first ∙ e)
        ∙ sym (of_place area s.point q (second_place Areas (item_for ms s)) (h.other (own s.point e)))
    by_test false e = ap (λ v. v && is_place q (second_place Areas (item_for ms s))) (sym first ∙ e)

greatest-placed : (a area : Geometry) (ms : List Marked) (ss : List Sample) (p q : Place) → IsOwn a p → AllByRecursion (IsPlaced a area ms) ss →
    greatest_at (shape_of a) Areas (map (item_of (groups_of ms)) (map (cell_of (pieces_among ms)) ss)) p q
    ≡ greatest_dim (λ (s : Sample). s.dim) (λ (s : Sample). both (set_of a p) (set_of area q) s.point) ss
greatest-placed a area ms [] p q own h = refl
greatest-placed a area ms (s ∷ ss) p q own h =
    let rest = greatest_at (shape_of a) Areas (map (item_of (groups_of ms)) (map (cell_of (pieces_among ms)) ss)) p q in
    ap (λ v. if v then greater_dim (dim_of s.dim) rest else rest) (sample-placed a area ms s p q own h.0)
    ∙ ap (λ r. if both (set_of a p) (set_of area q) s.point then greater_dim (dim_of s.dim) r else r) (greatest-placed a area ms ss p q own h.1)

-- ---- what lies in the geometry is a union of cells of these pieces
edges-union : (all : List Piece) (es : List Edge) (r : Place) → AllByRecursion (λ e. IsIn all (piece_of e)) es → IsUnionOfCells all (λ q. is_place r (edges_place es q))
edges-union all es r h x y i j alike =
    ap (λ on. is_place r (area_place on (is_odd (edges_above x es))))
    (any_union all (λ (e : Edge) q. on_edge e q) es
    (each-map (λ e. IsIn all (piece_of e)) (λ e. IsUnionOfCells all (λ q. on_edge e q)) es (λ e k. on_union all (piece_of e) k) h) x y i j alike)
    ∙ ap (λ odd. is_place r (area_place (list_any (λ (e : Edge). on_edge e y) es) odd))
    (count_union all is_odd (λ (e : Edge) q. edge_above e q) es
    (each-map (λ e. IsIn all (piece_of e)) (λ e. IsUnionOfCells all (λ q. edge_above e q)) es (λ e k. above_union all (piece_of e) k) h) x y i j alike)

own-union : (all : List Piece) (a area : Geometry) (es : List Edge) (p r : Place) → IsOwn a p → TellPlaces a area es → AllByRecursion (λ e. IsIn all (piece_of e)) es →
    IsUnionOfCells all (set_of a p) → IsUnionOfCells all (both (set_of a p) (set_of area r))
own-union all a area es p r own tell h union x y i j alike = by_test (set_of a p x) refl
  where
    other : (c : Bool) → set_of a p x ≡ c → c ≡ set_of a p y
    other c e = sym e ∙ union x y i j alike

    by_test : (c : Bool) → set_of a p x ≡ c → (c && set_of area r x) ≡ (set_of a p y && set_of area r y)
    by_test true e =
        of_place area x r (edges_place es x) (tell x i (own x e))
        ∙ edges-union all es r h x y i j alike
        ∙ sym (of_place area y r (edges_place es y) (tell y j (own y (sym (other true e)))))
        ∙ ap (λ v. v && set_of area r y) (other true e)
    by_test false e = ap (λ v. v && set_of area r y) (other false e)

edges-in : (a : Geometry) (es : List Edge) → AllByRecursion (λ e. IsIn (nearby_pieces a es) (piece_of e)) es
edges-in a es =
    each-of_map (IsIn (nearby_pieces a es)) piece_of es
    (each-from_in (IsIn (nearby_pieces a es)) (map piece_of es) (λ x i. in_append_left (map piece_of es) (with_ends a) x i))

own-in : (a : Geometry) (es : List Edge) → HasAll (nearby_pieces a es) a
own-in a es = each-from_in (IsIn (nearby_pieces a es)) (with_ends a) (λ x i. in_append_right (map piece_of es) (with_ends a) x i)

-- ---- the entries of the matrix
abbrev entry : Geometry → Geometry → Place → Place → Dim
entry a b p r = dimension_by_samples (all_pieces a b) (both (set_of a p) (set_of b r))

entry-is : (a b : Geometry) (p r : Place) → HasDimension (both (set_of a p) (set_of b r)) (entry a b p r)
entry-is a b Interior Interior = (matrices_are_over_the_plane a b).computed.0
entry-is a b Interior Boundary = (matrices_are_over_the_plane a b).computed.1.0
entry-is a b Interior Exterior = (matrices_are_over_the_plane a b).computed.1.1.0
entry-is a b Boundary Interior = (matrices_are_over_the_plane a b).computed.1.1.1.0
entry-is a b Boundary Boundary = (matrices_are_over_the_plane a b).computed.1.1.1.1.0
entry-is a b Boundary Exterior = (matrices_are_over_the_plane a b).computed.1.1.1.1.1.0
entry-is a b Exterior Interior = (matrices_are_over_the_plane a b).computed.1.1.1.1.1.1.0
entry-is a b Exterior Boundary = (matrices_are_over_the_plane a b).computed.1.1.1.1.1.1.1.0
entry-is a b Exterior Exterior = (matrices_are_over_the_plane a b).computed.1.1.1.1.1.1.1.1.0

-- an entry of the first two rows, from items
own-entry : (a area : Geometry) (es : List Edge) (items : List Item) (p r : Place) → IsValid a → TellPlaces a area es →
    Represent (areal_of (shape_of a) Areas) items (items_of (nearby_grouped a es)) → IsOwn a p → IsUnionOfCells (nearby_pieces a es) (set_of a p) →
    greatest_at (shape_of a) Areas items p r ≡ entry a area p r
own-entry a area es items p r v tell h own union =
    let f = shape_of a in
    let ms = nearby_grouped a es in
    let set = both (set_of a p) (set_of area r) in
    (represent-answers (areal_of f Areas) items (items_of ms) h).greatest (is_at f Areas p r) (places-of-classes f Areas p r)
    ∙ greatest-placed a area ms (samples (pieces_among ms)) p r own (all-placed a area es v tell)
    ∙ ap (λ ps. dimension_by_samples ps set) (nearby-are a es)
    ∙ dimension_is_unique set (dimension_by_samples (nearby_pieces a es) set) (entry a area p r)
    (samples_tell (nearby_pieces a es) set (own-union (nearby_pieces a es) a area es p r own tell (edges-in a es) union)).dimension
    (entry-is a area p r)

-- ---- the third row
pub beyond-interior : (a area : Geometry) → ReachesBeyond a area → Two ≡ entry a area Exterior Interior
beyond-interior a area h = dimension_is_unique (both (in_exterior a) (in_interior area)) Two (entry a area Exterior Interior) h.interior (entry-is a area Exterior Interior)

-- the boundary of an area has no triangle
pub beyond-boundary : (a area : Geometry) → IsValid area → boundary_dim area ≡ One → ReachesBeyond a area → One ≡ entry a area Exterior Boundary
beyond-boundary a area w one h =
    dimension_is_unique (both (in_exterior a) (in_boundary area)) One (entry a area Exterior Boundary)
    (h.boundary, λ t. (subst (HasDimension (in_boundary area)) one (boundary_has_dimension area w)).1 (thinner t)) (entry-is a area Exterior Boundary)
  where
    thinner : HasTriangle (both (in_exterior a) (in_boundary area)) → HasTriangle (in_boundary area)
    thinner t =
        record {
          a = t.a;
          b = t.b;
          c = t.c;
          is_a = t.is_a;
          is_b = t.is_b;
          is_c = t.is_c;
          wide = t.wide;
          has = λ p i k. (and_parts (in_exterior a p) (in_boundary area p) (t.has p i k)).1;
        }

pub beyond-both : (a area : Geometry) → IsValid a → IsValid area → Two ≡ entry a area Exterior Exterior
beyond-both a area v w = dimension_is_unique (both (in_exterior a) (in_exterior area)) Two (entry a area Exterior Exterior) (outside-both a area v w) (entry-is a area Exterior Exterior)

-- ---- the matrix
-- these entries but for the third row, which is that of an area that reaches beyond
abbrev reaching : Table → Table
reaching t Exterior Interior = Two
reaching t Exterior Boundary = One
reaching t Exterior Exterior = Two
reaching t Interior r = t Interior r
reaching t Boundary r = t Boundary r

pub area-edge : (area : Geometry) → shape_of area ≡ Areas → boundary_dim area ≡ One
area-edge (Point p) e = absurd cc
area-edge (MultiPoint ps) e = absurd cc
area-edge (LineString ps) e = absurd cc
area-edge (MultiLineString lines) e = absurd cc
area-edge (Polygon rings) e = refl
area-edge (MultiPolygon polygons) e = refl

reaching-is : (a area : Geometry) (es : List Edge) (items : List Item) → IsValid a → IsValid area → shape_of area ≡ Areas → TellPlaces a area es → ReachesBeyond a area →
    Represent (areal_of (shape_of a) Areas) items (items_of (nearby_grouped a es)) → listed (reaching (greatest_at (shape_of a) Areas items)) ≡ matrix_of a area
reaching-is a area es items v w s tell beyond h = listed-same (reaching (greatest_at (shape_of a) Areas items)) (entry a area) same
  where
    same : (p r : Place) → reaching (greatest_at (shape_of a) Areas items) p r ≡ entry a area p r
    same Interior r = own-entry a area es items Interior r v tell h (own-interior a) (interior_union (nearby_pieces a es) a (own-in a es))
    same Boundary r = own-entry a area es items Boundary r v tell h (own-boundary a) (boundary_union (nearby_pieces a es) a (own-in a es))
    same Exterior Interior = beyond-interior a area beyond
    same Exterior Boundary = beyond-boundary a area w (area-edge area s) beyond
    same Exterior Exterior = beyond-both a area v w

-- ---- what a sink has in the end
-- two rows that have their most
own-known : (l1 l2 l3 l4 l5 l6 l7 l8 l9 d1 d2 d3 d4 d5 d6 d7 d8 d9 k1 k2 k3 k4 k5 k6 : Dim) (ks : List Dim) → AreAtMost (l1 ∷ l2 ∷ l3 ∷ l4 ∷ l5 ∷ l6 ∷ l7 ∷ l8 ∷ l9 ∷ []) (d1 ∷ d2 ∷ d3 ∷ d4 ∷ d5 ∷ d6 ∷ d7 ∷ d8 ∷ d9 ∷ [])
    → AreAtMost (d1 ∷ d2 ∷ d3 ∷ d4 ∷ d5 ∷ d6 ∷ []) (k1 ∷ k2 ∷ k3 ∷ k4 ∷ k5 ∷ k6 ∷ []) → have_most (l1 ∷ l2 ∷ l3 ∷ l4 ∷ l5 ∷ l6 ∷ l7 ∷ l8 ∷ l9 ∷ []) (k1 ∷ k2 ∷ k3 ∷ k4 ∷ k5 ∷ k6 ∷ ks) ≡ true
    → own_rows (l1 ∷ l2 ∷ l3 ∷ l4 ∷ l5 ∷ l6 ∷ l7 ∷ l8 ∷ l9 ∷ []) ≡ d1 ∷ d2 ∷ d3 ∷ d4 ∷ d5 ∷ d6 ∷ []
own-known l1 l2 l3 l4 l5 l6 l7 l8 l9 d1 d2 d3 d4 d5 d6 d7 d8 d9 k1 k2 k3 k4 k5 k6 ks g h n =
    six-known l1 l2 l3 l4 l5 l6 d1 d2 d3 d4 d5 d6 k1 k2 k3 k4 k5 k6 (l7 ∷ l8 ∷ l9 ∷ []) ks (g.0, (g.1.0, (g.1.1.0, (g.1.1.1.0, (g.1.1.1.1.0, (g.1.1.1.1.1.0, refl)))))) h n

-- nothing is known of the first two rows
begun_table : Table
begun_table Exterior Interior = Two
begun_table Exterior Boundary = One
begun_table Exterior Exterior = Two
begun_table Interior r = Nothing
begun_table Boundary r = Nothing

from_begun : Table → Table
from_begun found p q = greater_dim (begun_table p q) (found p q)

own-left : (a area : Geometry) (found : Table) (ls : List Dim) → listed (reaching found) ≡ matrix_of a area → IsValid a → IsValid area
    → AreAtMost ls (listed (from_begun found)) → have_most ls (known_beyond a area).most ≡ true → own_rows ls ++ beyond_row ≡ matrix_of a area
unfolding begun_table from_begun
own-left a area found ls is v w g n =
    let k : AreAtMost (listed (reaching found)) (most_entries a area) = subst (λ es. AreAtMost es (most_entries a area)) (sym is) (entries-at_most a area v w) in
    let nine = nine-listed ls (same-length ls (listed (from_begun found)) g) in
    let Own : List Dim → Type 0 = λ cs. AreAtMost cs (listed (from_begun found)) → have_most cs (known_beyond a area).most ≡ true → own_rows cs ≡ own_rows (listed found) in
    ap (λ rows. rows ++ beyond_row)
    (subst Own (sym nine)
    (λ gg nn. own-known (get_or ls 0 Nothing) (get_or ls 1 Nothing) (get_or ls 2 Nothing) (get_or ls 3 Nothing) (get_or ls 4 Nothing) (get_or ls 5 Nothing) (get_or ls 6 Nothing) (get_or ls 7 Nothing) (get_or ls 8 Nothing)
    (from_begun found Interior Interior) (from_begun found Interior Boundary) (from_begun found Interior Exterior) (from_begun found Boundary Interior) (from_begun found Boundary Boundary) (from_begun found Boundary Exterior) (from_begun found Exterior Interior) (from_begun found Exterior Boundary) (from_begun found Exterior Exterior)
    (lesser_dim (interior_dim a) (interior_dim area)) (lesser_dim (interior_dim a) (boundary_most area)) (interior_dim a)
    (lesser_dim (boundary_most a) (interior_dim area)) (lesser_dim (boundary_most a) (boundary_most area)) (boundary_most a) beyond_row gg (k.0, (k.1.0, (k.1.1.0, (k.1.1.1.0, (k.1.1.1.1.0, (k.1.1.1.1.1.0, refl)))))) nn)
    g n)
    ∙ is

-- the first two rows of what it has, with that third row
pub nearby-left : (a area : Geometry) (es : List Edge) (ms : List Marked) (areal : List Bool) (old new : Gathered) → IsValid a → IsValid area → shape_of area ≡ Areas →
    TellPlaces a area es → ReachesBeyond a area → ms ≡ nearby_grouped a es → areal ≡ is_areal (shape_of a) ∷ true ∷ [] → old ≡ begun (shape_of a) Areas Entries (known_beyond a area) →
    WereHanded (pieces_among ms) (groups_of ms) areal with_cell old new → own_rows new.known.least ++ beyond_row ≡ matrix_of a area
unfolding begun_table from_begun
nearby-left a area es ms areal old new v w s tell beyond e f o h = by_value new.full refl
  where
    found : Table
    found = greatest_at (shape_of a) Areas h.items

    is : listed (reaching found) ≡ matrix_of a area
    is =
        let P : List Marked → Type 0 = λ ns. Represent areal h.items (items_of ns) in
        let Q : List Bool → Type 0 = λ bs. Represent bs h.items (items_of (nearby_grouped a es)) in
        reaching-is a area es h.items v w s tell beyond (subst Q f (subst P e h.represent))

    gathered : IsGatheredOf (known_beyond a area) Entries (listed (from_begun found)) new
    gathered =
        subst (IsGatheredOf (known_beyond a area) Entries (listed (from_begun found))) (sym (h.handed ∙ ap (λ g. fold with_cell g h.items) o))
        (subst (λ ds. IsGatheredOf (known_beyond a area) Entries ds (fold with_cell (begun (shape_of a) Areas Entries (known_beyond a area)) h.items))
        (fold-listed (shape_of a) Areas begun_table h.items)
        (gathered-from (shape_of a) Areas Entries (known_beyond a area) h.items refl))

    by_value : (full : Bool) → new.full ≡ full → own_rows new.known.least ++ beyond_row ≡ matrix_of a area
    by_value true k =
        own-left a area found new.known.least is v w gathered.grown
        (subst (λ ds. have_most new.known.least ds ≡ true) (ap (λ (known : Known). known.most) gathered.same) (gathered.enough k))
    by_value false k = ap (λ ds. own_rows ds ++ beyond_row) (gathered.whole k) ∙ is

-- ---- the walk over these pieces
length-nearby : (a : Geometry) (es : List Edge) → length (nearby_grouped a es) ≡ length es + (length (pieces_of a) + length (ends_of a))
length-nearby a es =
    length-append (marked 1 (map piece_of es)) (grouped 0 2 a)
    ∙ ap (λ k. k + length (grouped 0 2 a)) (length-map (map piece_of es) (λ piece. (piece, 1)) ∙ length-map es piece_of)
    ∙ ap (λ k. length es + k) (length-grouped 0 2 a)

groups-nearby : (a : Geometry) (es : List Edge) → IsValid a → HasGroups (nearby_grouped a es)
groups-nearby a es v =
    All-from_recursion P (groups_of (nearby_grouped a es))
    (each-joined P (marked 1 (map piece_of es)) (grouped 0 2 a)
    (each-marked P 1 (map piece_of es) (λ some. omega (arith, some, length-map es piece_of, length-nearby a es, some-piece a v)))
    (each-joined P (marked 0 (pieces_of a)) (marked 2 (end_dots_of a)) (each-marked P 0 (pieces_of a) (λ _. omega (arith, length-nearby a es, some-piece a v)))
    (each-marked P 2 (end_dots_of a) (λ some. two some (ends-pairs (lines_of a))))))
  where
    P : ℕ → Type 0
    P g = g < length (nearby_grouped a es)

    two : 1 ≤ length (end_dots_of a) → (length (ends_of a) ≡ 0) ⊎ (2 ≤ length (ends_of a)) → 2 < length (nearby_grouped a es)
    two some (inl none) = absurd (omega (arith, some, none, length-map (ends_of a) pieces.Dot))
    two some (inr pair) = omega (arith, length-nearby a es, some-piece a v, pair)

pub can-nearby : (a : Geometry) (pairs : List (Coordinates × Coordinates)) (ms : List Marked) → IsValid a → length pairs ≤ 65536 → ms ≡ nearby_grouped a (map edge_of pairs) → CanWalk ms
can-nearby a pairs ms v few e =
    subst CanWalk (sym e)
    (record {
      few = omega (arith, few, length-map pairs edge_of, length-nearby a (map edge_of pairs), few-with_ends a, v.sized.few);
      groups_in_range = groups-nearby a (map edge_of pairs) v;
    })

-- ---- one more edge is added
pub one-edge : (p r : Coordinates) → is_same p r ≡ false → edges_of (p ∷ r ∷ []) ≡ edge_between p r ∷ []
one-edge p r e = edges-step p r [] ∙ ap (λ c. if c then edges_of (r ∷ []) else edge_between p r ∷ edges_of (r ∷ [])) e
