-- The interior, the boundary and the exterior of a geometry are unions of the cells of its pieces, valid or not; so what is
-- computed of two geometries is the matrix over the plane.
use Rattle.std.proofs.Common.{◌≡◌, refl, ap, ◌∙◌, false, not, List, [], ◌∷◌, map}
use Rattle.std.specs.List.{AllByRecursion, count_by, flat_map, list_any}
use Rattle.sf_grid.specs.Plane.{Coordinates, grid_point, same_point}
use Rattle.sf_grid.specs.Edge.{Edge, edge_above, on_edge}
use Rattle.sf_grid.specs.EvenOdd.{is_odd}
use Rattle.sf_strips.specs.declared.piece.Piece.{Piece}
use Rattle.sf_strips.specs.declared.piece.Piece.TheVariants as pieces
use Rattle.sf_slabs.proofs.CallerLemmas.{each-append, each-map, each-parts}
use Rattle.sf_geometry.specs.declared.geometry.Geometry.{Geometry}
use Rattle.sf_geometry.specs.declared.geometry.Geometry.TheVariants.{Point, LineString, Polygon, MultiPoint, MultiLineString, MultiPolygon}
use Rattle.sf_geometry.specs.Lists.{edges_of as edges_of_list, ends_of as ends_of_line}
use Rattle.sf_geometry.specs.Parts.{ends_of, joined}
use Rattle.sf_geometry.specs.PointSets.{in_boundary, in_exterior, in_interior, in_polygon, in_ring, is_among, on_line, on_polygon, within_ring}
use Rattle.sf_plane.proofs.CombineLaws.{above_union, and_union, any_union, count_union, not_union, on_union, or_union}
use Rattle.sf_plane.proofs.CoverLaws.{in_append_left, in_append_right}
use Rattle.sf_plane.proofs.PlaceLaws.{IsIn}
use Rattle.sf_plane.proofs.UnionLaws.{dimension_is_unique, samples_tell}
use Rattle.sf_plane.specs.declared.dim.Dim.{Dim}
use Rattle.sf_plane.specs.Dimension.{PointSet}
use Rattle.sf_plane.specs.Unions.{IsUnionOfCells, dimension_by_samples}
use Rattle.sf_pieces.specs.Marked.{piece_of}
use Rattle.sf_valid_rules.proofs.MemberLaws.{each-from_in, each-of_flat, each-of_map}
use Rattle.sf_relate.specs.AllPieces.{all_pieces, end_dots_of, pieces_of, with_ends}
use Rattle.sf_relate.specs.Matrices.{AreDimensions, MatricesAreOverThePlane, both, intersections, matrix_of, sets_of}

-- ---- pieces that have some dots, or some edges
abbrev HasDots : List Piece → List Coordinates → Type 0
HasDots all ps = AllByRecursion (λ p. IsIn all (pieces.Dot p)) ps

abbrev HasEdges : List Piece → List Edge → Type 0
HasEdges all es = AllByRecursion (λ e. IsIn all (piece_of e)) es

abbrev HasLists : List Piece → List (List Coordinates) → Type 0
HasLists all xss = AllByRecursion (λ ps. HasEdges all (edges_of_list ps)) xss

-- ---- the sets of points, lines and polygons
nothing_union : (all : List Piece) → IsUnionOfCells all (λ q. false)
nothing_union all p q j k a = refl

among_union : (all : List Piece) (ps : List Coordinates) → HasDots all ps → IsUnionOfCells all (is_among ps)
among_union all ps h =
    any_union all (λ p q. same_point (grid_point p) q) ps
    (each-map (λ p. IsIn all (pieces.Dot p)) (λ p. IsUnionOfCells all (λ q. same_point (grid_point p) q)) ps (λ p i. on_union all (pieces.Dot p) i) h)

line_union : (all : List Piece) (ps : List Coordinates) → HasEdges all (edges_of_list ps) → IsUnionOfCells all (on_line ps)
line_union all ps h =
    any_union all (λ (e : Edge) q. on_edge e q) (edges_of_list ps)
    (each-map (λ e. IsIn all (piece_of e)) (λ e. IsUnionOfCells all (λ q. on_edge e q)) (edges_of_list ps) (λ e i. on_union all (piece_of e) i) h)

ring_union : (all : List Piece) (ps : List Coordinates) → HasEdges all (edges_of_list ps) → IsUnionOfCells all (in_ring ps)
ring_union all ps h =
    and_union all (λ q. not (on_line ps q)) (λ q. is_odd (count_by (λ e. edge_above e q) (edges_of_list ps))) (not_union all (on_line ps) (line_union all ps h))
    (count_union all is_odd (λ (e : Edge) q. edge_above e q) (edges_of_list ps)
    (each-map (λ e. IsIn all (piece_of e)) (λ e. IsUnionOfCells all (λ q. edge_above e q)) (edges_of_list ps) (λ e i. above_union all (piece_of e) i) h))

within_union : (all : List Piece) (ps : List Coordinates) → HasEdges all (edges_of_list ps) → IsUnionOfCells all (within_ring ps)
within_union all ps h = or_union all (on_line ps) (in_ring ps) (line_union all ps h) (ring_union all ps h)

lines_union : (all : List Piece) (lines : List (List Coordinates)) → HasLists all lines → IsUnionOfCells all (λ q. list_any (λ ps. on_line ps q) lines)
lines_union all lines h =
    any_union all on_line lines (each-map (λ ps. HasEdges all (edges_of_list ps)) (λ ps. IsUnionOfCells all (on_line ps)) lines (λ ps i. line_union all ps i) h)

polygon_union : (all : List Piece) (rings : List (List Coordinates)) → HasLists all rings → IsUnionOfCells all (in_polygon rings)
polygon_union all [] h = nothing_union all
polygon_union all (shell ∷ holes) h =
    and_union all (in_ring shell) (λ q. not (list_any (λ hole. within_ring hole q) holes)) (ring_union all shell h.0)
    (not_union all (λ q. list_any (λ hole. within_ring hole q) holes)
    (any_union all within_ring holes (each-map (λ ps. HasEdges all (edges_of_list ps)) (λ ps. IsUnionOfCells all (within_ring ps)) holes (λ ps i. within_union all ps i) h.1)))

odd_ends_union : (all : List Piece) (lines : List (List Coordinates)) → AllByRecursion (λ ps. HasDots all (ends_of_line ps)) lines →
    IsUnionOfCells all (λ q. is_odd (count_by (λ ps. is_among (ends_of_line ps) q) lines))
odd_ends_union all lines h =
    count_union all is_odd (λ ps. is_among (ends_of_line ps)) lines
    (each-map (λ ps. HasDots all (ends_of_line ps)) (λ ps. IsUnionOfCells all (is_among (ends_of_line ps))) lines (λ ps i. among_union all (ends_of_line ps) i) h)

-- ---- the sets of a geometry
-- the pieces and the ends of a are among all
abbrev pub HasAll : List Piece → Geometry → Type 0
HasAll all a = AllByRecursion (IsIn all) (with_ends a)

parts_in : (all : List Piece) (a : Geometry) → HasAll all a → AllByRecursion (IsIn all) (pieces_of a) × HasDots all (ends_of a)
parts_in all a h =
    let parts = each-parts (IsIn all) (pieces_of a) (end_dots_of a) h in
    (parts.0, each-of_map (IsIn all) pieces.Dot (ends_of a) parts.1)

-- the edges of lists, one by one
lists_in : (all : List Piece) (xss : List (List Coordinates)) → AllByRecursion (IsIn all) (map piece_of (flat_map edges_of_list xss)) → HasLists all xss
lists_in all xss h = each-of_flat (λ e. IsIn all (piece_of e)) edges_of_list xss (each-of_map (IsIn all) piece_of (flat_map edges_of_list xss) h)

ends_in : (all : List Piece) (lines : List (List Coordinates)) → HasDots all (flat_map ends_of_line lines) → AllByRecursion (λ ps. HasDots all (ends_of_line ps)) lines
ends_in all lines h = each-of_flat (λ p. IsIn all (pieces.Dot p)) ends_of_line lines h

pub boundary_union : (all : List Piece) (a : Geometry) → HasAll all a → IsUnionOfCells all (in_boundary a)
boundary_union all (Point p) h = nothing_union all
boundary_union all (MultiPoint ps) h = nothing_union all
boundary_union all (LineString ps) h = among_union all (ends_of_line ps) (ends_in all (ps ∷ []) (parts_in all (LineString ps) h).1).0
boundary_union all (MultiLineString lines) h = odd_ends_union all lines (ends_in all lines (parts_in all (MultiLineString lines) h).1)
boundary_union all (Polygon rings) h = lines_union all rings (lists_in all rings (parts_in all (Polygon rings) h).0)
boundary_union all (MultiPolygon polygons) h =
    any_union all on_polygon polygons
    (each-map (λ rings. HasLists all rings) (λ rings. IsUnionOfCells all (on_polygon rings)) polygons (λ rings i. lines_union all rings i)
    (each-of_flat (λ ps. HasEdges all (edges_of_list ps)) (λ (rings : List (List Coordinates)). rings) polygons (lists_in all (joined polygons) (parts_in all (MultiPolygon polygons) h).0)))

pub interior_union : (all : List Piece) (a : Geometry) → HasAll all a → IsUnionOfCells all (in_interior a)
interior_union all (Point p) h = on_union all (pieces.Dot p) (parts_in all (Point p) h).0.0
interior_union all (MultiPoint ps) h = among_union all ps (each-of_map (IsIn all) pieces.Dot ps (parts_in all (MultiPoint ps) h).0)
interior_union all (LineString ps) h =
    and_union all (on_line ps) (λ q. not (in_boundary (LineString ps) q)) (line_union all ps (lists_in all (ps ∷ []) (parts_in all (LineString ps) h).0).0)
    (not_union all (in_boundary (LineString ps)) (boundary_union all (LineString ps) h))
interior_union all (MultiLineString lines) h =
    and_union all (λ q. list_any (λ ps. on_line ps q) lines) (λ q. not (in_boundary (MultiLineString lines) q))
    (lines_union all lines (lists_in all lines (parts_in all (MultiLineString lines) h).0))
    (not_union all (in_boundary (MultiLineString lines)) (boundary_union all (MultiLineString lines) h))
interior_union all (Polygon rings) h = polygon_union all rings (lists_in all rings (parts_in all (Polygon rings) h).0)
interior_union all (MultiPolygon polygons) h =
    any_union all in_polygon polygons
    (each-map (λ rings. HasLists all rings) (λ rings. IsUnionOfCells all (in_polygon rings)) polygons (λ rings i. polygon_union all rings i)
    (each-of_flat (λ ps. HasEdges all (edges_of_list ps)) (λ (rings : List (List Coordinates)). rings) polygons (lists_in all (joined polygons) (parts_in all (MultiPolygon polygons) h).0)))

pub exterior_union : (all : List Piece) (a : Geometry) → HasAll all a → IsUnionOfCells all (in_exterior a)
exterior_union all a h =
    and_union all (λ q. not (in_interior a q)) (λ q. not (in_boundary a q))
    (not_union all (in_interior a) (interior_union all a h))
    (not_union all (in_boundary a) (boundary_union all a h))

-- ---- two geometries
pub first_has : (a b : Geometry) → HasAll (all_pieces a b) a
first_has a b = each-from_in (IsIn (all_pieces a b)) (with_ends a) (λ x i. in_append_right (with_ends b) (with_ends a) x i)

pub second_has : (a b : Geometry) → HasAll (all_pieces a b) b
second_has a b = each-from_in (IsIn (all_pieces a b)) (with_ends b) (λ x i. in_append_left (with_ends b) (with_ends a) x i)

-- what is computed of unions of cells are their dimensions, and no others are
pub dimensions : (all : List Piece) (ss : List PointSet) → AllByRecursion (IsUnionOfCells all) ss → AreDimensions ss (map (dimension_by_samples all) ss)
dimensions all [] h = tt
dimensions all (s ∷ ss) h = ((samples_tell all s h.0).dimension, dimensions all ss h.1)

pub dimensions-only : (ss : List PointSet) (ds es : List Dim) → AreDimensions ss ds → AreDimensions ss es → ds ≡ es
dimensions-only [] [] [] h k = refl
dimensions-only [] [] (e ∷ es) h k = absurd k
dimensions-only [] (d ∷ ds) es h k = absurd h
dimensions-only (s ∷ ss) [] es h k = absurd h
dimensions-only (s ∷ ss) (d ∷ ds) [] h k = absurd k
dimensions-only (s ∷ ss) (d ∷ ds) (e ∷ es) h k =
    ap (λ x. x ∷ ds) (dimension_is_unique s d e h.0 k.0) ∙ ap (λ xs. e ∷ xs) (dimensions-only ss ds es h.1 k.1)

both-unions : (all : List Piece) (s : PointSet) (ts : List PointSet) → IsUnionOfCells all s → AllByRecursion (IsUnionOfCells all) ts →
    AllByRecursion (IsUnionOfCells all) (map (both s) ts)
both-unions all s [] u h = tt
both-unions all s (t ∷ ts) u h = (and_union all s t u h.0, both-unions all s ts u h.1)

pub sets_unions : (all : List Piece) (a : Geometry) → HasAll all a → AllByRecursion (IsUnionOfCells all) (sets_of a)
sets_unions all a h = (interior_union all a h, (boundary_union all a h, (exterior_union all a h, tt)))

pairs-unions : (all : List Piece) (ss ts : List PointSet) → AllByRecursion (IsUnionOfCells all) ss → AllByRecursion (IsUnionOfCells all) ts →
    AllByRecursion (IsUnionOfCells all) (flat_map (λ s. map (both s) ts) ss)
pairs-unions all [] ts h k = tt
pairs-unions all (s ∷ ss) ts h k = each-append (IsUnionOfCells all) (map (both s) ts) (flat_map (λ t. map (both t) ts) ss) (both-unions all s ts h.0 k) (pairs-unions all ss ts h.1 k)

pub matrices_are_over_the_plane : MatricesAreOverThePlane
matrices_are_over_the_plane a b =
    let all = all_pieces a b in
    let found = dimensions all (intersections a b) (pairs-unions all (sets_of a) (sets_of b) (sets_unions all a (first_has a b)) (sets_unions all b (second_has a b))) in
    record { computed = found; only = λ entries h. dimensions-only (intersections a b) entries (matrix_of a b) h found }
