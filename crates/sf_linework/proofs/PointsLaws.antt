-- What the places of the points of a MultiPoint in lines show of their matrix: its interior is these points, so of that row the
-- entries of their places have a point, no others do, and none has a length; and it has no boundary.
use Rattle.std.proofs.Common.{◌≡◌, refl, ap, sym, ◌∙◌, subst, arith, ℤ, pos, ◌*ℤ◌, true, false, not, ◌&&◌, List, [], ◌∷◌, map, filter, inl, inr}
use Rattle.std.specs.Prelude.{IfSome, None, Option, Some, int_le}
use Rattle.std.specs.List.{list_any}
use Rattle.std.proofs.lemmas.Bool.{and_from, and_parts, both_ways, false_from_ne_true, or_cases, or_parts, true_from_ne_false}
use Rattle.std.proofs.lemmas.Int.{ints}
use Rattle.std.proofs.lemmas.Map.Views.{any-filter_same}
use Rattle.sf_grid.specs.Edge.{on_edge, within}
use Rattle.sf_grid.specs.Plane.{Coordinates, Point as PlanePoint, grid_point, same_point, x_of, y_of}
use Rattle.sf_grid.proofs.CallerLemmas.{same_point_is_equivalence, same_tests, test_from_le}
use Rattle.sf_strips.specs.declared.piece.Piece.{Piece}
use Rattle.sf_geometry.specs.declared.extent.Extent.{Extent}
use Rattle.sf_geometry.specs.declared.geometry.Geometry.{Geometry}
use Rattle.sf_geometry.specs.declared.geometry.Geometry.TheVariants.{LineString, MultiLineString, MultiPoint, MultiPolygon, Point, Polygon}
use Rattle.sf_geometry.specs.Envelope.{extent_at, extents_meet}
use Rattle.sf_geometry.specs.Lists.{is_same}
use Rattle.sf_geometry.specs.Parts.{edge_of, edges_of, ends_of}
use Rattle.sf_geometry.specs.PointSets.{in_boundary, in_exterior, in_interior, is_among}
use Rattle.sf_linework.proofs.CrossedEndLaws.{is-outside}
use Rattle.sf_edge_tree.specs.Boxes.{extent_of_edge}
use Rattle.sf_interiors.proofs.DimensionLaws.{interior_has_dimension, is_grid}
use Rattle.sf_interiors.proofs.InsideLaws.{IsOff}
use Rattle.sf_known.proofs.OrderLaws.{at-most-two, greater-same}
use Rattle.sf_known.specs.declared.known.Known.{Known}
use Rattle.sf_known.specs.Known.{Holds, IsAtMost}
use Rattle.sf_known.specs.Patterns.{is_filled}
use Rattle.sf_known.specs.Transposed.{known_transposed}
use Rattle.sf_plane.proofs.PlaceLaws.{IsIn}
use Rattle.sf_plane.proofs.UnionLaws.{point_in_segment, segment_in_triangle}
use Rattle.sf_plane.specs.declared.dim.Dim.{Dim}
use Rattle.sf_plane.specs.declared.dim.Dim.TheVariants as dims
use Rattle.sf_plane.specs.Dimension.{HasDimension, HasPoint, HasSegment, PointSet}
use Rattle.sf_plane.specs.Unions.{IsUnionOfCells}
use Rattle.sf_linework.proofs.PreparedLaws.{none-said, off-box}
use Rattle.sf_relate.proofs.CommonBoxLaws.{edge-is-in}
use Rattle.sf_relate.proofs.NeighbourLaws.{same-on-grid}
use Rattle.sf_relate.proofs.SetLaws.{boundary_union, exterior_union, interior_union, matrices_are_over_the_plane, second_has}
use Rattle.sf_relate.proofs.SharedLaws.{filled, fills}
use Rattle.sf_relate.specs.AllPieces.{all_pieces}
use Rattle.sf_relate.specs.Contact.{in_extent, is_in}
use Rattle.sf_relate.specs.declared.place.Place.TheVariants.{Exterior, Interior}
use Rattle.sf_relate.specs.Matrices.{both, matrix_of}
use Rattle.sf_relate.specs.Places.{IsPlaceOf}
use Rattle.sf_valid_rules.proofs.MemberLaws.{any-one, in_map, one-any}
use Rattle.sf_valid_rules.specs.Validity.{IsValid}
use Rattle.sf_linework.specs.Ends.{if_seen, is_lines}
use Rattle.sf_linework.specs.Points.{interior_row, is_points, known_of_points, seen_points}
use Rattle.sf_linework.proofs.AlongLaws.{no-share, short-entry}
use Rattle.sf_linework.proofs.EndLaws.{are-lines, as-end, end-of, of-point}
use Rattle.sf_linework.proofs.TurnedLaws.{turned}

-- ---- a point that no edge near it has is outside
at-itself : (p : Coordinates) → in_extent (extent_at p) (grid_point p) ≡ true
at-itself p = and_from (within p.x p.x (x_of (grid_point p))) (within p.y p.y (y_of (grid_point p))) (one p.x) (one p.y)
  where
    one : (z : ℤ) → (int_le (z *ℤ pos 1) z && int_le z (z *ℤ pos 1)) ≡ true
    one z =
        and_from (int_le (z *ℤ pos 1) z) (int_le z (z *ℤ pos 1)) (test_from_le (z *ℤ pos 1) z (omega (arith, ints)))
        (test_from_le z (z *ℤ pos 1) (omega (arith, ints)))

-- an edge that has the point has a box that meets its box, so all that have it are among those that are near it
any-near : (p : Coordinates) (pairs : List (Coordinates × Coordinates)) →
    list_any (λ pair. on_edge (edge_of pair) (grid_point p)) (filter (λ pair. extents_meet (extent_of_edge pair) (extent_at p)) pairs)
    ≡ list_any (λ pair. on_edge (edge_of pair) (grid_point p)) pairs
any-near p pairs =
    any-filter_same (λ pair. on_edge (edge_of pair) (grid_point p)) (λ pair. extents_meet (extent_of_edge pair) (extent_at p)) true
    (λ pair on.
    true_from_ne_false (extents_meet (extent_of_edge pair) (extent_at p))
    (λ apart. off-box (extent_at p) pair apart (grid_point p) (is_grid p) (at-itself p) on))
    pairs

-- of those the tree gives
near-any : (p : Coordinates) (box : Extent) (pairs near : List (Coordinates × Coordinates)) → box ≡ extent_at p
    → near ≡ filter (λ pair. extents_meet (extent_of_edge pair) box) pairs
    → list_any (λ pair. on_edge (edge_of pair) (grid_point p)) near ≡ list_any (λ pair. on_edge (edge_of pair) (grid_point p)) pairs
near-any p box pairs near at are =
    ap (list_any (λ pair. on_edge (edge_of pair) (grid_point p)))
    (are ∙ ap (λ (e : Extent). filter (λ pair. extents_meet (extent_of_edge pair) e) pairs) at)
    ∙ any-near p pairs

-- where none of them has it, it is off all
none-off : (q : PlanePoint) (pairs : List (Coordinates × Coordinates)) → list_any (λ pair. on_edge (edge_of pair) q) pairs ≡ false → IsOff q (map edge_of pairs)
none-off q [] h = tt
none-off q (pair ∷ pairs) h =
    let parts = or_parts (on_edge (edge_of pair) q) (list_any (λ other. on_edge (edge_of other) q) pairs) h in
    (parts.0, none-off q pairs parts.1)

exterior-place : (a : Geometry) (q : PlanePoint) → in_exterior a q ≡ true → IsPlaceOf a q Exterior
exterior-place a q h =
    let parts = and_parts (not (in_interior a q)) (not (in_boundary a q)) h in
    record { interior = none-said (in_interior a q) parts.0; boundary = none-said (in_boundary a q) parts.1 }

pub off-near : (lines : Geometry) (pairs near : List (Coordinates × Coordinates)) (p : Coordinates) (box : Extent) → is_lines lines ≡ true
    → map edge_of pairs ≡ edges_of lines → box ≡ extent_at p → near ≡ filter (λ pair. extents_meet (extent_of_edge pair) box) pairs
    → list_any (λ pair. on_edge (edge_of pair) (grid_point p)) near ≡ false → IsPlaceOf lines (grid_point p) Exterior
off-near lines pairs near p box s same at are none =
    exterior-place lines (grid_point p)
    (is-outside lines (grid_point p) (are-lines lines s) (is_grid p)
    (subst (IsOff (grid_point p)) same (none-off (grid_point p) pairs (sym (near-any p box pairs near at are) ∙ none))))

-- ---- a point on an edge where no line ends is inside
no-end-there : (lines : Geometry) (p : Coordinates) → is_lines lines ≡ true → list_any (λ end. is_same end p) (ends_of lines) ≡ false
    → in_boundary lines (grid_point p) ≡ false
no-end-there lines p s none =
    false_from_ne_true (in_boundary lines (grid_point p))
    (λ h.
    let end = end-of lines (grid_point p) s h in
    both_ways (list_any (λ e. is_same e p) (ends_of lines)) none
    (one-any (λ e. is_same e p) (ends_of lines) end.one end.among (same-on-grid end.one p ∙ end.passes)))

interior-place : (a : Geometry) (q : PlanePoint) → is_in a q ≡ true → in_boundary a q ≡ false → IsPlaceOf a q Interior
interior-place a q h off =
    elim (or_cases (in_interior a q) (in_boundary a q) h) [
      | inl inside ↦ record { interior = inside; boundary = off }
      | inr edge ↦ absurd (both_ways (in_boundary a q) off edge)
    ]

pub on-near : (lines : Geometry) (pairs near : List (Coordinates × Coordinates)) (p : Coordinates) (box : Extent) → is_lines lines ≡ true
    → map edge_of pairs ≡ edges_of lines → box ≡ extent_at p → near ≡ filter (λ pair. extents_meet (extent_of_edge pair) box) pairs
    → list_any (λ pair. on_edge (edge_of pair) (grid_point p)) near ≡ true → list_any (λ end. is_same end p) (ends_of lines) ≡ false
    → IsPlaceOf lines (grid_point p) Interior
on-near lines pairs near p box s same at are some none =
    let found = any-one (λ pair. on_edge (edge_of pair) (grid_point p)) pairs (sym (near-any p box pairs near at are) ∙ some) in
    interior-place lines (grid_point p)
    (edge-is-in lines (edge_of found.one) (grid_point p)
    (subst (λ es. IsIn es (edge_of found.one)) same (in_map edge_of pairs found.one found.among)) found.passes)
    (no-end-there lines p s none)

-- ---- of the interior a union of cells has a point just where it has one of the points
at-points : (all : List Piece) (ps : List Coordinates) (set : PointSet) (d : Dim) → IsUnionOfCells all set → HasDimension (both (is_among ps) set) d
    → is_filled d ≡ list_any (λ p. set (grid_point p)) ps
at-points all ps set d u h = same_tests (is_filled d) (list_any (λ p. set (grid_point p)) ps) there back
  where
    there : is_filled d ≡ true → list_any (λ p. set (grid_point p)) ps ≡ true
    there f =
        let found = filled (both (is_among ps) set) d h f in
        let parts = and_parts (is_among ps found.point) (set found.point) found.has in
        let p = any-one (λ r. same_point (grid_point r) found.point) ps parts.0 in
        one-any (λ r. set (grid_point r)) ps p.one p.among (as-end all set p.one found.point u found.is_point p.passes ∙ parts.1)

    back : list_any (λ p. set (grid_point p)) ps ≡ true → is_filled d ≡ true
    back t =
        let p = any-one (λ r. set (grid_point r)) ps t in
        let among : is_among ps (grid_point p.one) ≡ true = one-any (λ r. same_point (grid_point r) (grid_point p.one)) ps p.one p.among
        (same_point_is_equivalence.reflexive (grid_point p.one)) in
        fills (both (is_among ps) set) d h
        (record { point = grid_point p.one; is_point = is_grid p.one; has = and_from (is_among ps (grid_point p.one)) (set (grid_point p.one)) among p.passes })

-- and no length
points-short : (ps : List Coordinates) (set : PointSet) → IsValid (MultiPoint ps) → ¬ (HasSegment (both (is_among ps) set))
points-short ps set v h =
    (interior_has_dimension (MultiPoint ps) v).1
    (record { a = h.a; b = h.b; is_a = h.is_a; is_b = h.is_b; differ = h.differ; has = λ p i j. (and_parts (is_among ps p) (set p) (h.has p i j)).0 })

entry : (all : List Piece) (ps : List Coordinates) (set : PointSet) (d : Dim) → IsValid (MultiPoint ps) → IsUnionOfCells all set
    → HasDimension (both (is_among ps) set) d → if_seen (list_any (λ p. set (grid_point p)) ps) ≡ d
entry all ps set d v u h =
    of-point (list_any (λ p. set (grid_point p)) ps) d (at-points all ps set d u h) (short-entry (both (is_among ps) set) d h (points-short ps set v))

-- ---- the row
abbrev row_with : Dim → Dim → Dim → Known
row_with ii ib ie =
    record {
      least = ii ∷ ib ∷ ie ∷ dims.Nothing ∷ dims.Nothing ∷ dims.Nothing ∷ dims.Nothing ∷ dims.Nothing ∷ dims.Nothing ∷ [];
      most = ii ∷ ib ∷ ie ∷ dims.Nothing ∷ dims.Nothing ∷ dims.Nothing ∷ dims.Two ∷ dims.Two ∷ dims.Two ∷ [];
      contact = false;
    }

same-rows : (b c d e f g : Dim) → b ≡ e → c ≡ f → d ≡ g → row_with b c d ≡ row_with e f g
same-rows b c d e f g h i j = ap (λ x. row_with x c d) h ∙ ap (λ x. row_with e x d) i ∙ ap (λ x. row_with e f x) j

points-row : (ps : List Coordinates) (b : Geometry) → IsValid (MultiPoint ps) → known_of_points (seen_points b ps) ≡ interior_row (matrix_of (MultiPoint ps) b)
points-row ps b v =
    let all = all_pieces (MultiPoint ps) b in
    let has = second_has (MultiPoint ps) b in
    let m = (matrices_are_over_the_plane (MultiPoint ps) b).computed in
    same-rows _ _ _ _ _ _
    (entry all ps (in_interior b) _ v (interior_union all b has) m.0)
    (entry all ps (in_boundary b) _ v (boundary_union all b has) m.1.0)
    (entry all ps (in_exterior b) _ v (exterior_union all b has) m.1.1.0)

-- ---- what is known holds
no-entry : (set : PointSet) (d : Dim) → HasDimension set d → ¬ (HasPoint set) → IsAtMost d dims.Nothing
no-entry set dims.Nothing h n = refl
no-entry set dims.Zero h n = absurd (n h.0)
no-entry set dims.One h n = absurd (n (point_in_segment set h.0))
no-entry set dims.Two h n = absurd (n (point_in_segment set (segment_in_triangle set h)))

row-holds : (ii ib ie bi bb be ei eb ee : Dim) → IsAtMost bi dims.Nothing → IsAtMost bb dims.Nothing → IsAtMost be dims.Nothing
    → Holds (row_with ii ib ie) (ii ∷ ib ∷ ie ∷ bi ∷ bb ∷ be ∷ ei ∷ eb ∷ ee ∷ [])
row-holds ii ib ie bi bb be ei eb ee h i j =
    record {
      least = (greater-same ii, (greater-same ib, (greater-same ie, (refl, (refl, (refl, (refl, (refl, (refl, refl)))))))));
      most = (greater-same ii, (greater-same ib, (greater-same ie, (h, (i, (j, (at-most-two ei, (at-most-two eb, (at-most-two ee, refl)))))))));
      contact = no-share (ii ∷ ib ∷ ie ∷ bi ∷ bb ∷ be ∷ ei ∷ eb ∷ ee ∷ []);
    }

-- a MultiPoint has no boundary
no-boundary : (ps : List Coordinates) (set : PointSet) → ¬ (HasPoint (both (in_boundary (MultiPoint ps)) set))
no-boundary ps set h = both_ways false refl h.has

row-of-points : (a b : Geometry) → is_points a ≡ true → Holds (interior_row (matrix_of a b)) (matrix_of a b)
row-of-points (MultiPoint ps) b s =
    let m = (matrices_are_over_the_plane (MultiPoint ps) b).computed in
    row-holds _ _ _ _ _ _ _ _ _
    (no-entry (both (in_boundary (MultiPoint ps)) (in_interior b)) _ m.1.1.1.0 (no-boundary ps (in_interior b)))
    (no-entry (both (in_boundary (MultiPoint ps)) (in_boundary b)) _ m.1.1.1.1.0 (no-boundary ps (in_boundary b)))
    (no-entry (both (in_boundary (MultiPoint ps)) (in_exterior b)) _ m.1.1.1.1.1.0 (no-boundary ps (in_exterior b)))
row-of-points (Point p) b s = absurd (both_ways false refl s)
row-of-points (LineString ps) b s = absurd (both_ways false refl s)
row-of-points (MultiLineString lines) b s = absurd (both_ways false refl s)
row-of-points (Polygon rings) b s = absurd (both_ways false refl s)
row-of-points (MultiPolygon polygons) b s = absurd (both_ways false refl s)

-- ---- as it is called
-- of the places of a MultiPoint's points
pub own-points : (a b : Geometry) (ps qs : List Coordinates) (known : Known) → IsValid a → a ≡ MultiPoint ps → qs ≡ ps
    → known ≡ known_of_points (seen_points b qs) → known ≡ interior_row (matrix_of a b)
own-points a b ps qs known v is same of =
    of
    ∙ ap (λ rs. known_of_points (seen_points b rs)) same
    ∙ points-row ps b (subst IsValid is v)
    ∙ sym (ap (λ g. interior_row (matrix_of g b)) is)

-- of a MultiPoint and lines
pub first-points-hold : (a b : Geometry) (found : Option Known) → IfSome found (λ known. is_points a ≡ true)
    → IfSome found (λ known. known ≡ interior_row (matrix_of a b)) → IfSome found (λ known. Holds known (matrix_of a b))
first-points-hold a b None p is = is
first-points-hold a b (Some known) p is = subst (λ (k : Known). Holds k (matrix_of a b)) (sym is) (row-of-points a b p)

-- or the other way round
pub second-points-hold : (a b : Geometry) (known turn : Known) → is_points b ≡ true → known ≡ interior_row (matrix_of b a) → turn ≡ known_transposed known
    → Holds turn (matrix_of a b)
second-points-hold a b known turn p is same =
    subst (λ (k : Known). Holds k (matrix_of a b)) (sym (same ∙ ap known_transposed is))
    (turned a b (interior_row (matrix_of b a)) (row-of-points b a p))
