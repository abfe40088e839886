-- Edges of two lines, or of a line and an area, run along one another just where the line's interior and the other one's, or the
-- area's boundary, have a length in common.
use Rattle.std.proofs.Common.{◌≡◌, ◌≢◌, refl, ap, sym, ◌∙◌, subst, Bool, true, false, not, List, [], ◌∷◌, inl, inr, map, zero, suc, take, ℤ, pos, ◌*ℤ◌, arith}
use Rattle.std.specs.Prelude.{◌↔◌, ◌≤◌, IsTrue, Option, Some, replicate, unwrap_or, ℕ, if◌then◌else◌}
use Rattle.std.specs.List.{Any, list_any}
use Rattle.std.proofs.Math.Bool.{or-false}
use Rattle.std.proofs.lemmas.Bool.{and_from, and_parts, both_ways, false_from_ne_true}
use Rattle.sf_along.specs.Along.{RunAlong}
use Rattle.sf_along.specs.Covers.{has_edge}
use Rattle.sf_along.proofs.EdgeLaws.{lengths}
use Rattle.sf_geometry.specs.declared.geometry.Geometry.{Geometry}
use Rattle.sf_geometry.specs.declared.geometry.Geometry.TheVariants.{LineString, MultiLineString, MultiPoint, MultiPolygon, Point, Polygon}
use Rattle.sf_geometry.specs.Parts.{edge_of, edges_of}
use Rattle.sf_geometry.specs.PointSets.{in_boundary, in_interior, on_line, on_polygon}
use Rattle.sf_grid.specs.Edge.{Edge as Line, on_edge}
use Rattle.std.specs.Ordering.{int_eq}
use Rattle.std.proofs.lemmas.Int.{ints}
use Rattle.sf_grid.specs.Plane.{Coordinates, Point as PlanePoint, grid_point, same_point}
use Rattle.sf_grid.proofs.CallerLemmas.{eq_from_test, on_edge-swap, same_coordinates}
use Rattle.sf_interiors.proofs.DimensionLaws.{is_grid}
use Rattle.sf_plane.proofs.CombineLaws.{start_on_edge}
use Rattle.sf_interiors.proofs.DimensionLaws.{boundary_has_dimension}
use Rattle.sf_interiors.proofs.ParityLaws.{on-edges}
use Rattle.sf_interiors.specs.Dimensions.{has_end}
use Rattle.sf_known.proofs.OrderLaws.{at-most-two}
use Rattle.sf_known.specs.declared.known.Known.{Known}
use Rattle.sf_known.specs.Known.{AreAtMost, Holds, IsAtMost, no_entries}
use Rattle.sf_known.specs.Patterns.{has_contact}
use Rattle.sf_plane.proofs.CombineLaws.{and_union}
use Rattle.sf_plane.proofs.CoverLaws.{contains, in_append_left, in_append_right}
use Rattle.sf_plane.proofs.PlaceLaws.{IsIn}
use Rattle.sf_plane.proofs.ShareLaws.{in_from_contains, shared_tell}
use Rattle.sf_plane.proofs.UnionLaws.{point_in_segment, samples_tell, segment_in_triangle}
use Rattle.sf_plane.specs.declared.dim.Dim.{Dim}
use Rattle.sf_plane.specs.declared.dim.Dim.TheVariants as dims
use Rattle.sf_plane.specs.Dimension.{HasDimension, HasSegment, PointSet}
use Rattle.sf_plane.specs.Unions.{IsUnionOfCells}
use Rattle.sf_relate.proofs.AreasLaws.{by-edges}
use Rattle.sf_relate.proofs.FoundLaws.{nothing-holds}
use Rattle.sf_relate.proofs.SetLaws.{HasAll, boundary_union, first_has, interior_union, matrices_are_over_the_plane, second_has}
use Rattle.sf_relate.specs.AllPieces.{all_pieces, end_dots_of, pieces_of, with_ends}
use Rattle.sf_relate.specs.Matrices.{IsMatrix, both, matrix_of}
use Rattle.sf_relate.specs.Places.{shape_of}
use Rattle.sf_relate.specs.declared.shape.Shape.{Shape}
use Rattle.sf_relate.specs.declared.shape.Shape.TheVariants.{Areas, Lines, Points}
use Rattle.sf_valid_rules.proofs.MemberLaws.{any-one, each-in, in_map, one-any}
use Rattle.sf_valid_rules.specs.Validity.{IsValid}
use Rattle.sf_strips.specs.declared.piece.Piece.{Piece}
use Rattle.sf_strips.specs.declared.piece.Piece.TheVariants.{Edge}
use Rattle.sf_cells.specs.Samples.{Sample, samples}
use Rattle.sf_linework.specs.Alongside.{AlongsideIsKnown, IsKnownAlong, entry_alongside, known_alongside, known_of_length}

-- ---- the edges of a geometry
-- q is on one of them
abbrev pub on_edges : Geometry → PlanePoint → Bool
on_edges a q = list_any (λ e. on_edge e q) (edges_of a)

-- they are among its pieces
in-pieces : (a : Geometry) (e : Line) → IsIn (edges_of a) e → IsIn (pieces_of a) (Edge e.a e.b)
in-pieces (Point p) e i = absurd i
in-pieces (MultiPoint ps) e i = absurd i
in-pieces (LineString ps) e i = in_map (λ (f : Line). Edge f.a f.b) (edges_of (LineString ps)) e i
in-pieces (MultiLineString lines) e i = in_map (λ (f : Line). Edge f.a f.b) (edges_of (MultiLineString lines)) e i
in-pieces (Polygon rings) e i = in_map (λ (f : Line). Edge f.a f.b) (edges_of (Polygon rings)) e i
in-pieces (MultiPolygon polygons) e i = in_map (λ (f : Line). Edge f.a f.b) (edges_of (MultiPolygon polygons)) e i

first-edge : (a b : Geometry) (e : Line) → IsIn (edges_of a) e → IsIn (all_pieces a b) (Edge e.a e.b)
first-edge a b e i = in_append_right (with_ends b) (with_ends a) (Edge e.a e.b) (in_append_left (pieces_of a) (end_dots_of a) (Edge e.a e.b) (in-pieces a e i))

second-edge : (a b : Geometry) (e : Line) → IsIn (edges_of b) e → IsIn (all_pieces a b) (Edge e.a e.b)
second-edge a b e i = in_append_left (with_ends b) (with_ends a) (Edge e.a e.b) (in_append_left (pieces_of b) (end_dots_of b) (Edge e.a e.b) (in-pieces b e i))

-- ---- sets of points that are those of the edges, but for finitely many
-- a sample with a length is on an edge
abbrev IsAlong : Geometry → Sample → Type 0
IsAlong a s = (on_edges a s.point ≡ true) × (1 ≤ s.dim)

-- the points of the set are on the edges, and each sample with a length that is on an edge is in the set
record IsOfEdges (all : List Piece) (a : Geometry) (set : PointSet) : Type 0 where
  union : IsUnionOfCells all set
  on : (q : PlanePoint) → set q ≡ true → on_edges a q ≡ true
  full : (some : Any (IsAlong a) (samples all)) → set some.1.point ≡ true

-- of lines that is the interior
pub line-on : (a : Geometry) (q : PlanePoint) → shape_of a ≡ Lines → in_interior a q ≡ true → on_edges a q ≡ true
line-on (LineString ps) q s h =
    on-edges (ps ∷ []) q ∙ or-false (on_line ps q) ∙ (and_parts (on_line ps q) (not (in_boundary (LineString ps) q)) h).0
line-on (MultiLineString lines) q s h = on-edges lines q ∙ (and_parts (on_polygon lines q) (not (in_boundary (MultiLineString lines) q)) h).0
line-on (Point p) q s h = absurd cc
line-on (MultiPoint ps) q s h = absurd cc
line-on (Polygon rings) q s h = absurd cc
line-on (MultiPolygon polygons) q s h = absurd cc

line-in : (a : Geometry) (q : PlanePoint) → shape_of a ≡ Lines → on_edges a q ≡ true → in_boundary a q ≡ false → in_interior a q ≡ true
line-in (LineString ps) q s h k =
    and_from (on_line ps q) (not (in_boundary (LineString ps) q)) (sym (on-edges (ps ∷ []) q ∙ or-false (on_line ps q)) ∙ h) (ap not k)
line-in (MultiLineString lines) q s h k = and_from (on_polygon lines q) (not (in_boundary (MultiLineString lines) q)) (sym (on-edges lines q) ∙ h) (ap not k)
line-in (Point p) q s h k = absurd cc
line-in (MultiPoint ps) q s h k = absurd cc
line-in (Polygon rings) q s h k = absurd cc
line-in (MultiPolygon polygons) q s h k = absurd cc

no-length : (set : PointSet) (b : Bool) → HasDimension set (if b then dims.Zero else dims.Nothing) → HasSegment set → ⊥
no-length set true d h = d.1 h
no-length set false d h = d (point_in_segment set h)

-- their ends have no length
pub ends-short : (a : Geometry) → IsValid a → shape_of a ≡ Lines → HasSegment (in_boundary a) → ⊥
ends-short (LineString ps) v s = no-length (in_boundary (LineString ps)) (has_end (LineString ps)) (boundary_has_dimension (LineString ps) v)
ends-short (MultiLineString lines) v s = no-length (in_boundary (MultiLineString lines)) (has_end (MultiLineString lines)) (boundary_has_dimension (MultiLineString lines) v)
ends-short (Point p) v s = absurd cc
ends-short (MultiPoint ps) v s = absurd cc
ends-short (Polygon rings) v s = absurd cc
ends-short (MultiPolygon polygons) v s = absurd cc

line-edges : (all : List Piece) (a : Geometry) → HasAll all a → IsValid a → shape_of a ≡ Lines → IsOfEdges all a (in_interior a)
line-edges all a has v s =
    record {
      union = interior_union all a has;
      on = λ q h. line-on a q s h;
      full =
          λ some.
          line-in a some.1.point s some.4.0
          (false_from_ne_true (in_boundary a some.1.point)
          (λ end.
          ends-short a v s
          ((samples_tell all (in_boundary a) (boundary_union all a has)).segment.1 (some.0, some.1, some.2, some.3, (end, some.4.1)))));
    }

-- of an area it is the boundary
area-edges : (all : List Piece) (a : Geometry) → HasAll all a → shape_of a ≡ Areas → IsOfEdges all a (in_boundary a)
area-edges all a has s =
    record {
      union = boundary_union all a has;
      on = λ q h. by-edges a q s ∙ h;
      full = λ some. sym (by-edges a some.1.point s) ∙ some.4.0;
    }

-- ---- such sets have a segment in common just where edges run along one another
along-segment : (a b : Geometry) (s t : PointSet) → IsOfEdges (all_pieces a b) a s → IsOfEdges (all_pieces a b) b t → RunAlong a b → HasSegment (both s t)
along-segment a b s t first second r =
    let all = all_pieces a b in
    let i = in_from_contains (edges_of a) r.first r.of_first in
    let j = in_from_contains (edges_of b) r.second r.of_second in
    let some =
    (shared_tell all r.first r.second (contains all (Edge r.first.a r.first.b) (first-edge a b r.first i)) (contains all (Edge r.second.a r.second.b) (second-edge a b r.second j))).0 r.share in
    let q = some.1.point in
    let in_first : s q ≡ true = first.full (some.0, some.1, some.2, some.3, (one-any (λ (e : Line). on_edge e q) (edges_of a) r.first i some.4.0.0, some.4.1)) in
    let in_second : t q ≡ true = second.full (some.0, some.1, some.2, some.3, (one-any (λ (e : Line). on_edge e q) (edges_of b) r.second j some.4.0.1, some.4.1)) in
    (samples_tell all (both s t) (and_union all s t first.union second.union)).segment.1
    (some.0, some.1, some.2, some.3, (and_from (s q) (t q) in_first in_second, some.4.1))

segment-along : (a b : Geometry) (s t : PointSet) → IsOfEdges (all_pieces a b) a s → IsOfEdges (all_pieces a b) b t → HasSegment (both s t) → RunAlong a b
segment-along a b s t first second h =
    let all = all_pieces a b in
    let some = (samples_tell all (both s t) (and_union all s t first.union second.union)).segment.0 h in
    let q = some.1.point in
    let parts = and_parts (s q) (t q) some.4.0 in
    let e = any-one (λ (f : Line). on_edge f q) (edges_of a) (first.on q parts.0) in
    let f = any-one (λ (g : Line). on_edge g q) (edges_of b) (second.on q parts.1) in
    record {
      first = e.one;
      second = f.one;
      of_first = contains (edges_of a) e.one e.among;
      of_second = contains (edges_of b) f.one f.among;
      share =
          (shared_tell all e.one f.one (contains all (Edge e.one.a e.one.b) (first-edge a b e.one e.among)) (contains all (Edge f.one.a f.one.b) (second-edge a b f.one f.among))).1
          (some.0, some.1, some.2, some.3, ((e.passes, f.passes), some.4.1));
    }

-- ---- the entry of such sets
pub long-entry : (set : PointSet) (d : Dim) → HasDimension set d → HasSegment set → IsAtMost dims.One d
long-entry set dims.Nothing h k = absurd (h (point_in_segment set k))
long-entry set dims.Zero h k = absurd (h.1 k)
long-entry set dims.One h k = refl
long-entry set dims.Two h k = refl

pub short-entry : (set : PointSet) (d : Dim) → HasDimension set d → ¬ (HasSegment set) → IsAtMost d dims.Zero
short-entry set dims.Nothing h n = refl
short-entry set dims.Zero h n = refl
short-entry set dims.One h n = absurd (n h.0)
short-entry set dims.Two h n = absurd (n (segment_in_triangle set h))

-- it has a length just where edges run along one another
record IsTold (along : Bool) (d : Dim) : Type 0 where
  long : along ≡ true → IsAtMost dims.One d
  short : along ≡ false → IsAtMost d dims.Zero

told : (a b : Geometry) (s t : PointSet) (d : Dim) (along : Bool) → IsOfEdges (all_pieces a b) a s → IsOfEdges (all_pieces a b) b t → HasDimension (both s t) d → IsTrue along ↔ RunAlong a b
    → IsTold along d
told a b s t d along first second h r =
    record {
      long = λ k. long-entry (both s t) d h (along-segment a b s t first second (r.0 k));
      short = λ k. short-entry (both s t) d h (λ segment. both_ways along k (r.1 (segment-along a b s t first second segment)));
    }

-- ---- the matrix
pub no-share : (m : List Dim) → IsTrue false → IsTrue (has_contact m)
no-share m h = absurd (both_ways false refl h)

-- of entries of which nothing is known
any-least : (ii ib ie bi bb be ei eb ee : Dim) → AreAtMost no_entries (ii ∷ ib ∷ ie ∷ bi ∷ bb ∷ be ∷ ei ∷ eb ∷ ee ∷ [])
any-least ii ib ie bi bb be ei eb ee = (refl, (refl, (refl, (refl, (refl, (refl, (refl, (refl, (refl, refl)))))))))

pub any-most : (ii ib ie bi bb be ei eb ee : Dim) → AreAtMost (ii ∷ ib ∷ ie ∷ bi ∷ bb ∷ be ∷ ei ∷ eb ∷ ee ∷ []) (replicate 9 dims.Two)
any-most ii ib ie bi bb be ei eb ee =
    (at-most-two ii, (at-most-two ib, (at-most-two ie, (at-most-two bi, (at-most-two bb, (at-most-two be, (at-most-two ei, (at-most-two eb, (at-most-two ee, refl)))))))))

-- the entry of two interiors, of an interior and a boundary, and of a boundary and an interior
at-ii : (along : Bool) (ii ib ie bi bb be ei eb ee : Dim) → IsTold along ii → Holds (known_of_length 0 along) (ii ∷ ib ∷ ie ∷ bi ∷ bb ∷ be ∷ ei ∷ eb ∷ ee ∷ [])
at-ii true ii ib ie bi bb be ei eb ee is =
    record {
      least = (is.long refl, (refl, (refl, (refl, (refl, (refl, (refl, (refl, (refl, refl)))))))));
      most = any-most ii ib ie bi bb be ei eb ee;
      contact = no-share (ii ∷ ib ∷ ie ∷ bi ∷ bb ∷ be ∷ ei ∷ eb ∷ ee ∷ []);
    }
at-ii false ii ib ie bi bb be ei eb ee is =
    record {
      least = any-least ii ib ie bi bb be ei eb ee;
      most = (is.short refl, (at-most-two ib, (at-most-two ie, (at-most-two bi, (at-most-two bb, (at-most-two be, (at-most-two ei, (at-most-two eb, (at-most-two ee, refl)))))))));
      contact = no-share (ii ∷ ib ∷ ie ∷ bi ∷ bb ∷ be ∷ ei ∷ eb ∷ ee ∷ []);
    }

at-ib : (along : Bool) (ii ib ie bi bb be ei eb ee : Dim) → IsTold along ib → Holds (known_of_length 1 along) (ii ∷ ib ∷ ie ∷ bi ∷ bb ∷ be ∷ ei ∷ eb ∷ ee ∷ [])
at-ib true ii ib ie bi bb be ei eb ee is =
    record {
      least = (refl, (is.long refl, (refl, (refl, (refl, (refl, (refl, (refl, (refl, refl)))))))));
      most = any-most ii ib ie bi bb be ei eb ee;
      contact = no-share (ii ∷ ib ∷ ie ∷ bi ∷ bb ∷ be ∷ ei ∷ eb ∷ ee ∷ []);
    }
at-ib false ii ib ie bi bb be ei eb ee is =
    record {
      least = any-least ii ib ie bi bb be ei eb ee;
      most = (at-most-two ii, (is.short refl, (at-most-two ie, (at-most-two bi, (at-most-two bb, (at-most-two be, (at-most-two ei, (at-most-two eb, (at-most-two ee, refl)))))))));
      contact = no-share (ii ∷ ib ∷ ie ∷ bi ∷ bb ∷ be ∷ ei ∷ eb ∷ ee ∷ []);
    }

at-bi : (along : Bool) (ii ib ie bi bb be ei eb ee : Dim) → IsTold along bi → Holds (known_of_length 3 along) (ii ∷ ib ∷ ie ∷ bi ∷ bb ∷ be ∷ ei ∷ eb ∷ ee ∷ [])
at-bi true ii ib ie bi bb be ei eb ee is =
    record {
      least = (refl, (refl, (refl, (is.long refl, (refl, (refl, (refl, (refl, (refl, refl)))))))));
      most = any-most ii ib ie bi bb be ei eb ee;
      contact = no-share (ii ∷ ib ∷ ie ∷ bi ∷ bb ∷ be ∷ ei ∷ eb ∷ ee ∷ []);
    }
at-bi false ii ib ie bi bb be ei eb ee is =
    record {
      least = any-least ii ib ie bi bb be ei eb ee;
      most = (at-most-two ii, (at-most-two ib, (at-most-two ie, (is.short refl, (at-most-two bb, (at-most-two be, (at-most-two ei, (at-most-two eb, (at-most-two ee, refl)))))))));
      contact = no-share (ii ∷ ib ∷ ie ∷ bi ∷ bb ∷ be ∷ ei ∷ eb ∷ ee ∷ []);
    }

pub alongside_is_known : AlongsideIsKnown
alongside_is_known a b along v w r = by_shapes (shape_of a) refl (shape_of b) refl
  where
    m : IsMatrix a b (matrix_of a b)
    m = (matrices_are_over_the_plane a b).computed

    by_shapes : (s : Shape) → shape_of a ≡ s → (t : Shape) → shape_of b ≡ t → Holds (known_alongside s t along) (matrix_of a b)
    by_shapes Lines e Lines f =
        at-ii along _ _ _ _ _ _ _ _ _
        (told a b (in_interior a) (in_interior b) _ along (line-edges (all_pieces a b) a (first_has a b) v e) (line-edges (all_pieces a b) b (second_has a b) w f) m.0 r)
    by_shapes Lines e Areas f =
        at-ib along _ _ _ _ _ _ _ _ _
        (told a b (in_interior a) (in_boundary b) _ along (line-edges (all_pieces a b) a (first_has a b) v e) (area-edges (all_pieces a b) b (second_has a b) f) m.1.0 r)
    by_shapes Areas e Lines f =
        at-bi along _ _ _ _ _ _ _ _ _
        (told a b (in_boundary a) (in_interior b) _ along (area-edges (all_pieces a b) a (first_has a b) e) (line-edges (all_pieces a b) b (second_has a b) w f) m.1.1.1.0 r)
    by_shapes Lines e Points f = nothing-holds a b
    by_shapes Areas e Areas f = nothing-holds a b
    by_shapes Areas e Points f = nothing-holds a b
    by_shapes Points e Lines f = nothing-holds a b
    by_shapes Points e Areas f = nothing-holds a b
    by_shapes Points e Points f = nothing-holds a b

-- ---- as it is called
of-entry : (s t : Shape) (entry : ℕ) (along : Bool) → ◌≡◌ {A = Option ℕ} (Some entry) (entry_alongside s t) → known_of_length entry along ≡ known_alongside s t along
of-entry Lines Lines entry along h = ap (λ o. known_of_length (unwrap_or o 0) along) h
of-entry Lines Areas entry along h = ap (λ o. known_of_length (unwrap_or o 0) along) h
of-entry Areas Lines entry along h = ap (λ o. known_of_length (unwrap_or o 0) along) h
of-entry Lines Points entry along h = absurd cc
of-entry Areas Areas entry along h = absurd cc
of-entry Areas Points entry along h = absurd cc
of-entry Points Lines entry along h = absurd cc
of-entry Points Areas entry along h = absurd cc
of-entry Points Points entry along h = absurd cc

pub known-along : (a b f g h i : Geometry) (s t : Shape) (entry : ℕ) (along : Bool) (known : Known) → f ≡ a → g ≡ b → h ≡ a → i ≡ b → s ≡ shape_of f → t ≡ shape_of g
    → ◌≡◌ {A = Option ℕ} (Some entry) (entry_alongside s t) → IsTrue along ↔ RunAlong h i → known ≡ known_of_length entry along → IsKnownAlong a b known
known-along a b f g h i s t entry along known is_f is_g is_h is_i of_s of_t e r same =
    record {
      along = along;
      told = subst (λ (y : Geometry). IsTrue along ↔ RunAlong a y) is_i (subst (λ (x : Geometry). IsTrue along ↔ RunAlong x i) is_h r);
      same =
          same
          ∙ of-entry s t entry along e
          ∙ ap (λ x. known_alongside x t along) (of_s ∙ ap shape_of is_f)
          ∙ ap (λ y. known_alongside (shape_of a) y along) (of_t ∙ ap shape_of is_g);
    }

pub along-holds : (a b : Geometry) (known : Known) → IsValid a → IsValid b → IsKnownAlong a b known → Holds known (matrix_of a b)
along-holds a b known v w is = subst (λ (k : Known). Holds k (matrix_of a b)) (sym is.same) (alongside_is_known a b is.along v w is.told)

-- ---- an edge that lies in another runs along it
-- what one of the first of a list is, one of the list is
pub in-take : {A : Type 0} (k : ℕ) (xs : List A) (x : A) → IsIn (take k xs) x → IsIn xs x
in-take zero [] x i = absurd i
in-take zero (y ∷ ys) x i = absurd i
in-take (suc k) [] x i = absurd i
in-take (suc k) (y ∷ ys) x (inl e) = inl e
in-take (suc k) (y ∷ ys) x (inr i) = inr (in-take k ys x i)

-- different points of the grid are different points of the plane
grid-differ : (u v : Coordinates) → u ≢ v → same_point (grid_point u) (grid_point v) ≡ false
grid-differ u v n =
    false_from_ne_true (same_point (grid_point u) (grid_point v))
    (λ t.
    let parts = and_parts (int_eq (u.x *ℤ pos 1) (v.x *ℤ pos 1)) (int_eq (u.y *ℤ pos 1) (v.y *ℤ pos 1)) t in
    n (same_coordinates u v (once u.x v.x (eq_from_test _ _ parts.0)) (once u.y v.y (eq_from_test _ _ parts.1))))
  where
    once : (x y : ℤ) → x *ℤ pos 1 ≡ y *ℤ pos 1 → x ≡ y
    once x y e = omega (arith, ints)

abbrev has-pair : Coordinates × Coordinates → Coordinates × Coordinates → Bool
has-pair e f = has_edge (edge_of f) (edge_of e)

pub within-along : (a b : Geometry) (first second slice others : List (Coordinates × Coordinates)) (k : ℕ) → map edge_of first ≡ edges_of a → map edge_of second ≡ edges_of b →
    slice ≡ first → others ≡ second → list_any (λ (e : Coordinates × Coordinates). list_any (has-pair e) others) (take k slice) ≡ true → RunAlong a b
within-along a b first second slice others k is_first is_second same all h =
    let e = any-one (λ (x : Coordinates × Coordinates). list_any (has-pair x) others) (take k slice) h in
    let f = any-one (has-pair e.one) others e.passes in
    let i = subst (λ es. IsIn es (edge_of e.one)) is_first (in_map edge_of first e.one (subst (λ (es : List (Coordinates × Coordinates)). IsIn es e.one) same (in-take k slice e.one e.among))) in
    let j = subst (λ es. IsIn es (edge_of f.one)) is_second (in_map edge_of second f.one (subst (λ (es : List (Coordinates × Coordinates)). IsIn es f.one) all f.among)) in
    let ends = and_parts (on_edge (edge_of f.one) (grid_point e.one.0)) (on_edge (edge_of f.one) (grid_point e.one.1)) f.passes in
    record {
      first = edge_of e.one;
      second = edge_of f.one;
      of_first = contains (edges_of a) (edge_of e.one) i;
      of_second = contains (edges_of b) (edge_of f.one) j;
      share =
          record {
            first = grid_point e.one.0;
            second = grid_point e.one.1;
            is_first = is_grid e.one.0;
            is_second = is_grid e.one.1;
            differ = grid-differ e.one.0 e.one.1 (each-in (λ (g : Line). g.a ≢ g.b) (edges_of a) (lengths a) (edge_of e.one) i);
            first_on_both = (start_on_edge e.one.0 e.one.1, ends.0);
            second_on_both = (on_edge-swap e.one.0 e.one.1 (grid_point e.one.1) ∙ start_on_edge e.one.1 e.one.0, ends.1);
          };
    }
