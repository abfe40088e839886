-- The matrix of two areas of which all is known but how their boundaries share points: whether these run along one another decides it.
use Rattle.std.proofs.Common.{◌≡◌, refl, ap, sym, ◌∙◌, subst, Bool, true, false, ◌||◌, List, [], ◌∷◌}
use Rattle.std.specs.Prelude.{◌↔◌, IsTrue, None, Option, Some, unwrap_or, if◌then◌else◌}
use Rattle.std.specs.List.{flat_map, list_any}
use Rattle.std.proofs.lemmas.Bool.{and_from, and_parts, both_ways}
use Rattle.std.proofs.lemmas.List.Folds.{list_any-append}
use Rattle.sf_along.specs.Along.{RunAlong}
use Rattle.sf_geometry.specs.declared.geometry.Geometry.{Geometry}
use Rattle.sf_geometry.specs.declared.geometry.Geometry.TheVariants.{Point, LineString, Polygon, MultiPoint, MultiLineString, MultiPolygon}
use Rattle.sf_geometry.specs.Lists.{edges_of as edges_of_list}
use Rattle.sf_geometry.specs.Parts.{edges_of, joined}
use Rattle.sf_geometry.specs.PointSets.{in_boundary, in_exterior, in_interior, on_line}
use Rattle.sf_grid.specs.Edge.{Edge as Line, IsOnEdge, on_edge}
use Rattle.sf_grid.specs.Plane.{Point as PlanePoint}
use Rattle.sf_interiors.proofs.DimensionLaws.{boundary_has_dimension}
use Rattle.sf_interiors.specs.Dimensions.{boundary_dim}
use Rattle.sf_pieces.specs.Marked.{piece_of}
use Rattle.sf_plane.proofs.CombineLaws.{and_union}
use Rattle.sf_plane.proofs.CoverLaws.{contains, in_append_left, in_append_right}
use Rattle.sf_plane.proofs.PlaceLaws.{IsIn}
use Rattle.sf_plane.proofs.ShareLaws.{edge_is_convex, in_from_contains, shared_tell}
use Rattle.sf_plane.proofs.UnionLaws.{samples_tell}
use Rattle.sf_plane.specs.declared.dim.Dim.{Dim}
use Rattle.sf_plane.specs.declared.dim.Dim.TheVariants as dims
use Rattle.sf_plane.specs.Dimension.{HasDimension, HasSegment, HasTriangle, PointSet}
use Rattle.sf_plane.specs.Unions.{IsUnionOfCells, dimension_by_samples}
use Rattle.sf_valid_rules.proofs.MemberLaws.{any-one, in_map, one-any}
use Rattle.sf_valid_rules.specs.Validity.{IsValid}
use Rattle.sf_known.proofs.NineLaws.{boundaries-known}
use Rattle.sf_known.specs.declared.aim.Aim.TheVariants.{ButBoundaries}
use Rattle.sf_known.specs.declared.known.Known.{Known}
use Rattle.sf_known.specs.declared.matrix.Matrix.{Matrix}
use Rattle.sf_known.specs.Known.{Holds, have_most, is_enough}
use Rattle.sf_relate.specs.declared.shape.Shape.TheVariants.{Areas}
use Rattle.sf_relate.specs.AllPieces.{all_pieces, end_dots_of, pieces_of, with_ends}
use Rattle.sf_relate.specs.Areas.{with_boundaries}
use Rattle.sf_relate.specs.Matrices.{both, matrix_of}
use Rattle.sf_relate.specs.Places.{shape_of}
use Rattle.sf_relate.proofs.MostLaws.{wider-triangle}
use Rattle.sf_relate.proofs.SetLaws.{boundary_union, first_has, matrices_are_over_the_plane, second_has}

-- ---- the boundary of an area is thin
one-wide : (a : Geometry) → shape_of a ≡ Areas → boundary_dim a ≡ dims.One
one-wide (Polygon rings) s = refl
one-wide (MultiPolygon polygons) s = refl
one-wide (Point p) s = absurd cc
one-wide (MultiPoint ps) s = absurd cc
one-wide (LineString ps) s = absurd cc
one-wide (MultiLineString lines) s = absurd cc

thin : (a : Geometry) → IsValid a → shape_of a ≡ Areas → HasTriangle (in_boundary a) → ⊥
thin a v s = (subst (HasDimension (in_boundary a)) (one-wide a s) (boundary_has_dimension a v)).1

pub first-thin : (a : Geometry) (t : PointSet) (d : Dim) → IsValid a → shape_of a ≡ Areas → HasDimension (both (in_boundary a) t) d → d ≡ dims.Two → ⊥
first-thin a t d v s h e =
    let wide : HasTriangle (both (in_boundary a) t) = subst (HasDimension (both (in_boundary a) t)) e h in
    thin a v s (wider-triangle (both (in_boundary a) t) (in_boundary a) (λ p i. (and_parts (in_boundary a p) (t p) i).0) wide)

pub second-thin : (a : Geometry) (t : PointSet) (d : Dim) → IsValid a → shape_of a ≡ Areas → HasDimension (both t (in_boundary a)) d → d ≡ dims.Two → ⊥
second-thin a t d v s h e =
    let wide : HasTriangle (both t (in_boundary a)) = subst (HasDimension (both t (in_boundary a))) e h in
    thin a v s (wider-triangle (both t (in_boundary a)) (in_boundary a) (λ p i. (and_parts (t p) (in_boundary a p) i).1) wide)

-- ---- the boundary of an area is its edges
pub any-flat : {A B : Type 0} (test : B → Bool) (f : A → List B) (xs : List A) → list_any test (flat_map f xs) ≡ list_any (λ x. list_any test (f x)) xs
any-flat test f [] = refl
any-flat test f (x ∷ xs) = list_any-append test (f x) (flat_map f xs) ∙ ap (λ v. list_any test (f x) || v) (any-flat test f xs)

pub by-edges : (a : Geometry) (q : PlanePoint) → shape_of a ≡ Areas → list_any (λ e. on_edge e q) (edges_of a) ≡ in_boundary a q
by-edges (Polygon rings) q s = any-flat (λ e. on_edge e q) edges_of_list rings
by-edges (MultiPolygon polygons) q s =
    any-flat (λ e. on_edge e q) edges_of_list (joined polygons) ∙ any-flat (λ ring. on_line ring q) (λ (rings : List (List _)). rings) polygons
by-edges (Point p) q s = absurd cc
by-edges (MultiPoint ps) q s = absurd cc
by-edges (LineString ps) q s = absurd cc
by-edges (MultiLineString lines) q s = absurd cc

in-pieces : (a : Geometry) (e : Line) → shape_of a ≡ Areas → IsIn (edges_of a) e → IsIn (pieces_of a) (piece_of e)
in-pieces (Polygon rings) e s i = in_map piece_of (edges_of (Polygon rings)) e i
in-pieces (MultiPolygon polygons) e s i = in_map piece_of (edges_of (MultiPolygon polygons)) e i
in-pieces (Point p) e s i = absurd cc
in-pieces (MultiPoint ps) e s i = absurd cc
in-pieces (LineString ps) e s i = absurd cc
in-pieces (MultiLineString lines) e s i = absurd cc

-- ---- boundaries have a segment in common just where edges run along one another
along-segment : (a b : Geometry) → shape_of a ≡ Areas → shape_of b ≡ Areas → RunAlong a b → HasSegment (both (in_boundary a) (in_boundary b))
along-segment a b s t r =
    let share = r.share in
    record {
      a = share.first;
      b = share.second;
      is_a = share.is_first;
      is_b = share.is_second;
      differ = share.differ;
      has = λ p i between.
          and_from (in_boundary a p) (in_boundary b p)
          (on a r.first p s (in_from_contains (edges_of a) r.first r.of_first) (edge_is_convex r.first share.first share.second p share.is_first share.is_second i share.first_on_both.0 share.second_on_both.0 between))
          (on b r.second p t (in_from_contains (edges_of b) r.second r.of_second) (edge_is_convex r.second share.first share.second p share.is_first share.is_second i share.first_on_both.1 share.second_on_both.1 between));
    }
  where
    on : (c : Geometry) (e : Line) (p : PlanePoint) → shape_of c ≡ Areas → IsIn (edges_of c) e → IsOnEdge e p → in_boundary c p ≡ true
    on c e p u i o = sym (by-edges c p u) ∙ one-any (λ (f : Line). on_edge f p) (edges_of c) e i o

boundaries-union : (a b : Geometry) → IsUnionOfCells (all_pieces a b) (both (in_boundary a) (in_boundary b))
boundaries-union a b =
    and_union (all_pieces a b) (in_boundary a) (in_boundary b) (boundary_union (all_pieces a b) a (first_has a b)) (boundary_union (all_pieces a b) b (second_has a b))

segment-along : (a b : Geometry) → shape_of a ≡ Areas → shape_of b ≡ Areas → HasSegment (both (in_boundary a) (in_boundary b)) → RunAlong a b
segment-along a b s t h =
    let all = all_pieces a b in
    let some = (samples_tell all (both (in_boundary a) (in_boundary b)) (boundaries-union a b)).segment.0 h in
    let q = some.1.point in
    let parts = and_parts (in_boundary a q) (in_boundary b q) some.4.0 in
    let e = any-one (λ (f : Line). on_edge f q) (edges_of a) (by-edges a q s ∙ parts.0) in
    let f = any-one (λ (g : Line). on_edge g q) (edges_of b) (by-edges b q t ∙ parts.1) in
    let first = in_append_right (with_ends b) (with_ends a) (piece_of e.one) (in_append_left (pieces_of a) (end_dots_of a) (piece_of e.one) (in-pieces a e.one s e.among)) in
    let second = in_append_left (with_ends b) (with_ends a) (piece_of f.one) (in_append_left (pieces_of b) (end_dots_of b) (piece_of f.one) (in-pieces b f.one t f.among)) in
    record {
      first = e.one;
      second = f.one;
      of_first = contains (edges_of a) e.one e.among;
      of_second = contains (edges_of b) f.one f.among;
      share = (shared_tell all e.one f.one (contains all (piece_of e.one) first) (contains all (piece_of f.one) second)).1
          (some.0, some.1, some.2, some.3, ((e.passes, f.passes), some.4.1));
    }

-- ---- the entry of the two boundaries
by-along : (set : PointSet) (d : Dim) (along : Bool) → HasDimension set d → (d ≡ dims.Nothing → ⊥) → (d ≡ dims.Two → ⊥)
    → (along ≡ true → HasSegment set) → (HasSegment set → along ≡ true) → (if along then dims.One else dims.Zero) ≡ d
by-along set dims.Nothing along h m n f g = absurd (m refl)
by-along set dims.Zero true h m n f g = absurd (h.1 (f refl))
by-along set dims.Zero false h m n f g = refl
by-along set dims.One true h m n f g = refl
by-along set dims.One false h m n f g = absurd (both_ways false refl (g h.0))
by-along set dims.Two along h m n f g = absurd (n refl)

-- the dimension of what the two boundaries have in common
abbrev boundaries_dim : Geometry → Geometry → Dim
boundaries_dim a b = dimension_by_samples (all_pieces a b) (both (in_boundary a) (in_boundary b))

boundaries-entry : (a b : Geometry) (along : Bool) → IsValid a → IsValid b → shape_of a ≡ Areas → shape_of b ≡ Areas → IsTrue along ↔ RunAlong a b
    → (boundaries_dim a b ≡ dims.Nothing → ⊥) → (if along then dims.One else dims.Zero) ≡ boundaries_dim a b
boundaries-entry a b along v w s t r filled =
    let is = (matrices_are_over_the_plane a b).computed.1.1.1.1.0 in
    by-along (both (in_boundary a) (in_boundary b)) (boundaries_dim a b) along is filled (first-thin a (in_boundary b) (boundaries_dim a b) v s is)
    (λ k. along-segment a b s t (r.0 k)) (λ k. r.1 (segment-along a b s t k))

-- ---- the matrix
-- what is said where all entries are known, and where they are not
abbrev matrix_if : Bool → List Dim → Option Matrix
matrix_if all entries = if all then Some (record { 0 = entries }) else None

pub matrix-given : (all : Bool) (entries : List Dim) (matrix : Matrix) → Some matrix ≡ matrix_if all entries → (all ≡ true) × (matrix.0 ≡ entries)
matrix-given true entries matrix h = (refl, ap (λ o. (unwrap_or o matrix).0) h)
matrix-given false entries matrix h = absurd cc

pub matrix-missing : (all : Bool) (entries : List Dim) → ◌≡◌ {A = Option Matrix} None (matrix_if all entries) → all ≡ false
matrix-missing true entries h = absurd cc
matrix-missing false entries h = refl

-- of areas of which all is known but how their boundaries share points
pub boundaries-left : (a b : Geometry) (known : Known) (along : Bool) → IsValid a → IsValid b → shape_of a ≡ Areas → shape_of b ≡ Areas → Holds known (matrix_of a b)
    → is_enough known ButBoundaries ≡ true → have_most known.least known.most ≡ false → IsTrue along ↔ RunAlong a b → with_boundaries known.least along ≡ matrix_of a b
boundaries-left a b known along v w s t holds enough left r =
    let d = λ (x y : PointSet). dimension_by_samples (all_pieces a b) (both x y) in
    boundaries-known known.least known.most
    (d (in_interior a) (in_interior b)) (d (in_interior a) (in_boundary b)) (d (in_interior a) (in_exterior b))
    (d (in_boundary a) (in_interior b)) (d (in_boundary a) (in_boundary b)) (d (in_boundary a) (in_exterior b))
    (d (in_exterior a) (in_interior b)) (d (in_exterior a) (in_boundary b)) (d (in_exterior a) (in_exterior b))
    (if along then dims.One else dims.Zero) holds.least holds.most enough left (boundaries-entry a b along v w s t r)
