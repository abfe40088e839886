-- Points have no length, so what a length of lines has of a cell is off them: the interior of lines and the exterior of points share
-- a segment. Lines have no width, so an area has a triangle off them. The exteriors share a triangle beyond both.
use Rattle.std.proofs.Common.{◌≡◌, refl, ap, sym, ◌∙◌, subst, Bool, true, false, ◌&&◌, ◌||◌, List, [], ◌∷◌}
use Rattle.std.specs.Prelude.{Option, Some, unwrap_or, ℕ}
use Rattle.std.proofs.lemmas.Bool.{and_from, both_ways, false_from_ne_true}
use Rattle.sf_linework.proofs.CrossedPartLaws.{area-outside}
use Rattle.sf_geometry.specs.declared.geometry.Geometry.{Geometry}
use Rattle.sf_geometry.specs.declared.geometry.Geometry.TheVariants.{LineString, MultiLineString, MultiPoint, MultiPolygon, Point, Polygon}
use Rattle.sf_geometry.specs.PointSets.{in_boundary, in_exterior, in_interior}
use Rattle.sf_grid.specs.Plane.{Point as PlanePoint}
use Rattle.sf_interiors.proofs.DimensionLaws.{interior_has_dimension}
use Rattle.sf_known.specs.declared.known.Known.{Known}
use Rattle.sf_known.specs.Known.{Holds, IsAtMost}
use Rattle.sf_plane.proofs.CombineLaws.{and_union}
use Rattle.sf_plane.proofs.UnionLaws.{point_in_segment, samples_tell, segment_in_triangle}
use Rattle.sf_plane.specs.declared.dim.Dim.{Dim}
use Rattle.sf_plane.specs.declared.dim.Dim.TheVariants as dims
use Rattle.sf_plane.specs.Dimension.{HasDimension, HasSegment, HasTriangle, PointSet}
use Rattle.sf_plane.specs.Unions.{dimension_by_samples}
use Rattle.sf_relate.proofs.FoundLaws.{nothing-holds}
use Rattle.sf_relate.proofs.SetLaws.{HasAll, exterior_union, first_has, interior_union, matrices_are_over_the_plane, second_has}
use Rattle.sf_relate.proofs.ToldLaws.{exterior-from, outside-both}
use Rattle.sf_relate.specs.AllPieces.{all_pieces}
use Rattle.sf_relate.specs.Matrices.{IsMatrix, both, matrix_of}
use Rattle.sf_relate.specs.Places.{shape_of}
use Rattle.sf_relate.specs.declared.shape.Shape.{Shape}
use Rattle.sf_relate.specs.declared.shape.Shape.TheVariants.{Areas, Lines, Points}
use Rattle.sf_valid_rules.specs.Validity.{IsValid}
use Rattle.sf_strips.specs.declared.piece.Piece.{Piece}
use Rattle.sf_linework.specs.Beside.{entry_beside, has_lines, known_beside, known_of_rest}
use Rattle.sf_linework.proofs.AlongLaws.{any-most, long-entry, no-share}

-- ---- a length of lines that is off points
-- the interior of lines has a length
pub line-long : (a : Geometry) → IsValid a → shape_of a ≡ Lines → HasSegment (in_interior a)
line-long (LineString ps) v s = (interior_has_dimension (LineString ps) v).0
line-long (MultiLineString lines) v s = (interior_has_dimension (MultiLineString lines) v).0
line-long (Point p) v s = absurd cc
line-long (MultiPoint ps) v s = absurd cc
line-long (Polygon rings) v s = absurd cc
line-long (MultiPolygon polygons) v s = absurd cc

-- points have none, and no boundary
record IsThin (a : Geometry) : Type 0 where
  short : ¬ (HasSegment (in_interior a))
  bare : (q : PlanePoint) → in_boundary a q ≡ false

points-thin : (a : Geometry) → IsValid a → shape_of a ≡ Points → IsThin a
points-thin (Point p) v s = record { short = (interior_has_dimension (Point p) v).1; bare = λ q. refl }
points-thin (MultiPoint ps) v s = record { short = (interior_has_dimension (MultiPoint ps) v).1; bare = λ q. refl }
points-thin (LineString ps) v s = absurd cc
points-thin (MultiLineString lines) v s = absurd cc
points-thin (Polygon rings) v s = absurd cc
points-thin (MultiPolygon polygons) v s = absurd cc

-- a sample of a length of the lines is outside of the points
record IsOff (all : List Piece) (points : Geometry) (set : PointSet) : Type 0 where
  off_first : HasSegment (both (in_exterior points) set)
  off_second : HasSegment (both set (in_exterior points))

line-off : (all : List Piece) (points lines : Geometry) → HasAll all points → HasAll all lines → IsValid points → IsValid lines → shape_of points ≡ Points → shape_of lines ≡ Lines
    → IsOff all points (in_interior lines)
line-off all points lines has_points has_lines v w s t =
    let thin = points-thin points v s in
    let outer = exterior_union all points has_points in
    let inner = interior_union all lines has_lines in
    let some = (samples_tell all (in_interior lines) inner).segment.0 (line-long lines w t) in
    let q = some.1.point in
    let off : in_interior points q ≡ false = false_from_ne_true (in_interior points q)
    (λ on. thin.short ((samples_tell all (in_interior points) (interior_union all points has_points)).segment.1 (some.0, some.1, some.2, some.3, (on, some.4.1)))) in
    let out : in_exterior points q ≡ true = exterior-from points q (ap (λ b. b || in_boundary points q) off ∙ thin.bare q) in
    record {
      off_first =
          (samples_tell all (both (in_exterior points) (in_interior lines)) (and_union all (in_exterior points) (in_interior lines) outer inner)).segment.1
          (some.0, some.1, some.2, some.3, (and_from (in_exterior points q) (in_interior lines q) out some.4.0, some.4.1));
      off_second =
          (samples_tell all (both (in_interior lines) (in_exterior points)) (and_union all (in_interior lines) (in_exterior points) inner outer)).segment.1
          (some.0, some.1, some.2, some.3, (and_from (in_interior lines q) (in_exterior points q) some.4.0 out, some.4.1));
    }

-- ---- the matrix
wide-entry : (set : PointSet) (d : Dim) → HasDimension set d → HasTriangle set → IsAtMost dims.Two d
wide-entry set dims.Nothing h k = absurd (h (point_in_segment set (segment_in_triangle set k)))
wide-entry set dims.Zero h k = absurd (h.1 (segment_in_triangle set k))
wide-entry set dims.One h k = absurd (h.1 k)
wide-entry set dims.Two h k = refl

at-ei : (rest ii ib ie bi bb be ei eb ee : Dim) → IsAtMost rest ei → IsAtMost dims.Two ee → Holds (known_of_rest 6 rest) (ii ∷ ib ∷ ie ∷ bi ∷ bb ∷ be ∷ ei ∷ eb ∷ ee ∷ [])
at-ei rest ii ib ie bi bb be ei eb ee left wide =
    record {
      least = (refl, (refl, (refl, (refl, (refl, (refl, (left, (refl, (wide, refl)))))))));
      most = any-most ii ib ie bi bb be ei eb ee;
      contact = no-share (ii ∷ ib ∷ ie ∷ bi ∷ bb ∷ be ∷ ei ∷ eb ∷ ee ∷ []);
    }

at-ie : (rest ii ib ie bi bb be ei eb ee : Dim) → IsAtMost rest ie → IsAtMost dims.Two ee → Holds (known_of_rest 2 rest) (ii ∷ ib ∷ ie ∷ bi ∷ bb ∷ be ∷ ei ∷ eb ∷ ee ∷ [])
at-ie rest ii ib ie bi bb be ei eb ee left wide =
    record {
      least = (refl, (refl, (left, (refl, (refl, (refl, (refl, (refl, (wide, refl)))))))));
      most = any-most ii ib ie bi bb be ei eb ee;
      contact = no-share (ii ∷ ib ∷ ie ∷ bi ∷ bb ∷ be ∷ ei ∷ eb ∷ ee ∷ []);
    }

at-ee : (ii ib ie bi bb be ei eb ee : Dim) → IsAtMost dims.Two ee → Holds (known_of_rest 8 dims.Two) (ii ∷ ib ∷ ie ∷ bi ∷ bb ∷ be ∷ ei ∷ eb ∷ ee ∷ [])
at-ee ii ib ie bi bb be ei eb ee wide =
    record {
      least = (refl, (refl, (refl, (refl, (refl, (refl, (refl, (refl, (wide, refl)))))))));
      most = any-most ii ib ie bi bb be ei eb ee;
      contact = no-share (ii ∷ ib ∷ ie ∷ bi ∷ bb ∷ be ∷ ei ∷ eb ∷ ee ∷ []);
    }

-- what an area has off a line, where the area comes first
area-off-line : (a b : Geometry) → shape_of a ≡ Areas → shape_of b ≡ Lines → IsValid a → IsValid b → HasTriangle (both (in_interior a) (in_exterior b))
area-off-line a b s t v w = let h = area-outside b a t s w v in
    record { a = h.a; b = h.b; c = h.c; is_a = h.is_a; is_b = h.is_b; is_c = h.is_c; wide = h.wide; has = λ q i k. turned (in_exterior b q) (in_interior a q) (h.has q i k) }
  where
    turned : (x y : Bool) → (x && y) ≡ true → (y && x) ≡ true
    turned true true h = refl
    turned true false h = h
    turned false y h = absurd (both_ways false refl h)

beside_is_known : (a b : Geometry) → IsValid a → IsValid b → Holds (known_beside (shape_of a) (shape_of b)) (matrix_of a b)
beside_is_known a b v w = by_shapes (shape_of a) refl (shape_of b) refl
  where
    m : IsMatrix a b (matrix_of a b)
    m = (matrices_are_over_the_plane a b).computed

    wide : IsAtMost dims.Two (dimension_by_samples (all_pieces a b) (both (in_exterior a) (in_exterior b)))
    wide = wide-entry (both (in_exterior a) (in_exterior b)) _ m.1.1.1.1.1.1.1.1.0 (outside-both a b v w)

    by_shapes : (s : Shape) → shape_of a ≡ s → (t : Shape) → shape_of b ≡ t → Holds (known_beside s t) (matrix_of a b)
    by_shapes Points e Lines f =
        at-ei dims.One _ _ _ _ _ _ _ _ _ (long-entry (both (in_exterior a) (in_interior b)) _ m.1.1.1.1.1.1.0 (line-off (all_pieces a b) a b (first_has a b) (second_has a b) v w e f).off_first) wide
    by_shapes Lines e Points f =
        at-ie dims.One _ _ _ _ _ _ _ _ _ (long-entry (both (in_interior a) (in_exterior b)) _ m.1.1.0 (line-off (all_pieces a b) b a (second_has a b) (first_has a b) w v f e).off_second) wide
    by_shapes Lines e Lines f = at-ee _ _ _ _ _ _ _ _ _ wide
    by_shapes Lines e Areas f = at-ei dims.Two _ _ _ _ _ _ _ _ _ (wide-entry (both (in_exterior a) (in_interior b)) _ m.1.1.1.1.1.1.0 (area-outside a b e f v w)) wide
    by_shapes Areas e Lines f = at-ie dims.Two _ _ _ _ _ _ _ _ _ (wide-entry (both (in_interior a) (in_exterior b)) _ m.1.1.0 (area-off-line a b e f v w)) wide
    by_shapes Areas e Areas f = nothing-holds a b
    by_shapes Areas e Points f = nothing-holds a b
    by_shapes Points e Areas f = nothing-holds a b
    by_shapes Points e Points f = nothing-holds a b

-- ---- as it is called
abbrev of-rest : ℕ × Dim → Known
of-rest e = known_of_rest e.0 e.1

of-entry : (s t : Shape) (e : ℕ × Dim) → ◌≡◌ {A = Option (ℕ × Dim)} (Some e) (entry_beside s t) → of-rest e ≡ known_beside s t
of-entry Points Lines e h = ap (λ o. of-rest (unwrap_or o (0, dims.One))) h
of-entry Lines Points e h = ap (λ o. of-rest (unwrap_or o (0, dims.One))) h
of-entry Lines Lines e h = ap (λ o. of-rest (unwrap_or o (0, dims.One))) h
of-entry Lines Areas e h = ap (λ o. of-rest (unwrap_or o (0, dims.One))) h
of-entry Areas Lines e h = ap (λ o. of-rest (unwrap_or o (0, dims.One))) h
of-entry Areas Areas e h = absurd cc
of-entry Areas Points e h = absurd cc
of-entry Points Areas e h = absurd cc
of-entry Points Points e h = absurd cc

pub known-beside : (a b f g : Geometry) (s t : Shape) (e : ℕ × Dim) (known : Known) → f ≡ a → g ≡ b → s ≡ shape_of f → t ≡ shape_of g → ◌≡◌ {A = Option (ℕ × Dim)} (Some e) (entry_beside s t)
    → known ≡ known_of_rest e.0 e.1 → known ≡ known_beside (shape_of a) (shape_of b)
known-beside a b f g s t e known is_f is_g of_s of_t h same =
    same ∙ of-entry s t e h ∙ ap (λ x. known_beside x t) (of_s ∙ ap shape_of is_f) ∙ ap (known_beside (shape_of a)) (of_t ∙ ap shape_of is_g)

pub beside-holds : (a b : Geometry) (known : Known) → IsValid a → IsValid b → known ≡ known_beside (shape_of a) (shape_of b) → Holds known (matrix_of a b)
beside-holds a b known v w is = subst (λ (k : Known). Holds k (matrix_of a b)) (sym is) (beside_is_known a b v w)

-- something is given exactly where one of the two is lines
has-entry : (s t : Shape) (e : ℕ × Dim) → ◌≡◌ {A = Option (ℕ × Dim)} (Some e) (entry_beside s t) → true ≡ has_lines s t
has-entry Points Lines e h = refl
has-entry Lines Points e h = refl
has-entry Lines Lines e h = refl
has-entry Lines Areas e h = refl
has-entry Areas Lines e h = refl
has-entry Areas Areas e h = absurd cc
has-entry Areas Points e h = absurd cc
has-entry Points Areas e h = absurd cc
has-entry Points Points e h = absurd cc

pub beside-answers : (a b f g : Geometry) (s t : Shape) (e : ℕ × Dim) → f ≡ a → g ≡ b → s ≡ shape_of f → t ≡ shape_of g → ◌≡◌ {A = Option (ℕ × Dim)} (Some e) (entry_beside s t)
    → true ≡ has_lines (shape_of a) (shape_of b)
beside-answers a b f g s t e is_f is_g of_s of_t h = has-entry s t e h ∙ ap (λ x. has_lines x t) (of_s ∙ ap shape_of is_f) ∙ ap (has_lines (shape_of a)) (of_t ∙ ap shape_of is_g)
