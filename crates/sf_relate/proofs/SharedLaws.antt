-- Contact is a shared point; a Point has contact just where it is in the other geometry.
use Rattle.std.proofs.Common.{◌≡◌, refl, ap, ◌∙◌, lit<, Bool, true, false, ◌||◌, not, List, [], ◌∷◌, inl, inr}
use Rattle.std.specs.Prelude.{◌↔◌, IsTrue}
use Rattle.std.proofs.lemmas.Bool.{and_from, and_parts, both_ways, or_cases, or_left, or_right}
use Rattle.sf_grid.specs.Plane.{IsPoint, IsSamePoint, Point as PlanePoint, grid_point, same_point}
use Rattle.sf_grid.proofs.CallerLemmas.{same_point_is_equivalence, same_tests}
use Rattle.sf_strips.specs.declared.piece.Piece.{Piece}
use Rattle.sf_cells.specs.declared.cell.Cell.{Cell}
use Rattle.sf_geometry.specs.declared.geometry.Geometry.{Geometry}
use Rattle.sf_geometry.specs.declared.geometry.Geometry.TheVariants.{Point}
use Rattle.sf_geometry.specs.PointSets.{in_boundary, in_exterior, in_interior}
use Rattle.sf_plane.proofs.CombineLaws.{or_union}
use Rattle.sf_plane.proofs.SampleCellLaws.{same_cell}
use Rattle.sf_plane.proofs.UnionLaws.{point_in_segment, segment_in_triangle}
use Rattle.sf_plane.specs.declared.dim.Dim.{Dim}
use Rattle.sf_plane.specs.declared.dim.Dim.TheVariants as dims
use Rattle.sf_plane.specs.Dimension.{HasDimension, HasPoint, PointSet}
use Rattle.sf_plane.specs.Unions.{AreInOneCell, dimension_by_samples}
use Rattle.sf_known.specs.declared.predicate.Predicate.TheVariants.{Disjoint, Intersects}
use Rattle.sf_relate.specs.AllPieces.{all_pieces}
use Rattle.sf_relate.specs.Contact.{ContactIsShared, PointHasContact, SharePoint, is_in}
use Rattle.sf_relate.specs.Matrices.{both, matrix_of}
use Rattle.sf_known.specs.Patterns.{has_contact, is_filled}
use Rattle.sf_known.specs.Predicates.{holds}
use Rattle.sf_relate.proofs.SetLaws.{boundary_union, interior_union, matrices_are_over_the_plane, second_has}

-- an entry is filled just where its set has a point
pub filled : (set : PointSet) (d : Dim) → HasDimension set d → is_filled d ≡ true → HasPoint set
filled set dims.Nothing h f = absurd (both_ways false refl f)
filled set dims.Zero h f = h.0
filled set dims.One h f = point_in_segment set h.0
filled set dims.Two h f = point_in_segment set (segment_in_triangle set h)

pub fills : (set : PointSet) (d : Dim) → HasDimension set d → HasPoint set → is_filled d ≡ true
fills set dims.Nothing h p = absurd (h p)
fills set dims.Zero h p = refl
fills set dims.One h p = refl
fills set dims.Two h p = refl

-- a point of both sets is one that both geometries have
of_both : (a b : Geometry) (s t : PointSet) → ((q : PlanePoint) → s q ≡ true → is_in a q ≡ true) → ((q : PlanePoint) → t q ≡ true → is_in b q ≡ true) → HasPoint (both s t) → SharePoint a b
of_both a b s t f g h =
    let parts = and_parts (s h.point) (t h.point) h.has in
    record { q = h.point; is_point = h.is_point; in_first = f h.point parts.0; in_second = g h.point parts.1 }

contact_from : (a b : Geometry) (ii ib bi bb : Dim) →
    HasDimension (both (in_interior a) (in_interior b)) ii → HasDimension (both (in_interior a) (in_boundary b)) ib →
    HasDimension (both (in_boundary a) (in_interior b)) bi → HasDimension (both (in_boundary a) (in_boundary b)) bb →
    IsTrue (is_filled ii || (is_filled ib || (is_filled bi || (is_filled bb || false)))) ↔ SharePoint a b
contact_from a b ii ib bi bb hii hib hbi hbb = (there, back)
  where
    ia : (q : PlanePoint) → in_interior a q ≡ true → is_in a q ≡ true
    ia q h = or_left (in_interior a q) (in_boundary a q) h

    ba : (q : PlanePoint) → in_boundary a q ≡ true → is_in a q ≡ true
    ba q h = or_right (in_interior a q) (in_boundary a q) h

    jb : (q : PlanePoint) → in_interior b q ≡ true → is_in b q ≡ true
    jb q h = or_left (in_interior b q) (in_boundary b q) h

    bb' : (q : PlanePoint) → in_boundary b q ≡ true → is_in b q ≡ true
    bb' q h = or_right (in_interior b q) (in_boundary b q) h

    there : (is_filled ii || (is_filled ib || (is_filled bi || (is_filled bb || false)))) ≡ true → SharePoint a b
    there h =
        elim (or_cases (is_filled ii) (is_filled ib || (is_filled bi || (is_filled bb || false))) h) [
          | inl f ↦ of_both a b (in_interior a) (in_interior b) ia jb (filled _ ii hii f)
          | inr g ↦ elim (or_cases (is_filled ib) (is_filled bi || (is_filled bb || false)) g) [
            | inl f ↦ of_both a b (in_interior a) (in_boundary b) ia bb' (filled _ ib hib f)
            | inr k ↦ elim (or_cases (is_filled bi) (is_filled bb || false) k) [
              | inl f ↦ of_both a b (in_boundary a) (in_interior b) ba jb (filled _ bi hbi f)
              | inr l ↦ elim (or_cases (is_filled bb) false l) [
                | inl f ↦ of_both a b (in_boundary a) (in_boundary b) ba bb' (filled _ bb hbb f)
                | inr n ↦ absurd (both_ways false refl n)
              ]
            ]
          ]
        ]

    back : SharePoint a b → (is_filled ii || (is_filled ib || (is_filled bi || (is_filled bb || false)))) ≡ true
    back s =
        elim (or_cases (in_interior a s.q) (in_boundary a s.q) s.in_first) [
          | inl f ↦ elim (or_cases (in_interior b s.q) (in_boundary b s.q) s.in_second) [
            | inl g ↦ or_left (is_filled ii) _ (fills _ ii hii (record { point = s.q; is_point = s.is_point; has = and_from (in_interior a s.q) (in_interior b s.q) f g }))
            | inr g ↦ or_right (is_filled ii) _ (or_left (is_filled ib) _ (fills _ ib hib (record { point = s.q; is_point = s.is_point; has = and_from (in_interior a s.q) (in_boundary b s.q) f g })))
          ]
          | inr f ↦ elim (or_cases (in_interior b s.q) (in_boundary b s.q) s.in_second) [
            | inl g ↦ or_right (is_filled ii) _ (or_right (is_filled ib) _ (or_left (is_filled bi) _ (fills _ bi hbi (record { point = s.q; is_point = s.is_point; has = and_from (in_boundary a s.q) (in_interior b s.q) f g }))))
            | inr g ↦ or_right (is_filled ii) _ (or_right (is_filled ib) _ (or_right (is_filled bi) _ (or_left (is_filled bb) _ (fills _ bb hbb (record { point = s.q; is_point = s.is_point; has = and_from (in_boundary a s.q) (in_boundary b s.q) f g })))))
          ]
        ]

intersects-contact : (d e ii ib ie bi bb be ei eb ee : Dim) →
    holds Intersects d e (ii ∷ ib ∷ ie ∷ bi ∷ bb ∷ be ∷ ei ∷ eb ∷ ee ∷ []) ≡ has_contact (ii ∷ ib ∷ ie ∷ bi ∷ bb ∷ be ∷ ei ∷ eb ∷ ee ∷ [])
intersects-contact d e dims.Zero ib ie bi bb be ei eb ee = refl
intersects-contact d e dims.One ib ie bi bb be ei eb ee = refl
intersects-contact d e dims.Two ib ie bi bb be ei eb ee = refl
intersects-contact d e dims.Nothing dims.Zero ie bi bb be ei eb ee = refl
intersects-contact d e dims.Nothing dims.One ie bi bb be ei eb ee = refl
intersects-contact d e dims.Nothing dims.Two ie bi bb be ei eb ee = refl
intersects-contact d e dims.Nothing dims.Nothing ie dims.Zero bb be ei eb ee = refl
intersects-contact d e dims.Nothing dims.Nothing ie dims.One bb be ei eb ee = refl
intersects-contact d e dims.Nothing dims.Nothing ie dims.Two bb be ei eb ee = refl
intersects-contact d e dims.Nothing dims.Nothing ie dims.Nothing dims.Zero be ei eb ee = refl
intersects-contact d e dims.Nothing dims.Nothing ie dims.Nothing dims.One be ei eb ee = refl
intersects-contact d e dims.Nothing dims.Nothing ie dims.Nothing dims.Two be ei eb ee = refl
intersects-contact d e dims.Nothing dims.Nothing ie dims.Nothing dims.Nothing be ei eb ee = refl

-- a test by what its negation is
negated : (b c : Bool) → not b ≡ c → b ≡ not c
negated true c h = ap not h
negated false c h = ap not h

pub contact_is_shared : (a b : Geometry) → ContactIsShared a b
contact_is_shared a b =
    let m = (matrices_are_over_the_plane a b).computed in
    let dim = λ (s t : PointSet). dimension_by_samples (all_pieces a b) (both s t) in
    let intersects : (d e : Dim) → holds Intersects d e (matrix_of a b) ≡ has_contact (matrix_of a b) = λ d e.
    intersects-contact d e (dim (in_interior a) (in_interior b)) (dim (in_interior a) (in_boundary b)) (dim (in_interior a) (in_exterior b))
    (dim (in_boundary a) (in_interior b)) (dim (in_boundary a) (in_boundary b)) (dim (in_boundary a) (in_exterior b))
    (dim (in_exterior a) (in_interior b)) (dim (in_exterior a) (in_boundary b)) (dim (in_exterior a) (in_exterior b)) in
    record {
      shared =
          contact_from a b (dim (in_interior a) (in_interior b)) (dim (in_interior a) (in_boundary b)) (dim (in_boundary a) (in_interior b)) (dim (in_boundary a) (in_boundary b))
          m.0 m.1.0 m.1.1.1.0 m.1.1.1.1.0;
      intersects = intersects;
      disjoint = λ d e. negated (holds Disjoint d e (matrix_of a b)) (has_contact (matrix_of a b)) (intersects d e);
    }

-- one point, however it is written, is in one cell
pub one_cell : (all : List Piece) (p q : PlanePoint) → IsPoint p → IsPoint q → IsSamePoint p q → AreInOneCell all p q
one_cell all p q i j s =
    let e = same_cell all p q i j s in
    record {
      alike = record { on = ap (λ (c : Cell). c.on) e; above = ap (λ (c : Cell). c.above) e };
      dim = ap (λ (c : Cell). c.dim) e;
      same = λ _. s;
    }

is_in-same : (b : Geometry) (p q : PlanePoint) → IsPoint p → IsPoint q → IsSamePoint p q → is_in b p ≡ is_in b q
is_in-same b p q i j s =
    let all = all_pieces b b in
    or_union all (in_interior b) (in_boundary b) (interior_union all b (second_has b b)) (boundary_union all b (second_has b b)) p q i j (one_cell all p q i j s)

pub point_has_contact : PointHasContact
point_has_contact p b = same_tests _ _ there back
  where
    grid : IsPoint (grid_point p)
    grid = record { positive = lit< tt }

    there : has_contact (matrix_of (Point p) b) ≡ true → is_in b (grid_point p) ≡ true
    there h =
        let s = (contact_is_shared (Point p) b).shared.0 h in
        elim (or_cases (same_point (grid_point p) s.q) false s.in_first) [
          | inl e ↦ is_in-same b (grid_point p) s.q grid s.is_point e ∙ s.in_second
          | inr n ↦ absurd (both_ways false refl n)
        ]

    back : is_in b (grid_point p) ≡ true → has_contact (matrix_of (Point p) b) ≡ true
    back h =
        (contact_is_shared (Point p) b).shared.1
        (record {
          q = grid_point p;
          is_point = grid;
          in_first = or_left (same_point (grid_point p) (grid_point p)) false (same_point_is_equivalence.reflexive (grid_point p));
          in_second = h;
        })
