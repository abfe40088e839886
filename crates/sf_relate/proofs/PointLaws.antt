-- Which entries of a Point's matrix are filled, and what its place in the other geometry says of it.
use Rattle.std.proofs.Common.{◌≡◌, refl, ap, sym, ◌∙◌, subst, Bool, true, false, ◌&&◌, not, List, [], ◌∷◌}
use Rattle.std.specs.Prelude.{IsTrue}
use Rattle.std.proofs.lemmas.Bool.{and_from, and_parts, both_ways, false_from_ne_true}
use Rattle.sf_grid.specs.Plane.{Coordinates, grid_point, same_point}
use Rattle.sf_grid.proofs.CallerLemmas.{same_point_is_equivalence, same_tests}
use Rattle.sf_strips.specs.declared.piece.Piece.{Piece}
use Rattle.sf_geometry.specs.declared.geometry.Geometry.{Geometry}
use Rattle.sf_geometry.specs.declared.geometry.Geometry.TheVariants.{Point}
use Rattle.sf_geometry.specs.PointSets.{in_boundary, in_exterior, in_interior}
use Rattle.sf_plane.specs.declared.dim.Dim.{Dim}
use Rattle.sf_plane.specs.declared.dim.Dim.TheVariants as dims
use Rattle.sf_plane.specs.Dimension.{HasDimension, PointSet}
use Rattle.sf_plane.specs.Unions.{IsUnionOfCells, dimension_by_samples}
use Rattle.sf_strands.proofs.EndLaws.{grid-IsPoint}
use Rattle.sf_relate.specs.declared.place.Place.{Place}
use Rattle.sf_relate.specs.declared.place.Place.TheVariants.{Interior, Boundary, Exterior}
use Rattle.sf_relate.specs.AllPieces.{all_pieces}
use Rattle.sf_relate.specs.Contact.{PointFillsItsPlace}
use Rattle.sf_relate.specs.Matrices.{both, matrix_of}
use Rattle.sf_known.specs.Patterns.{has_contact, is_filled}
use Rattle.sf_relate.specs.Places.{is_place}
use Rattle.sf_relate.specs.Most.{boundary_most, most_entries}
use Rattle.sf_relate.specs.Placed.{PlacesAreKnown, known_of_place}
use Rattle.sf_relate.proofs.MostLaws.{entries-at_most}
use Rattle.sf_known.proofs.OrderLaws.{at-most-two, through}
use Rattle.sf_known.specs.Entries.{lesser_dim}
use Rattle.sf_known.specs.Known.{AreAtMost, Holds, IsAtMost}
use Rattle.sf_interiors.specs.Dimensions.{interior_dim}
use Rattle.sf_known.proofs.ContactLaws.{empty-entry}
use Rattle.sf_relate.proofs.SetLaws.{boundary_union, exterior_union, interior_union, matrices_are_over_the_plane, second_has}
use Rattle.sf_relate.proofs.SharedLaws.{filled, fills, one_cell}

-- the one point that a Point has is in a union of cells, or no point of both is
alone : (all : List Piece) (p : Coordinates) (b : Geometry) (set : PointSet) (d : Dim) → IsUnionOfCells all set →
    HasDimension (both (in_interior (Point p)) set) d → is_filled d ≡ set (grid_point p)
alone all p b set d u h = same_tests (is_filled d) (set (grid_point p)) there back
  where
    there : is_filled d ≡ true → set (grid_point p) ≡ true
    there f =
        let found = filled (both (in_interior (Point p)) set) d h f in
        let parts = and_parts (same_point (grid_point p) found.point) (set found.point) found.has in
        u (grid_point p) found.point (grid-IsPoint p) found.is_point (one_cell all (grid_point p) found.point (grid-IsPoint p) found.is_point parts.0) ∙ parts.1

    back : set (grid_point p) ≡ true → is_filled d ≡ true
    back t =
        fills (both (in_interior (Point p)) set) d h
        (record {
          point = grid_point p;
          is_point = grid-IsPoint p;
          has = and_from (same_point (grid_point p) (grid_point p)) (set (grid_point p)) (same_point_is_equivalence.reflexive (grid_point p)) t;
        })

-- a Point has no boundary
never : (p : Coordinates) (set : PointSet) (d : Dim) → HasDimension (both (in_boundary (Point p)) set) d → is_filled d ≡ false
never p set d h = false_from_ne_true (is_filled d) (λ f. both_ways false refl ((filled (both (in_boundary (Point p)) set) d h f).has))

six : (a b c d e f u v w x y z : Bool) → a ≡ u → b ≡ v → c ≡ w → d ≡ x → e ≡ y → f ≡ z → a ∷ b ∷ c ∷ d ∷ e ∷ f ∷ [] ≡ u ∷ v ∷ w ∷ x ∷ y ∷ z ∷ []
six a b c d e f u v w x y z h1 h2 h3 h4 h5 h6 = cc

-- the first two rows of a Point's matrix
record Rows (p : Coordinates) (b : Geometry) (ii ib ie bi bb be : Dim) : Type 0 where
  inside : is_filled ii ≡ in_interior b (grid_point p)
  edge : is_filled ib ≡ in_boundary b (grid_point p)
  outside : is_filled ie ≡ in_exterior b (grid_point p)
  no_inside : is_filled bi ≡ false
  no_edge : is_filled bb ≡ false
  no_outside : is_filled be ≡ false

-- an entry
abbrev entry : Coordinates → Geometry → PointSet → PointSet → Dim
entry p b s t = dimension_by_samples (all_pieces (Point p) b) (both s t)

rows : (p : Coordinates) (b : Geometry) →
    Rows p b (entry p b (in_interior (Point p)) (in_interior b)) (entry p b (in_interior (Point p)) (in_boundary b)) (entry p b (in_interior (Point p)) (in_exterior b))
    (entry p b (in_boundary (Point p)) (in_interior b)) (entry p b (in_boundary (Point p)) (in_boundary b)) (entry p b (in_boundary (Point p)) (in_exterior b))
rows p b =
    let m = (matrices_are_over_the_plane (Point p) b).computed in
    let all = all_pieces (Point p) b in
    let has = second_has (Point p) b in
    record {
      inside = alone all p b (in_interior b) _ (interior_union all b has) m.0;
      edge = alone all p b (in_boundary b) _ (boundary_union all b has) m.1.0;
      outside = alone all p b (in_exterior b) _ (exterior_union all b has) m.1.1.0;
      no_inside = never p (in_interior b) _ m.1.1.1.0;
      no_edge = never p (in_boundary b) _ m.1.1.1.1.0;
      no_outside = never p (in_exterior b) _ m.1.1.1.1.1.0;
    }

pub point_fills_its_place : PointFillsItsPlace
point_fills_its_place p b =
    let r = rows p b in
    six _ _ _ _ _ _ _ _ _ _ _ _ r.inside r.edge r.outside r.no_inside r.no_edge r.no_outside

-- ---- what is known by its place
-- an entry of dimension 0 at most that is filled, and one that is not
at-least-zero : (d : Dim) → is_filled d ≡ true → IsAtMost dims.Zero d
at-least-zero dims.Nothing h = absurd (both_ways false refl h)
at-least-zero dims.Zero h = refl
at-least-zero dims.One h = refl
at-least-zero dims.Two h = refl

at-most-nothing : (d : Dim) → is_filled d ≡ false → IsAtMost d dims.Nothing
at-most-nothing d h = subst (λ e. IsAtMost e dims.Nothing) (sym (empty-entry d h)) refl

lesser-zero : (d e : Dim) → IsAtMost d (lesser_dim dims.Zero e) → IsAtMost d dims.Zero
lesser-zero d dims.Nothing h = through d dims.Nothing dims.Zero h refl
lesser-zero d dims.Zero h = h
lesser-zero d dims.One h = h
lesser-zero d dims.Two h = h

no-share : (m : List Dim) → IsTrue false → IsTrue (has_contact m)
no-share m h = absurd (both_ways false refl h)

pub places_are_known : PlacesAreKnown
places_are_known p b place v w is = by_place place (r.inside ∙ is.interior) (r.edge ∙ is.boundary) outside
  where
    r : Rows p b (entry p b (in_interior (Point p)) (in_interior b)) (entry p b (in_interior (Point p)) (in_boundary b)) (entry p b (in_interior (Point p)) (in_exterior b))
        (entry p b (in_boundary (Point p)) (in_interior b)) (entry p b (in_boundary (Point p)) (in_boundary b)) (entry p b (in_boundary (Point p)) (in_exterior b))
    r = rows p b

    most : AreAtMost (matrix_of (Point p) b) (most_entries (Point p) b)
    most = entries-at_most (Point p) b v w

    outside : is_filled (entry p b (in_interior (Point p)) (in_exterior b)) ≡ (not (is_place Interior place) && not (is_place Boundary place))
    outside = r.outside ∙ ap (λ t. not t && not (in_boundary b (grid_point p))) is.interior ∙ ap (λ t. not (is_place Interior place) && not t) is.boundary

    third : AreAtMost (entry p b (in_exterior (Point p)) (in_interior b) ∷ entry p b (in_exterior (Point p)) (in_boundary b) ∷ entry p b (in_exterior (Point p)) (in_exterior b) ∷ []) (dims.Two ∷ dims.Two ∷ dims.Two ∷ [])
    third = (at-most-two _, (at-most-two _, (at-most-two _, refl)))

    by_place : (place : Place) → is_filled (entry p b (in_interior (Point p)) (in_interior b)) ≡ is_place Interior place
        → is_filled (entry p b (in_interior (Point p)) (in_boundary b)) ≡ is_place Boundary place
        → is_filled (entry p b (in_interior (Point p)) (in_exterior b)) ≡ (not (is_place Interior place) && not (is_place Boundary place))
        → Holds (known_of_place place) (matrix_of (Point p) b)
    by_place Interior i e o =
        record {
          least = (at-least-zero _ i, (refl, (refl, (refl, (refl, (refl, (refl, (refl, (refl, refl)))))))));
          most = (lesser-zero _ (interior_dim b) most.0, (at-most-nothing _ e, (at-most-nothing _ o, (at-most-nothing _ r.no_inside, (at-most-nothing _ r.no_edge, (at-most-nothing _ r.no_outside, third))))));
          contact = no-share (matrix_of (Point p) b);
        }
    by_place Boundary i e o =
        record {
          least = (refl, (at-least-zero _ e, (refl, (refl, (refl, (refl, (refl, (refl, (refl, refl)))))))));
          most = (at-most-nothing _ i, (lesser-zero _ (boundary_most b) most.1.0, (at-most-nothing _ o, (at-most-nothing _ r.no_inside, (at-most-nothing _ r.no_edge, (at-most-nothing _ r.no_outside, third))))));
          contact = no-share (matrix_of (Point p) b);
        }
    by_place Exterior i e o =
        record {
          least = (refl, (refl, (at-least-zero _ o, (refl, (refl, (refl, (refl, (refl, (refl, refl)))))))));
          most = (at-most-nothing _ i, (at-most-nothing _ e, (most.1.1.0, (at-most-nothing _ r.no_inside, (at-most-nothing _ r.no_edge, (at-most-nothing _ r.no_outside, third))))));
          contact = no-share (matrix_of (Point p) b);
        }
