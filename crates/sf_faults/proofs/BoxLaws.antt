-- What the boxes of geometries and of rings tell: where two share no point, nothing that is in the one is in the other.
use Rattle.std.proofs.Common.{◌≡◌, refl, sym, ◌∙◌, subst, ℕ, Bool, true, false, ◌&&◌, ◌||◌, not, List, [], ◌∷◌, ◌++◌, map}
use Rattle.std.proofs.lemmas.List.{append-nil}
use Rattle.std.specs.Prelude.{None, Some}
use Rattle.std.specs.List.{AllByRecursion, fold, list_any, zip}
use Rattle.std.proofs.lemmas.Bool.{and_parts, both_ways, or_left, or_right}
use Rattle.sf_grid.specs.Plane.{Coordinates, IsPoint, Point}
use Rattle.sf_grid.specs.Edge.{Edge, on_edge}
use Rattle.sf_slabs.proofs.CallerLemmas.{each-map}
use Rattle.sf_geometry.specs.declared.geometry.Geometry.{Geometry}
use Rattle.sf_geometry.specs.declared.geometry.Geometry.TheVariants.{LineString}
use Rattle.sf_geometry.specs.declared.extent.Extent.{Extent}
use Rattle.sf_geometry.specs.Envelope.{envelope_of, extent_of, extents_meet, grown}
use Rattle.sf_geometry.proofs.ListLaws.{grown-all}
use Rattle.sf_geometry.specs.Lists.{edges_of}
use Rattle.sf_geometry.specs.Parts.{HasClosedRings}
use Rattle.sf_geometry.specs.PointSets.{in_boundary, in_interior, on_line}
use Rattle.sf_plane.proofs.BoxLaws.{common_point_meets}
use Rattle.sf_valid_rules.specs.Conditions.{Applies, AtPoint}
use Rattle.sf_valid_rules.specs.Validity.{IsValid}
use Rattle.sf_valid_rules.proofs.MemberLaws.{each-to_flat, each-to_map}
use Rattle.sf_validity.specs.Beside.{box_of_extent}
use Rattle.sf_relate.specs.Contact.{is_in}
use Rattle.sf_relate.proofs.EnvelopeLaws.{lies_in_box, valid-closed}
use Rattle.sf_faults.specs.declared.place.Spot.{Spot}
use Rattle.sf_faults.specs.Candidates.{Candidate, edges_between, edges_shared}
use Rattle.sf_faults.specs.Orders.{edge_numbers, written_edges}
use Rattle.sf_faults.specs.Places.{NoneIsAtFault}

-- a point that is in both is in the boxes of both
boxes-meet : (a b : Geometry) (p : Point) → HasClosedRings a → HasClosedRings b → IsPoint p → is_in a p ≡ true → is_in b p ≡ true → extents_meet (envelope_of a) (envelope_of b) ≡ true
boxes-meet a b p ca cb is in_a in_b =
    common_point_meets (box_of_extent (envelope_of a)) (box_of_extent (envelope_of b)) p is (lies_in_box a p ca is in_a) (lies_in_box b p cb is in_b)

pub apart-inside : (a b : Geometry) → IsValid a → IsValid b → extents_meet (envelope_of a) (envelope_of b) ≡ false → ¬ (Applies (AtPoint (λ p. in_interior a p && in_interior b p)))
apart-inside a b va vb apart (p, is, m) =
    let both = and_parts (in_interior a p) (in_interior b p) m in
    both_ways (extents_meet (envelope_of a) (envelope_of b)) apart
    (boxes-meet a b p (valid-closed a va) (valid-closed b vb) is (or_left (in_interior a p) (in_boundary a p) both.0) (or_left (in_interior b p) (in_boundary b p) both.1))

-- ---- rings
-- the box of the points of a ring, as it grows by each
some-same : (e f : Extent) → Some e ≡ Some f → e ≡ f
some-same e f h = cc

pub grown-is : (ps : List Coordinates) (e : Extent) → fold grown None ps ≡ Some e → e ≡ extent_of ps
grown-is [] e h = absurd cc
grown-is (p ∷ ps) e h = some-same e (extent_of (p ∷ ps)) (sym h ∙ grown-all p ps)

kept-or : (on end : Bool) → on ≡ true → ((on && not end) || end) ≡ true
kept-or true true h = refl
kept-or true false h = refl
kept-or false end h = absurd (both_ways false refl h)

rings-meet : (r s : List Coordinates) (p : Point) → IsPoint p → on_line r p ≡ true → on_line s p ≡ true → extents_meet (extent_of r) (extent_of s) ≡ true
rings-meet r s p is on_r on_s =
    subst (λ (x : List Coordinates). extents_meet (extent_of x) (extent_of s) ≡ true) (append-nil r)
    (subst (λ (y : List Coordinates). extents_meet (extent_of (r ++ [])) (extent_of y) ≡ true) (append-nil s)
    (boxes-meet (LineString r) (LineString s) p tt tt is (kept-or (on_line r p) (in_boundary (LineString r) p) on_r) (kept-or (on_line s p) (in_boundary (LineString s) p) on_s)))

-- what is on a numbered edge is on one of the edges
abbrev IsOf : List Edge → ℕ × Edge → Type 0
IsOf es e = (p : Point) → on_edge e.1 p ≡ true → list_any (λ f. on_edge f p) es ≡ true

each-of : (ns : List ℕ) (es : List Edge) → AllByRecursion (IsOf es) (zip ns es)
each-of [] es = tt
each-of (n ∷ ns) [] = tt
each-of (n ∷ ns) (f ∷ es) = (
  λ p on. or_left (on_edge f p) (list_any (λ g. on_edge g p) es) on,
  each-map (IsOf es) (IsOf (f ∷ es)) (zip ns es) (λ e h p on. or_right (on_edge f p) (list_any (λ g. on_edge g p) es) (h p on)) (each-of ns es),
)

-- rings whose boxes share no point have no edges that do
pub apart-rings : (first second : Spot) (r s : List Coordinates) → extents_meet (extent_of r) (extent_of s) ≡ false → NoneIsAtFault (edges_between (first, r) (second, s))
apart-rings first second r s apart =
    each-to_flat (λ (c : Candidate). ¬ (Applies c.condition)) (λ (f : ℕ × Edge). map (λ (e : ℕ × Edge). edges_shared first second e f) (written_edges r)) (written_edges s)
    (each-map (IsOf (edges_of s)) (λ (f : ℕ × Edge). NoneIsAtFault (map (λ (e : ℕ × Edge). edges_shared first second e f) (written_edges r))) (written_edges s)
    (λ f on_s.
    each-to_map (λ (c : Candidate). ¬ (Applies c.condition)) (λ (e : ℕ × Edge). edges_shared first second e f) (written_edges r)
    (each-map (IsOf (edges_of r)) (λ (e : ℕ × Edge). ¬ (Applies (edges_shared first second e f).condition)) (written_edges r)
    (λ e on_r a.
    let on = and_parts _ _ (and_parts _ _ (and_parts _ _ a.4).1).0 in
    both_ways (extents_meet (extent_of r) (extent_of s)) apart (rings-meet r s a.0 a.2 (on_r a.0 on.0) (on_s a.0 on.1)))
    (each-of (edge_numbers r) (edges_of r))))
    (each-of (edge_numbers s) (edges_of s)))
