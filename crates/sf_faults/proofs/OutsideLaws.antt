-- The edges of a hole, and the hole, against its shell.
use Rattle.std.proofs.Common.{◌≡◌, refl, ap, sym, ◌∙◌, subst, ℕ, ◌<◌, ◌≤◌, ◌+◌, List, [], ◌∷◌, length, map, take, slice_index_or, inl, inr}
use Rattle.std.specs.Prelude.{Option, Some, None}
use Rattle.std.specs.List.{AllByRecursion, flat_map, zip}
use Rattle.std.proofs.lemmas.Bool.{and_from, and_parts, or_left}
use Rattle.std.proofs.lemmas.List.{get_or-map, length-map}
use Rattle.sf_grid.specs.Plane.{Coordinates}
use Rattle.sf_grid.specs.Edge.{Edge, on_edge}
use Rattle.sf_geometry.specs.Lists.{edges_of}
use Rattle.sf_geometry.specs.PointSets.{in_ring, on_line, within_ring}
use Rattle.sf_plane.proofs.PlaceLaws.{IsIn}
use Rattle.sf_valid_rules.specs.Conditions.{Applies, AtPoint}
use Rattle.sf_valid_rules.proofs.MemberLaws.{each-to_map, one-any}
use Rattle.sf_faults.specs.declared.place.Place.TheVariants.{Hole}
use Rattle.sf_faults.specs.declared.place.Spot.{Spot}
use Rattle.sf_faults.specs.declared.written_edge.WrittenEdge.{WrittenEdge}
use Rattle.sf_faults.specs.Candidates.{Candidate, edge_outside, hole_outside, is_edge_outside, is_hole_outside}
use Rattle.sf_faults.specs.Orders.{edge_numbers, written_edges}
use Rattle.sf_faults.specs.Places.{IsFirstPlace, NoneIsAtFault}
use Rattle.sf_faults.specs.Written.{IsFirstEdge, outside_of, written}
use Rattle.sf_faults.proofs.PlaceLaws.{first-alone, first-here, first-later, first-map, first-member, none-all, none-alone, none-append, none-map, none-member, single}

-- an edge that is read
pub written-at : (es : List WrittenEdge) (ps : List Coordinates) (i : ℕ) (e : WrittenEdge) → map written es ≡ written_edges ps → i < length es → e ≡ slice_index_or es i e →
    written e ≡ slice_index_or (written_edges ps) i (written e)
written-at es ps i e w h r =
    ap written r ∙ sym (get_or-map written es i e (written e) h) ∙ ap (λ ws. slice_index_or ws i (written e)) w

pub written-within : (es : List WrittenEdge) (ps : List Coordinates) (i : ℕ) → map written es ≡ written_edges ps → i < length es → i < length (written_edges ps)
written-within es ps i w h = subst (λ n. i < n) (sym (length-map es written) ∙ ap length w) h

pub written-end : (es : List WrittenEdge) (ps : List Coordinates) (i : ℕ) → map written es ≡ written_edges ps → length es ≤ i → length (written_edges ps) ≤ i
written-end es ps i w h = subst (λ n. n ≤ i) (sym (length-map es written) ∙ ap length w) h

-- none of the first edges has a point outside
abbrev pub NoEdgeOutside : List Coordinates → List Coordinates → ℕ → Type 0
NoEdgeOutside shell ps i = (hole : Spot) → NoneIsAtFault (flat_map (single (edge_outside shell hole)) (take i (written_edges ps)))

pub edge-found : (shell ps : List Coordinates) (es : List WrittenEdge) (i : ℕ) (e : WrittenEdge) → map written es ≡ written_edges ps → i < length es → e ≡ slice_index_or es i e →
    NoEdgeOutside shell ps i → Applies (AtPoint (is_edge_outside shell (written e).1)) → IsFirstEdge shell ps (Some e.number)
edge-found shell ps es i e w h r n a =
    λ hole. first-map (edge_outside shell hole) (written_edges ps) (Hole hole (Some e.number))
    (first-member (single (edge_outside shell hole)) (written_edges ps) i (written e) (Hole hole (Some e.number)) (written-within es ps i w h) (written-at es ps i e w h r) (n hole)
    (first-alone (edge_outside shell hole (written e)) (Hole hole (Some e.number)) a refl))

pub edge-more : (shell ps : List Coordinates) (es : List WrittenEdge) (i : ℕ) (e : WrittenEdge) → map written es ≡ written_edges ps → i < length es → e ≡ slice_index_or es i e →
    NoEdgeOutside shell ps i → ¬ (Applies (AtPoint (is_edge_outside shell (written e).1))) → NoEdgeOutside shell ps (i + 1)
edge-more shell ps es i e w h r n a =
    λ hole. none-member (single (edge_outside shell hole)) (written_edges ps) i (written e) (written-within es ps i w h) (written-at es ps i e w h r) (n hole)
    (none-alone (edge_outside shell hole (written e)) a)

pub edge-end : (shell ps : List Coordinates) (es : List WrittenEdge) (i : ℕ) → map written es ≡ written_edges ps → length es ≤ i → NoEdgeOutside shell ps i → IsFirstEdge shell ps None
edge-end shell ps es i w h n =
    λ hole. none-map (edge_outside shell hole) (written_edges ps) (none-all (single (edge_outside shell hole)) (written_edges ps) i (written-end es ps i w h) (n hole))

-- ---- a hole
-- where no point of it is outside, none of its edges has one
each-zip_in : (ns : List ℕ) (es : List Edge) (P : Edge → Type 0) → ((e : Edge) → IsIn es e → P e) → AllByRecursion (λ (e : ℕ × Edge). P e.1) (zip ns es)
each-zip_in [] es P f = tt
each-zip_in (n ∷ ns) [] P f = tt
each-zip_in (n ∷ ns) (e ∷ es) P f = (f e (inl refl), each-zip_in ns es P (λ x i. f x (inr i)))

edge-in_hole : (shell ps : List Coordinates) (e : Edge) → IsIn (edges_of ps) e → Applies (AtPoint (is_edge_outside shell e)) → Applies (AtPoint (is_hole_outside shell ps))
edge-in_hole shell ps e i a =
    let parts = and_parts (on_edge e a.0) _ a.2 in
    (a.0, a.1, and_from (within_ring ps a.0) _ (or_left (on_line ps a.0) (in_ring ps a.0) (one-any (λ f. on_edge f a.0) (edges_of ps) e i parts.0)) parts.1)

pub hole-inside : (shell : List Coordinates) (hole : Spot) (ps : List Coordinates) → ¬ (Applies (AtPoint (is_hole_outside shell ps))) → NoneIsAtFault (outside_of shell hole ps)
hole-inside shell hole ps n =
    none-append (map (edge_outside shell hole) (written_edges ps)) (hole_outside shell hole ps ∷ [])
    (each-to_map (λ (c : Candidate). ¬ (Applies c.condition)) (edge_outside shell hole) (written_edges ps)
    (each-zip_in (edge_numbers ps) (edges_of ps) (λ e. ¬ (Applies (AtPoint (is_edge_outside shell e)))) (λ e i a. n (edge-in_hole shell ps e i a))))
    (none-alone (hole_outside shell hole ps) n)

pub hole-found : (shell : List Coordinates) (hole : Spot) (ps : List Coordinates) (edge : Option ℕ) → Applies (AtPoint (is_hole_outside shell ps)) → IsFirstEdge shell ps edge →
    IsFirstPlace (outside_of shell hole ps) (Hole hole edge)
hole-found shell hole ps None a f =
    first-later (map (edge_outside shell hole) (written_edges ps)) (hole_outside shell hole ps ∷ []) (Hole hole None) (f hole) (first-alone (hole_outside shell hole ps) (Hole hole None) a refl)
hole-found shell hole ps (Some number) a f = first-here (map (edge_outside shell hole) (written_edges ps)) (hole_outside shell hole ps ∷ []) (Hole hole (Some number)) (f hole)
