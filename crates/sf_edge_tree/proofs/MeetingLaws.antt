-- The edges whose boxes share a point with a box, one list of points after another.
use Rattle.std.proofs.Common.{◌≡◌, refl, ap, sym, ◌∙◌, Bool, true, false, ◌&&◌, not, List, [], ◌∷◌, ◌++◌, map, filter}
use Rattle.std.specs.Prelude.{if◌then◌else◌}
use Rattle.std.specs.List.{flat_map}
use Rattle.std.proofs.lemmas.List.{append_assoc, map-append}
use Rattle.std.proofs.lemmas.List.Elements.{filter-append}
use Rattle.sf_grid.specs.Edge.{Edge as Line, edge_between}
use Rattle.sf_grid.specs.Plane.{Coordinates}
use Rattle.sf_geometry.specs.declared.extent.Extent.{Extent}
use Rattle.sf_geometry.specs.Envelope.{extents_meet}
use Rattle.sf_geometry.specs.Lists.{edges_of as edges_of_list, is_same}
use Rattle.sf_geometry.proofs.ListLaws.{edges-step}
use Rattle.sf_edge_tree.specs.Boxes.{extent_of_edge}
use Rattle.sf_edge_tree.specs.Meeting.{ends_meeting, ends_of_edge}

-- ---- of several lists
pub meeting-append : (box : Extent) (es fs : List Line) → ends_meeting box (es ++ fs) ≡ ends_meeting box es ++ ends_meeting box fs
meeting-append box es fs =
    ap (filter (λ pair. extents_meet (extent_of_edge pair) box)) (map-append ends_of_edge es fs)
    ∙ filter-append (λ pair. extents_meet (extent_of_edge pair) box) (map ends_of_edge es) (map ends_of_edge fs)

pub meeting-flat : {X : Type 0} (box : Extent) (f : X → List Line) (xs : List X) → flat_map (λ x. ends_meeting box (f x)) xs ≡ ends_meeting box (flat_map f xs)
meeting-flat box f [] = refl
meeting-flat box f (x ∷ xs) = ap (λ ps. ends_meeting box (f x) ++ ps) (meeting-flat box f xs) ∙ sym (meeting-append box (f x) (flat_map f xs))

-- ---- of what is left of a list, behind those that were found, as its first point is passed
abbrev goes : Extent → Coordinates → Coordinates → Bool
goes box p q = extents_meet (extent_of_edge (p, q)) box && not (is_same p q)

meeting-step : (box : Extent) (p q : Coordinates) (qs : List Coordinates) (t : Bool) → goes box p q ≡ t →
    ends_meeting box (edges_of_list (p ∷ q ∷ qs)) ≡ (if t then (p, q) ∷ ends_meeting box (edges_of_list (q ∷ qs)) else ends_meeting box (edges_of_list (q ∷ qs)))
meeting-step box p q qs t h = ap (ends_meeting box) (edges-step p q qs) ∙ by_tests (extents_meet (extent_of_edge (p, q)) box) (is_same p q) refl h
  where
    rest : List (Coordinates × Coordinates)
    rest = ends_meeting box (edges_of_list (q ∷ qs))

    by_tests : (m s : Bool) → extents_meet (extent_of_edge (p, q)) box ≡ m → (m && not s) ≡ t →
        ends_meeting box (if s then edges_of_list (q ∷ qs) else edge_between p q ∷ edges_of_list (q ∷ qs)) ≡ (if t then (p, q) ∷ rest else rest)
    by_tests true true e k = ap (λ b. if b then (p, q) ∷ rest else rest) k
    by_tests false true e k = ap (λ b. if b then (p, q) ∷ rest else rest) k
    by_tests true false e k = ap (λ b. if b then (p, q) ∷ rest else rest) (e ∙ k)
    by_tests false false e k = ap (λ b. if b then (p, q) ∷ rest else rest) (e ∙ k)

pub passed-meeting : (box : Extent) (found pushed : List (Coordinates × Coordinates)) (p q : Coordinates) (qs : List Coordinates) → pushed ≡ found ++ (p, q) ∷ [] → goes box p q ≡ true →
    pushed ++ ends_meeting box (edges_of_list (q ∷ qs)) ≡ found ++ ends_meeting box (edges_of_list (p ∷ q ∷ qs))
passed-meeting box found pushed p q qs is h =
    ap (λ ps. ps ++ ends_meeting box (edges_of_list (q ∷ qs))) is
    ∙ append_assoc found ((p, q) ∷ []) (ends_meeting box (edges_of_list (q ∷ qs)))
    ∙ ap (λ ps. found ++ ps) (sym (meeting-step box p q qs true h))

pub passed-other : (box : Extent) (found : List (Coordinates × Coordinates)) (p q : Coordinates) (qs : List Coordinates) → goes box p q ≡ false →
    found ++ ends_meeting box (edges_of_list (q ∷ qs)) ≡ found ++ ends_meeting box (edges_of_list (p ∷ q ∷ qs))
passed-other box found p q qs h = ap (λ ps. found ++ ps) (sym (meeting-step box p q qs false h))
