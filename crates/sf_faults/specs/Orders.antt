-- The orders in which members of lists are gone through: with their numbers, and two at a time.
use Rattle.std.specs.Prelude.{ℕ, ◌+◌, List, [], ◌∷◌, ◌++◌, map, Option, option_and_then, slice_get, if◌then◌else◌}
use Rattle.std.specs.List.{enumerate_from, flat_map, zip}
use Rattle.sf_grid.specs.Plane.{Coordinates}
use Rattle.sf_grid.specs.Edge.{Edge}
use Rattle.sf_geometry.specs.Lists.{edges_of, is_same}
use Rattle.sf_faults.specs.declared.place.Spot.{Spot}

-- the members of a list with their numbers, from 0 on
abbrev pub numbered : {X : Type 0} → List X → List (ℕ × X)
numbered xs = enumerate_from 0 xs

-- each of the members before another one, with that one
abbrev pub with_last : {X : Type 0} → List X → X → List (X × X)
with_last before x = map (λ e. (e, x)) before

-- the members of a list two at a time, the earlier one first: in the order of the later one, then of the earlier one
abbrev pub pairs_after : {X : Type 0} → List X → List X → List (X × X)
pairs_after before [] = []
pairs_after before (x ∷ xs) = with_last before x ++ pairs_after (before ++ x ∷ []) xs

abbrev pub pairs : {X : Type 0} → List X → List (X × X)
pairs xs = pairs_after [] xs

-- the numbers of the points, counted from n, from which an edge goes: those whose next point is another one
abbrev pub starts_from : ℕ → Coordinates → List Coordinates → List ℕ
starts_from n p [] = []
starts_from n p (q ∷ qs) = if is_same p q then starts_from (n + 1) q qs else n ∷ starts_from (n + 1) q qs

abbrev pub edge_numbers : List Coordinates → List ℕ
edge_numbers [] = []
edge_numbers (p ∷ ps) = starts_from 0 p ps

-- the edges of a line or ring, each with the number of the point from which it goes
abbrev pub written_edges : List Coordinates → List (ℕ × Edge)
written_edges ps = zip (edge_numbers ps) (edges_of ps)

-- a ring's part and number
abbrev pub spot : ℕ → ℕ → Spot
spot part ring = record { part = part; ring = ring }

-- the rings of a part, each with its part and number; the rings of parts numbered from n on
abbrev pub placed_in : ℕ → List (List Coordinates) → List (Spot × List Coordinates)
placed_in part rings = map (λ (ring : ℕ × List Coordinates). (spot part ring.0, ring.1)) (numbered rings)

abbrev pub placed_from : ℕ → List (List (List Coordinates)) → List (Spot × List Coordinates)
placed_from n polygons = flat_map (λ (part : ℕ × List (List Coordinates)). placed_in part.0 part.1) (enumerate_from n polygons)

-- all rings of polygons in the order in which they are written, each with its part and number
abbrev pub placed_rings : List (List (List Coordinates)) → List (Spot × List Coordinates)
placed_rings polygons = placed_from 0 polygons

-- their parts and numbers alone
abbrev pub spots : List (List (List Coordinates)) → List Spot
spots polygons = map (λ (ring : Spot × List Coordinates). ring.0) (placed_rings polygons)

-- the ring of a part and number
abbrev pub ring_of : List (List (List Coordinates)) → Spot → Option (List Coordinates)
ring_of polygons at = option_and_then (λ rings. slice_get rings at.ring) (slice_get polygons at.part)
