-- Internal: who wants to trust the program need not read this file.
-- Edges as the code has them.
use Rattle.std.specs.Prelude.{◌≡◌, ℕ, ◌&&◌, List, [], ◌∷◌, ◌++◌, map, Option, None, Some}
use Rattle.std.specs.List.{flat_map}
use Rattle.sf_grid.specs.Plane.{Coordinates}
use Rattle.sf_grid.specs.Edge.{Edge, edge_between}
use Rattle.sf_faults.specs.declared.written_edge.WrittenEdge.{WrittenEdge}
use Rattle.sf_faults.specs.declared.place.Spot.{Spot}
use Rattle.sf_faults.specs.Candidates.{Candidate, candidate, edge_outside, edges_between, edges_shared, hole_outside}
use Rattle.sf_geometry.specs.declared.geometry.Geometry.{Geometry}
use Rattle.sf_geometry.specs.declared.geometry.Geometry.TheVariants.{Polygon}
use Rattle.sf_geometry.specs.PointSets.{in_interior}
use Rattle.sf_valid_rules.specs.Conditions.{AtPoint}
use Rattle.sf_faults.specs.declared.place.Place.TheVariants.{Hole}
use Rattle.sf_faults.specs.declared.place.Place.{Place}
use Rattle.sf_faults.specs.Orders.{numbered, pairs, ring_of, written_edges}
use Rattle.sf_faults.specs.Places.{IsFirstAmong, IsFirstPlace, NoneIsAtFault}

-- the edge, and its number with it
abbrev pub edge_of : WrittenEdge → Edge
edge_of e = edge_between e.from e.to

abbrev pub written : WrittenEdge → ℕ × Edge
written e = (e.number, edge_of e)

-- each edge of the second ring with each one of the first
abbrev pub edges_shared_by : Spot → List WrittenEdge → Spot → List WrittenEdge → List Candidate
edges_shared_by first es second fs = flat_map (λ f. map (λ e. edges_shared first second (written e) (written f)) es) fs

-- the first edges of two rings, of these parts and numbers, that share two points
abbrev pub AreRingsSharing : List (List (List Coordinates)) → Spot → Spot → Option Place → Type 0
AreRingsSharing polygons first second place =
    (r s : List Coordinates) → ring_of polygons first ≡ Some r → ring_of polygons second ≡ Some s → IsFirstAmong (edges_between (first, r) (second, s)) place

-- those of a hole against its shell
abbrev pub outside_of : List Coordinates → Spot → List Coordinates → List Candidate
outside_of shell hole points = map (edge_outside shell hole) (written_edges points) ++ hole_outside shell hole points ∷ []

-- none of the edges of a list has a point outside the shell, or the number is that of the first one that has
abbrev pub IsFirstEdge : List Coordinates → List Coordinates → Option ℕ → Type 0
IsFirstEdge shell points None = (hole : Spot) → NoneIsAtFault (map (edge_outside shell hole) (written_edges points))
IsFirstEdge shell points (Some number) = (hole : Spot) → IsFirstPlace (map (edge_outside shell hole) (written_edges points)) (Hole hole (Some number))

-- the polygon of one ring
abbrev pub single_ring : List Coordinates → Geometry
single_ring ring = Polygon (ring ∷ [])

-- a point is inside two areas; each two of them, the places made of their numbers
abbrev pub areas_overlap : (ℕ → ℕ → Place) → (ℕ × Geometry) × (ℕ × Geometry) → Candidate
areas_overlap place areas = candidate (place areas.0.0 areas.1.0) (AtPoint (λ p. in_interior areas.0.1 p && in_interior areas.1.1 p))

-- none of the areas has an inner point in common with another one, or these are the first two
abbrev pub AreFirstOverlapping : List Geometry → Option (ℕ × ℕ) → Type 0
AreFirstOverlapping areas None = (place : ℕ → ℕ → Place) → NoneIsAtFault (map (areas_overlap place) (pairs (numbered areas)))
AreFirstOverlapping areas (Some found) = (place : ℕ → ℕ → Place) → IsFirstPlace (map (areas_overlap place) (pairs (numbered areas))) (place found.0 found.1)
