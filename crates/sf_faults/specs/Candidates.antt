-- The places where a geometry may have a fault, in their order, each with the condition under which it has it there.
use Rattle.std.specs.Prelude.{ℕ, Bool, ◌&&◌, not, List, [], ◌∷◌, ◌++◌, map, length, nat_lt, None, Some}
use Rattle.std.specs.List.{enumerate_from, flat_map}
use Rattle.sf_grid.specs.Plane.{Coordinates, Point, same_point}
use Rattle.sf_grid.specs.Edge.{Edge, on_edge}
use Rattle.sf_geometry.specs.declared.geometry.Geometry.{Geometry}
use Rattle.sf_geometry.specs.Lists.{edges_of, is_closed, tight}
use Rattle.sf_geometry.specs.Parts.{lines_of, polygons_of}
use Rattle.sf_geometry.specs.PointSets.{in_polygon, in_ring, within_ring}
use Rattle.sf_valid_rules.specs.declared.fault.Fault.{Fault}
use Rattle.sf_valid_rules.specs.declared.fault.Fault.TheVariants.{ShortLine, OpenRing, ShortRing, RingNotSimple, RingsMeet, HoleOutside, HolesNested, PolygonsOverlap}
use Rattle.sf_valid_rules.specs.Conditions.{Condition, Plain, AtPoint, AtTwoPoints}
use Rattle.sf_valid_rules.specs.Shapes.{is_joint, on_both}
use Rattle.sf_faults.specs.declared.place.Place.{Place}
use Rattle.sf_faults.specs.declared.place.Place.TheVariants.{Line, Ring, Edges, Rings, Hole, Holes, Parts}
use Rattle.sf_faults.specs.declared.place.Spot.{Spot}
use Rattle.sf_faults.specs.Orders.{numbered, pairs, placed_rings, spot, written_edges}

-- a place, and the condition under which the fault is there
pub record Candidate : Type 0 where
  pub place : Place
  pub condition : Condition

abbrev pub candidate : Place → Condition → Candidate
candidate place condition = record { place = place; condition = condition }

-- a line is too short
abbrev pub short_line : ℕ × List Coordinates → Candidate
short_line line = candidate (Line line.0) (Plain (nat_lt (length (tight line.1)) 2))

-- a ring is open, or too short
abbrev pub open_ring : Spot × List Coordinates → Candidate
open_ring ring = candidate (Ring ring.0) (Plain (not (is_closed ring.1)))

abbrev pub short_ring : Spot × List Coordinates → Candidate
short_ring ring = candidate (Ring ring.0) (Plain (nat_lt (length (tight ring.1)) 4))

-- two edges of a ring, by their places among its edges, are on p, and it isn't their common vertex as neighbours
abbrev pub do_edges_meet : List Coordinates → ℕ × (ℕ × Edge) → ℕ × (ℕ × Edge) → Point → Bool
do_edges_meet ring e f p =
    on_both e.1.1 f.1.1 p && not (is_joint (is_closed ring) (length (edges_of ring)) (e.0, e.1.1) (f.0, f.1.1) p)

-- two edges of a ring meet
abbrev pub edges_meeting : Spot × List Coordinates → (ℕ × (ℕ × Edge)) × (ℕ × (ℕ × Edge)) → Candidate
edges_meeting ring edges =
    candidate (Edges ring.0 edges.0.1.0 edges.1.1.0) (AtPoint (do_edges_meet ring.1 edges.0 edges.1))

-- those of a ring, each two of its edges
abbrev pub crossings_of : Spot × List Coordinates → List Candidate
crossings_of ring = map (edges_meeting ring) (pairs (numbered (written_edges ring.1)))

-- p and q are two points on both edges
abbrev pub share_two : Edge → Edge → Point → Point → Bool
share_two e f p q = not (same_point p q) && (on_both e f p && on_both e f q)

-- an edge of a ring and one of another ring share two points
abbrev pub edges_shared : Spot → Spot → ℕ × Edge → ℕ × Edge → Candidate
edges_shared first second e f = candidate (Rings first e.0 second f.0) (AtTwoPoints (share_two e.1 f.1))

-- those of two rings: each edge of the second one with each of the first one
abbrev pub edges_between : Spot × List Coordinates → Spot × List Coordinates → List Candidate
edges_between first second =
    flat_map (λ f. map (λ e. edges_shared first.0 second.0 e f) (written_edges first.1)) (written_edges second.1)

abbrev pub shared_by : (Spot × List Coordinates) × (Spot × List Coordinates) → List Candidate
shared_by rings = edges_between rings.0 rings.1

-- an edge of a hole has a point that is neither on nor inside the shell
abbrev pub is_edge_outside : List Coordinates → Edge → Point → Bool
is_edge_outside shell e p = on_edge e p && not (within_ring shell p)

abbrev pub edge_outside : List Coordinates → Spot → ℕ × Edge → Candidate
edge_outside shell hole e = candidate (Hole hole (Some e.0)) (AtPoint (is_edge_outside shell e.1))

-- a point on or inside a hole is neither on nor inside the shell
abbrev pub is_hole_outside : List Coordinates → List Coordinates → Point → Bool
is_hole_outside shell hole p = within_ring hole p && not (within_ring shell p)

abbrev pub hole_outside : List Coordinates → Spot → List Coordinates → Candidate
hole_outside shell hole points = candidate (Hole hole None) (AtPoint (is_hole_outside shell points))

-- those of a hole: its edges, and then itself
abbrev pub outside_at : ℕ → List Coordinates → ℕ × List Coordinates → List Candidate
outside_at part shell hole =
    map (edge_outside shell (spot part hole.0)) (written_edges hole.1) ++ hole_outside shell (spot part hole.0) hole.1 ∷ []

-- those of a part: each of its holes, which are its rings from 1 on
abbrev pub outside_in : ℕ × List (List Coordinates) → List Candidate
outside_in (part, []) = []
outside_in (part, shell ∷ holes) = flat_map (outside_at part shell) (enumerate_from 1 holes)

-- a point is inside two holes
abbrev pub holes_nested : ℕ → (ℕ × List Coordinates) × (ℕ × List Coordinates) → Candidate
holes_nested part holes = candidate (Holes part holes.0.0 holes.1.0) (AtPoint (λ p. in_ring holes.0.1 p && in_ring holes.1.1 p))

-- those of a part: each two of its holes
abbrev pub nested_in : ℕ × List (List Coordinates) → List Candidate
nested_in (part, []) = []
nested_in (part, shell ∷ holes) = map (holes_nested part) (pairs (enumerate_from 1 holes))

-- a point is inside two polygons
abbrev pub parts_overlap : (ℕ × List (List Coordinates)) × (ℕ × List (List Coordinates)) → Candidate
parts_overlap parts =
    candidate (Parts parts.0.0 parts.1.0) (AtPoint (λ p. in_polygon parts.0.1 p && in_polygon parts.1.1 p))

-- the places where lines, or polygons, may have a fault
abbrev pub candidates_among : List (List Coordinates) → List (List (List Coordinates)) → Fault → List Candidate
candidates_among lines polygons ShortLine = map short_line (numbered lines)
candidates_among lines polygons OpenRing = map open_ring (placed_rings polygons)
candidates_among lines polygons ShortRing = map short_ring (placed_rings polygons)
candidates_among lines polygons RingNotSimple = flat_map crossings_of (placed_rings polygons)
candidates_among lines polygons RingsMeet = flat_map shared_by (pairs (placed_rings polygons))
candidates_among lines polygons HoleOutside = flat_map outside_in (numbered polygons)
candidates_among lines polygons HolesNested = flat_map nested_in (numbered polygons)
candidates_among lines polygons PolygonsOverlap = map parts_overlap (pairs (numbered polygons))

-- the places where a geometry may have a fault
abbrev pub candidates : Geometry → Fault → List Candidate
candidates geometry fault = candidates_among (lines_of geometry) (polygons_of geometry) fault
