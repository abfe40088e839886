-- Internal: who wants to trust the program need not read this file.
-- The edges of a list of points by their numbers, two at a time.
use Rattle.std.specs.Prelude.{ℕ, ◌+◌, Bool, ◌&&◌, ◌||◌, not, List, length, nat_eq, pos, slice_index_or}
use Rattle.sf_grid.specs.Plane.{Coordinates, Point}
use Rattle.sf_grid.specs.Edge.{Edge, edge_between}
use Rattle.sf_geometry.specs.Lists.{edges_of, is_closed}
use Rattle.sf_valid_rules.specs.Shapes.{is_joint, on_both}

-- the point with the number i, counted from 0
abbrev pub point_of : List Coordinates → ℕ → Coordinates
point_of ps i = slice_index_or ps i (record { x = pos 0; y = pos 0 })

-- the edge from the point with the number i to the next one
abbrev pub edge_at : List Coordinates → ℕ → Edge
edge_at ps i = edge_between (point_of ps i) (point_of ps (i + 1))

-- the list is closed, by the edge with the number j
abbrev pub closes_ring : List Coordinates → ℕ → Bool
closes_ring ps j = is_closed ps && nat_eq (j + 1) (length (edges_of ps))

-- two edges are neighbours: one after the other, or the first and the last of a closed list
abbrev pub are_neighbours : List Coordinates → ℕ → ℕ → Bool
are_neighbours ps i j = nat_eq j (i + 1) || (nat_eq i 0 && closes_ring ps j)

-- p is on both edges, and isn't their common vertex as neighbours
abbrev pub pair_meets : List Coordinates → ℕ → ℕ → Point → Bool
pair_meets ps i j p =
    on_both (edge_at ps i) (edge_at ps j) p
    && not (is_joint (is_closed ps) (length (edges_of ps)) (i, edge_at ps i) (j, edge_at ps j) p)
