-- Internal: who wants to trust the program need not read this file.
-- Strands: how often lines pass a point. A line passes it once for each edge on it, but where the point is the common
-- vertex of two neighbours, a joint, the two edges are one strand.
use Rattle.std.specs.Prelude.{◌≡◌, ℕ, ◌+◌, Bool, ◌&&◌, List, count_by, drop, map, nat_le, nat_lt, sum_by, if◌then◌else◌}
use Rattle.sf_grid.specs.Plane.{Coordinates, IsPoint, Point, grid_point, same_point}
use Rattle.sf_grid.specs.Edge.{on_edge}
use Rattle.sf_geometry.specs.Lists.{edges_of, ends_of, is_closed}
use Rattle.sf_valid_rules.specs.Shapes.{meets_itself}
use Rattle.sf_strands.specs.Tangles.{are_tangled}

-- the joints of a line: where its edges begin, but the first one's beginning only where the line is closed
abbrev pub joints_of : List Coordinates → List Coordinates
joints_of ps =
    let starts = map (λ e. e.a) (edges_of ps) in
    if is_closed ps then starts else drop 1 starts

-- how many of a line's edges, joints and ends are at a point
abbrev pub edges_at : List Coordinates → Point → ℕ
edges_at ps p = count_by (λ e. on_edge e p) (edges_of ps)

abbrev pub joints_at : List Coordinates → Point → ℕ
joints_at ps p = count_by (λ q. same_point (grid_point q) p) (joints_of ps)

abbrev pub ends_at : List Coordinates → Point → ℕ
ends_at ps p = count_by (λ q. same_point (grid_point q) p) (ends_of ps)

-- two strands of a line are at a point
abbrev pub has_two_strands : List Coordinates → Point → Bool
has_two_strands ps p = nat_le (joints_at ps p + 2) (edges_at ps p)

-- a line meets itself at a point just where two strands of it are there
abbrev pub StrandsDecide : Type 0
StrandsDecide = (ps : List Coordinates) (p : Point) → IsPoint p → meets_itself ps p ≡ has_two_strands ps p

-- how many edges, joints and ends of several lines are at a point
abbrev pub all_edges_at : List (List Coordinates) → Point → ℕ
all_edges_at lines p = sum_by (λ ps. edges_at ps p) lines

abbrev pub all_joints_at : List (List Coordinates) → Point → ℕ
all_joints_at lines p = sum_by (λ ps. joints_at ps p) lines

abbrev pub all_ends_at : List (List Coordinates) → Point → ℕ
all_ends_at lines p = sum_by (λ ps. ends_at ps p) lines

-- two strands by these counts, not all of them ends
abbrev pub is_tangled_by : ℕ → ℕ → ℕ → Bool
is_tangled_by edges joints ends = nat_le (joints + 2) edges && nat_lt (joints + ends) edges

-- lines are tangled at a point just where two strands are there, not all of them ends
abbrev pub TanglesDecide : Type 0
TanglesDecide =
    (lines : List (List Coordinates)) (p : Point) → IsPoint p
    → are_tangled lines p ≡ is_tangled_by (all_edges_at lines p) (all_joints_at lines p) (all_ends_at lines p)
