-- What is not allowed of lines, rings and polygons at a point of the plane, or at two.
use Rattle.std.specs.Prelude.{ℕ, ◌+◌, Bool, false, ◌&&◌, ◌||◌, not, List, [], ◌∷◌, length, nat_eq}
use Rattle.std.specs.List.{enumerate_from, list_any}
use Rattle.sf_grid.specs.Plane.{Coordinates, Point, grid_point, same_point}
use Rattle.sf_grid.specs.Edge.{Edge, on_edge}
use Rattle.sf_geometry.specs.Lists.{edges_of, ends_of, is_closed}
use Rattle.sf_geometry.specs.PointSets.{in_polygon, in_ring, is_among, on_line, within_ring}
use Rattle.sf_valid_rules.specs.Conditions.{any_two}

-- p is on both edges
abbrev pub on_both : Edge → Edge → Point → Bool
on_both e f p = on_edge e p && on_edge f p

-- of a line of so many edges, p is the common vertex of two that are neighbours: of consecutive ones the end of the
-- first, of the first and the last one of a closed line its end point
abbrev pub is_joint : Bool → ℕ → ℕ × Edge → ℕ × Edge → Point → Bool
is_joint closed count e f p =
    (nat_eq f.0 (e.0 + 1) && same_point (grid_point e.1.b) p)
    || (closed && nat_eq e.0 0 && nat_eq (f.0 + 1) count && same_point (grid_point e.1.a) p)

-- p is on two different edges of a line or ring, and isn't their common vertex as neighbours
abbrev pub meets_itself : List Coordinates → Point → Bool
meets_itself ps p =
    let es = edges_of ps in
    any_two (λ e f. on_both e.1 f.1 p && not (is_joint (is_closed ps) (length es) e f p)) (enumerate_from 0 es)

-- p and q are two points, both on one edge of the one ring and on one edge of the other
abbrev pub share_piece : List Coordinates → List Coordinates → Point → Point → Bool
share_piece r s p q =
    not (same_point p q) && list_any (λ e. list_any (λ f. on_both e f p && on_both e f q) (edges_of s)) (edges_of r)

-- p is on or in a hole of a polygon, and neither on nor in its shell
abbrev pub in_hole_outside : List (List Coordinates) → Point → Bool
in_hole_outside [] p = false
in_hole_outside (shell ∷ holes) p = list_any (λ hole. within_ring hole p) holes && not (within_ring shell p)

-- p is inside two holes of a polygon
abbrev pub in_two_holes : List (List Coordinates) → Point → Bool
in_two_holes [] p = false
in_two_holes (shell ∷ holes) p = any_two (λ hole other. in_ring hole p && in_ring other p) holes

-- p is inside two polygons
abbrev pub in_two_polygons : List (List (List Coordinates)) → Point → Bool
in_two_polygons polygons p = any_two (λ rings others. in_polygon rings p && in_polygon others p) polygons

-- p is on two lines, and not in the boundaries of both
abbrev pub on_two_lines : List (List Coordinates) → Point → Bool
on_two_lines lines p =
    any_two (λ r s. on_line r p && on_line s p && not (is_among (ends_of r) p && is_among (ends_of s) p)) lines
