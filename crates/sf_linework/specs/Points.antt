-- Internal: who wants to trust the program need not read this file.
-- What the places of the points of a MultiPoint show of its matrix with lines: the row of its interior, and it has no boundary.
use Rattle.std.specs.Prelude.{Bool, true, false, ◌&&◌, List, [], ◌∷◌, if◌then◌else◌}
use Rattle.std.specs.List.{list_any}
use Rattle.sf_geometry.specs.declared.geometry.Geometry.{Geometry}
use Rattle.sf_geometry.specs.declared.geometry.Geometry.TheVariants.{MultiPoint}
use Rattle.sf_geometry.specs.PointSets.{in_boundary, in_exterior, in_interior}
use Rattle.sf_grid.specs.Plane.{Coordinates, grid_point}
use Rattle.sf_known.specs.declared.known.Known.{Known}
use Rattle.sf_known.specs.Known.{nothing_known}
use Rattle.sf_known.specs.Transposed.{known_transposed}
use Rattle.sf_plane.specs.declared.dim.Dim.{Dim}
use Rattle.sf_plane.specs.declared.dim.Dim.TheVariants.{Nothing, Two}
use Rattle.sf_relate.specs.Matrices.{matrix_of}
use Rattle.sf_linework.specs.declared.ends.Seen.{Seen}
use Rattle.sf_linework.specs.Ends.{if_seen, is_lines}

-- ---- what is known
-- a MultiPoint
abbrev pub is_points : Geometry → Bool
is_points (MultiPoint points) = true
is_points geometry = false

-- of a matrix the row of the first geometry's interior, and that its boundary is empty
abbrev pub interior_row : List Dim → Known
interior_row (ii ∷ ib ∷ ie ∷ rest) =
    record {
      least = ii ∷ ib ∷ ie ∷ Nothing ∷ Nothing ∷ Nothing ∷ Nothing ∷ Nothing ∷ Nothing ∷ [];
      most = ii ∷ ib ∷ ie ∷ Nothing ∷ Nothing ∷ Nothing ∷ Two ∷ Two ∷ Two ∷ [];
      contact = false;
    }
interior_row entries = nothing_known

-- of a MultiPoint and lines, one way round or the other
abbrev pub known_by_points : Geometry → Geometry → Known
known_by_points a b =
    if is_points a && is_lines b then interior_row (matrix_of a b)
    else if is_lines a && is_points b then known_transposed (interior_row (matrix_of b a)) else nothing_known

-- ---- in which places of a geometry points were seen
abbrev pub seen_points : Geometry → List Coordinates → Seen
seen_points other ps =
    record {
      interior = list_any (λ p. in_interior other (grid_point p)) ps;
      boundary = list_any (λ p. in_boundary other (grid_point p)) ps;
      exterior = list_any (λ p. in_exterior other (grid_point p)) ps;
    }

-- what is known of points that are just in these places
abbrev pub known_of_points : Seen → Known
known_of_points s =
    record {
      least = if_seen s.interior ∷ if_seen s.boundary ∷ if_seen s.exterior ∷ Nothing ∷ Nothing ∷ Nothing ∷ Nothing ∷ Nothing ∷ Nothing ∷ [];
      most = if_seen s.interior ∷ if_seen s.boundary ∷ if_seen s.exterior ∷ Nothing ∷ Nothing ∷ Nothing ∷ Two ∷ Two ∷ Two ∷ [];
      contact = false;
    }
