-- Internal: who wants to trust the program need not read this file.
-- Points that two sets share, found on edges.
use Rattle.std.specs.Prelude.{Bool, List, IsTrue}
use Rattle.std.specs.List.{list_any}
use Rattle.sf_grid.specs.Plane.{Coordinates, IsPoint, Point as PlanePoint}
use Rattle.sf_geometry.specs.PointSets.{on_line, on_polygon}

-- a point that both sets have
pub record Share (a b : PlanePoint → Bool) : Type 0 where
  pub q : PlanePoint
  pub is_point : IsPoint q
  pub in_first : IsTrue (a q)
  pub in_second : IsTrue (b q)

-- q is on an edge of one of the lines or rings
abbrev pub on_lines : List (List Coordinates) → PlanePoint → Bool
on_lines lines q = list_any (λ line. on_line line q) lines

-- q is on an edge of a ring of one of the polygons
abbrev pub on_polygons : List (List (List Coordinates)) → PlanePoint → Bool
on_polygons polygons q = list_any (λ rings. on_polygon rings q) polygons
