-- Internal: who wants to trust the program need not read this file.
-- When an edge of one geometry runs along an edge of another.
use Rattle.std.specs.List.{Contains}
use Rattle.sf_grid.specs.Edge.{Edge as Line}
use Rattle.sf_geometry.specs.declared.geometry.Geometry.{Geometry}
use Rattle.sf_geometry.specs.Parts.{edges_of}
use Rattle.sf_plane.specs.Laws.{ShareTwoPoints}

-- an edge of the one and an edge of the other have two points in common, and so all between them
pub record RunAlong (a b : Geometry) : Type 0 where
  pub first : Line
  pub second : Line
  pub of_first : Contains (edges_of a) first
  pub of_second : Contains (edges_of b) second
  pub share : ShareTwoPoints first second
