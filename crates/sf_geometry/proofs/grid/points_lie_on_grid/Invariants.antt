use Rattle.std.proofs.Common.{take}
use Rattle.std.specs.List.{AllByRecursion}
use Rattle.sf_grid.specs.Plane.{IsOnGrid}
use Rattle.sf_geometry.proofs.grid.points_lie_on_grid.Given as goal

-- those that were passed are on the grid
abbrev pub invariant-loop-point : goal.invariant-loop-point
invariant-loop-point l = AllByRecursion IsOnGrid (take l.point-index l.points)
