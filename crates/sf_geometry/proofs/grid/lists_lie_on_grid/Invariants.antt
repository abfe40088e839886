use Rattle.std.proofs.Common.{take}
use Rattle.std.specs.List.{AllByRecursion}
use Rattle.sf_geometry.specs.Parts.{joined}
use Rattle.sf_grid.specs.Plane.{IsOnGrid}
use Rattle.sf_geometry.proofs.grid.lists_lie_on_grid.Given as goal

-- those that were passed are on the grid
abbrev pub invariant-loop-points : goal.invariant-loop-points
invariant-loop-points l = AllByRecursion IsOnGrid (joined (take l.points-index l.lists))
