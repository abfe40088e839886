use Rattle.std.proofs.Common.{take}
use Rattle.std.specs.List.{AllByRecursion}
use Rattle.sf_geometry.specs.Parts.{joined}
use Rattle.sf_grid.specs.Plane.{IsOnGrid}
use Rattle.sf_geometry.proofs.grid.polygons_lie_on_grid.Given as goal

-- those that were passed are on the grid
abbrev pub invariant-loop-rings : goal.invariant-loop-rings
invariant-loop-rings l = AllByRecursion IsOnGrid (joined (joined (take l.rings-index l.polygons)))
