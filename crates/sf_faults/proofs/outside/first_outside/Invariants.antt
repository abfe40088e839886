use Rattle.std.proofs.Common.{◌≡◌, [], ◌∷◌, List, take}
use Rattle.std.specs.List.{enumerate_from, flat_map}
use Rattle.sf_grid.specs.Plane.{Coordinates}
use Rattle.sf_geometry.specs.declared.geometry.Geometry.TheVariants.{Polygon}
use Rattle.sf_faults.specs.Candidates.{outside_at}
use Rattle.sf_faults.specs.Places.{NoneIsAtFault}
use Rattle.sf_faults.proofs.outside.first_outside.Given as goal

-- none of the holes that were passed is at fault
abbrev pub invariant-loop-index : goal.invariant-loop-index
invariant-loop-index l = (shell : List Coordinates) → l.area ≡ Polygon (shell ∷ []) → NoneIsAtFault (flat_map (outside_at l.part shell) (take l.index (enumerate_from 1 l.holes)))
