use Rattle.std.proofs.Common.{◌≡◌, [], ◌∷◌, List}
use Rattle.sf_grid.specs.Plane.{Coordinates}
use Rattle.sf_geometry.specs.declared.geometry.Geometry.TheVariants.{Polygon}
use Rattle.sf_faults.proofs.OutsideLaws.{NoEdgeOutside}
use Rattle.sf_faults.proofs.outside.edge_outside.Given as goal

-- none of those that were passed has a point outside
abbrev pub invariant-loop-edge : goal.invariant-loop-edge
invariant-loop-edge l = (shell : List Coordinates) → l.area ≡ Polygon (shell ∷ []) → NoEdgeOutside shell l.points l.edge-index
