use Rattle.std.proofs.Common.{◌≡◌, drop}
use Rattle.std.specs.List.{flat_map}
use Rattle.sf_grid.specs.Plane.{grid_point}
use Rattle.sf_geometry.specs.Lists.{edges_of}
use Rattle.sf_relate.specs.Locating.{edges_place, in_one_alone}
use Rattle.sf_relate.proofs.locating.place_in_rings.Given as goal

abbrev pub invariant-loop-ring : goal.invariant-loop-ring
invariant-loop-ring l =
    in_one_alone l.place (edges_place (flat_map edges_of (drop l.ring-index l.rings)) (grid_point l.point)) ≡ edges_place (flat_map edges_of l.rings) (grid_point l.point)
