use Rattle.std.proofs.Common.{◌≡◌, drop}
use Rattle.std.specs.List.{flat_map}
use Rattle.sf_grid.specs.Plane.{grid_point}
use Rattle.sf_geometry.specs.Lists.{edges_of}
use Rattle.sf_geometry.specs.Parts.{joined}
use Rattle.sf_relate.specs.Locating.{edges_place, in_one_alone}
use Rattle.sf_relate.proofs.locating.place_in_polygons.Given as goal

abbrev pub invariant-loop-rings : goal.invariant-loop-rings
invariant-loop-rings l =
    in_one_alone l.place (edges_place (flat_map edges_of (joined (drop l.rings-index l.polygons))) (grid_point l.point)) ≡ edges_place (flat_map edges_of (joined l.polygons)) (grid_point l.point)
