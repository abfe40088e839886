use Rattle.std.proofs.Common.{◌≡◌, ◌∷◌, drop}
use Rattle.sf_grid.specs.Plane.{grid_point}
use Rattle.sf_geometry.specs.Lists.{edges_of}
use Rattle.sf_relate.specs.Locating.{edges_place, in_one_alone}
use Rattle.sf_relate.proofs.locating.place_in_ring.Given as goal

-- the place by the edges that were passed, and by those of what is left
abbrev pub invariant-loop-to : goal.invariant-loop-to
invariant-loop-to l =
    in_one_alone l.place (edges_place (edges_of (l.from ∷ drop l.to-index l.others)) (grid_point l.point))
    ≡ edges_place (edges_of (l.initial.from ∷ l.others)) (grid_point l.point)
