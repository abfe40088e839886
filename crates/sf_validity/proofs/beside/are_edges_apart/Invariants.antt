use Rattle.std.proofs.Common.{◌∷◌, drop}
use Rattle.std.specs.List.{AllByRecursion}
use Rattle.sf_geometry.specs.Lists.{edges_of}
use Rattle.sf_interiors.specs.Paths.{IsOffBox}
use Rattle.sf_validity.specs.Beside.{box_of_extent}
use Rattle.sf_validity.proofs.beside.are_edges_apart.Given as goal

-- where the edges that are left are off the box, all are
abbrev pub invariant-loop-to : goal.invariant-loop-to
invariant-loop-to l =
    AllByRecursion (IsOffBox (box_of_extent l.extent)) (edges_of (l.from ∷ drop l.to-index l.others)) → AllByRecursion (IsOffBox (box_of_extent l.extent)) (edges_of l.points)
