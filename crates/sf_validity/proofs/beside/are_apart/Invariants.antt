use Rattle.std.proofs.Common.{drop}
use Rattle.std.specs.List.{AllByRecursion}
use Rattle.sf_validity.specs.Beside.{IsApart, box_of_extent}
use Rattle.sf_validity.proofs.beside.are_apart.Given as goal

-- where those that are left are apart, all are
abbrev pub invariant-loop-points : goal.invariant-loop-points
invariant-loop-points l = AllByRecursion (IsApart (box_of_extent l.extent)) (drop l.points-index l.rings) → AllByRecursion (IsApart (box_of_extent l.extent)) l.rings
