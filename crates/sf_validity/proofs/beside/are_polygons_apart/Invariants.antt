use Rattle.std.proofs.Common.{drop}
use Rattle.std.specs.List.{AllByRecursion}
use Rattle.sf_validity.specs.Beside.{IsApart, box_of_extent}
use Rattle.sf_validity.proofs.beside.are_polygons_apart.Given as goal

-- where those that are left are apart, all are
abbrev pub invariant-loop-rings : goal.invariant-loop-rings
invariant-loop-rings l =
    AllByRecursion (AllByRecursion (IsApart (box_of_extent l.extent))) (drop l.rings-index l.polygons) → AllByRecursion (AllByRecursion (IsApart (box_of_extent l.extent))) l.polygons
