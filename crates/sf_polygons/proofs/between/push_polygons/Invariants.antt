use Rattle.std.proofs.Common.{◌≡◌, ◌++◌, length, take}
use Rattle.sf_polygons.specs.Rings.{pieces_in, polygons_in}
use Rattle.sf_polygons.proofs.between.push_polygons.Given as goal

abbrev pub invariant-loop-rings : goal.invariant-loop-rings
invariant-loop-rings l =
    l.pieces ≡ l.initial.pieces ++ pieces_in (polygons_in (take (length l.yielded) l.polygons) (take (length l.yielded) l.colours))
