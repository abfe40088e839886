use Rattle.std.proofs.Common.{◌≡◌, ◌++◌, length, take}
use Rattle.sf_polygons.specs.Rings.{holes_in, pieces_in}
use Rattle.sf_polygons.proofs.within.push_holes.Given as goal

abbrev pub invariant-loop-hole : goal.invariant-loop-hole
invariant-loop-hole l =
    l.pieces ≡ l.initial.pieces ++ pieces_in (holes_in (take (length l.yielded) l.holes) (take (length l.yielded) l.colours))
