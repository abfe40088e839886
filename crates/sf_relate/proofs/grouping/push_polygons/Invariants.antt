use Rattle.std.proofs.Common.{◌≡◌, ◌++◌, take}
use Rattle.sf_geometry.specs.Parts.{joined}
use Rattle.sf_relate.specs.AllPieces.{lists_in}
use Rattle.sf_relate.proofs.grouping.push_polygons.Given as goal

abbrev pub invariant-loop-rings : goal.invariant-loop-rings
invariant-loop-rings l = l.pieces ≡ l.initial.pieces ++ lists_in l.group (joined (take l.rings-index l.polygons))
