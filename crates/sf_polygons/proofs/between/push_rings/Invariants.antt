use Rattle.std.proofs.Common.{◌≡◌, ◌++◌, take}
use Rattle.sf_polygons.specs.Rings.{grouped, pieces_in}
use Rattle.sf_polygons.proofs.between.push_rings.Given as goal

abbrev pub invariant-loop-ring : goal.invariant-loop-ring
invariant-loop-ring l = l.pieces ≡ l.initial.pieces ++ pieces_in (grouped l.group (take l.ring-index l.rings))
