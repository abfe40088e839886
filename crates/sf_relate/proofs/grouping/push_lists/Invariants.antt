use Rattle.std.proofs.Common.{◌≡◌, ◌++◌, take}
use Rattle.sf_relate.specs.AllPieces.{lists_in}
use Rattle.sf_relate.proofs.grouping.push_lists.Given as goal

abbrev pub invariant-loop-points : goal.invariant-loop-points
invariant-loop-points l = l.pieces ≡ l.initial.pieces ++ lists_in l.group (take l.points-index l.lists)
