use Rattle.std.proofs.Common.{◌≡◌, ◌++◌, map, take}
use Rattle.sf_strips.specs.declared.piece.Piece.TheVariants.{Dot}
use Rattle.sf_pieces.specs.Marked.{marked}
use Rattle.sf_relate.proofs.grouping.push_dots.Given as goal

abbrev pub invariant-loop-point : goal.invariant-loop-point
invariant-loop-point l = l.pieces ≡ l.initial.pieces ++ marked l.group (map Dot (take l.point-index l.points))
