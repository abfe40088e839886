use Rattle.std.proofs.Common.{◌≡◌, take}
use Rattle.sf_faults.proofs.comparing.copy_of.Given as goal

-- those that were passed are copied
abbrev pub invariant-loop-points : goal.invariant-loop-points
invariant-loop-points l = l.copy.items ≡ take l.points-index l.rings
