use Rattle.std.proofs.Common.{length}
use Rattle.sf_keeping.proofs.ReplayLaws.{ReplaysSo}
use Rattle.sf_keeping.proofs.replaying.replay.Given as goal

-- the records before the rest were done again
abbrev pub invariant-loop-end : goal.invariant-loop-end
invariant-loop-end l = ReplaysSo l.fn.sum l.fn.bytes l.rest l.fn.editor l.sum l.editor

abbrev pub decreases-loop-end : goal.decreases-loop-end
decreases-loop-end l = length l.rest
