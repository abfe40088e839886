use Rattle.std.proofs.Common.{◌≡◌, ◌++◌, ℕ, List, length}
use Rattle.std.specs.Io.KnownBytes.{Appends}
use Rattle.sf_streams.proofs.sending.send.Given as goal

-- a front of the bytes was written
abbrev pub invariant-loop-rest : goal.invariant-loop-rest
invariant-loop-rest g l = (sent : List ℕ) × Appends (g.W.Write.contents l.fn.writer) (g.W.Write.contents l.writer) sent × (l.bytes ≡ sent ++ l.rest)

abbrev pub decreases-loop-rest : goal.decreases-loop-rest
decreases-loop-rest g l = length l.rest
