use Rattle.std.proofs.Common.{ℕ, ◌+◌, ◌≤◌, ◌<◌, IsTrue}
use Rattle.sf_strands.specs.Beside.{is_left}
use Rattle.sf_strands.specs.Pairs.{point_of}
use Rattle.sf_strands.proofs.beside.are_left.Given as goal

-- all before this one are
abbrev pub invariant-loop-number : goal.invariant-loop-number
invariant-loop-number l = (k : ℕ) → l.start ≤ k → k < l.number → IsTrue (is_left (point_of l.points l.edge) (point_of l.points (l.edge + 1)) (point_of l.points k))
