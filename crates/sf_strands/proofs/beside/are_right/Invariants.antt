use Rattle.std.proofs.Common.{ℕ, ◌+◌, ◌≤◌, ◌<◌, IsTrue}
use Rattle.sf_strands.specs.Beside.{is_right}
use Rattle.sf_strands.specs.Pairs.{point_of}
use Rattle.sf_strands.proofs.beside.are_right.Given as goal

-- all before this one are
abbrev pub invariant-loop-number : goal.invariant-loop-number
invariant-loop-number l = (k : ℕ) → l.start ≤ k → k < l.number → IsTrue (is_right (point_of l.points l.edge) (point_of l.points (l.edge + 1)) (point_of l.points k))
