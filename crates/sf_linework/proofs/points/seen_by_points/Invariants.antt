use Rattle.std.proofs.Common.{◌≡◌, drop}
use Rattle.sf_linework.specs.Ends.{seen_or}
use Rattle.sf_linework.specs.Points.{seen_points}
use Rattle.sf_linework.proofs.points.seen_by_points.Given as goal

-- what was seen of the points that were passed, and of those that are left
abbrev pub invariant-loop-point : goal.invariant-loop-point
invariant-loop-point l = seen_or l.seen (seen_points l.lines (drop l.point-index l.points)) ≡ seen_points l.lines l.points
