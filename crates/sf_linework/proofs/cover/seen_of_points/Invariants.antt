use Rattle.std.proofs.Common.{◌≡◌, drop}
use Rattle.sf_linework.specs.Ends.{seen_or}
use Rattle.sf_linework.specs.Points.{seen_points}
use Rattle.sf_linework.proofs.cover.seen_of_points.Given as goal

-- what was seen of those that were passed, and of those that are left
abbrev pub invariant-loop-point : goal.invariant-loop-point
invariant-loop-point l = seen_or l.seen (seen_points l.geometry (drop l.point-index l.points)) ≡ seen_points l.geometry l.points
