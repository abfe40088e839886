use Rattle.std.proofs.Common.{◌≡◌, drop}
use Rattle.sf_linework.specs.Cover.{seen_starts}
use Rattle.sf_linework.specs.Ends.{seen_or}
use Rattle.sf_linework.proofs.cover.seen_of_starts.Given as goal

-- what was seen of those that were passed, and of those that are left
abbrev pub invariant-loop-edge : goal.invariant-loop-edge
invariant-loop-edge l = seen_or l.seen (seen_starts l.geometry (drop l.edge-index l.edges)) ≡ seen_starts l.geometry l.edges
