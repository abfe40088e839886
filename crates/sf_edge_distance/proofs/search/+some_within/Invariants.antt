use Rattle.std.proofs.Common.{◌+◌, ◌*◌, length, cond, nat_lt}
use Rattle.sf_edge_distance.proofs.search.+some_within.Given as goal

-- the lists together, and whether the first is the shorter one
abbrev pub decreases-some_within : goal.decreases-some_within
decreases-some_within l = 2 * (length l.first.now + length l.second.now) + cond (nat_lt (length l.first.now) (length l.second.now)) 1 0
