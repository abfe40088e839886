use Rattle.std.proofs.Common.{◌≡◌, ◌-◌, ◌^◌, min, sum, take}
use Rattle.sf_polygons.proofs.found.has_two.Given as goal

abbrev pub invariant-loop-count : goal.invariant-loop-count
invariant-loop-count l = l.total ≡ min (sum (take l.count-index l.counts)) (2 ^ 32 - 1)
