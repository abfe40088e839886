use Rattle.std.proofs.Common.{◌≡◌, ◌++◌, map, take}
use Rattle.sf_faults.specs.Orders.{placed_in}
use Rattle.sf_faults.proofs.spots.push_spots.Given as goal

-- those that were passed are added
abbrev pub invariant-loop-ring : goal.invariant-loop-ring
invariant-loop-ring l = l.found.items ≡ l.initial.found.items ++ take l.ring (map (λ r. r.0) (placed_in l.part l.rings))
