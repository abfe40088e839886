use Rattle.std.proofs.Common.{◌≡◌, None, flat_map, take}
use Rattle.sf_rules.specs.Breaks.{least_from}
use Rattle.sf_rules.specs.Looks.{pairs_of_slot}
use Rattle.sf_rules.proofs.pairs.least_pair.Given as goal

-- the least of the pairs of the exchanges so far
abbrev pub invariant-loop-slot : goal.invariant-loop-slot
invariant-loop-slot l = l.least ≡ least_from None (flat_map (pairs_of_slot l.between) (take l.slot-index l.made))
