use Rattle.std.proofs.Common.{◌≡◌, None, flat_map, take}
use Rattle.sf_rules.specs.Breaks.{least_from}
use Rattle.sf_rules.specs.Looks.{alone_of_leaving, alone_of_slot}
use Rattle.sf_rules.proofs.alone.least_alone.Given as goal

-- the least of the exchanges so far
abbrev pub invariant-loop-slot : goal.invariant-loop-slot
invariant-loop-slot l = l.least ≡ least_from None (flat_map (alone_of_slot l.between) (take l.slot-index l.made))

-- and of those that are still to be made
abbrev pub invariant-loop-slot-2 : goal.invariant-loop-slot-2
invariant-loop-slot-2 l = l.least ≡ least_from l.initial.least (flat_map (alone_of_leaving l.between) (take l.slot-index l.slot-items))
