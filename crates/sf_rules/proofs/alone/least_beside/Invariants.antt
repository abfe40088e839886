use Rattle.std.proofs.Common.{◌≡◌, flat_map, take}
use Rattle.sf_rules.specs.Breaks.{least_from}
use Rattle.sf_rules.specs.Looks.{alone_at}
use Rattle.sf_rules.proofs.alone.least_beside.Given as goal

-- the least of the features so far
abbrev pub invariant-loop-id : goal.invariant-loop-id
invariant-loop-id l = l.least ≡ least_from l.initial.least (flat_map (alone_at l.between) (take l.id-index l.id-items))
