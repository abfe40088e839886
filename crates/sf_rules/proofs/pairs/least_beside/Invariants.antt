use Rattle.std.proofs.Common.{◌≡◌, filter, map, take}
use Rattle.sf_rules.specs.declared.breaks.Break.TheVariants.{Pair}
use Rattle.sf_rules.specs.Breaks.{least_from}
use Rattle.sf_rules.specs.Looks.{is_partnered}
use Rattle.sf_rules.proofs.pairs.least_beside.Given as goal

-- the least of the pairs so far
abbrev pub invariant-loop-other : goal.invariant-loop-other
invariant-loop-other l = l.least ≡ least_from l.initial.least (map (λ i. Pair i l.id) (filter (is_partnered l.between l.id) (take l.other-index l.other-items)))
