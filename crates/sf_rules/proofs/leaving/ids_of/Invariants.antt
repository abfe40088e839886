use Rattle.std.proofs.Common.{take}
use Rattle.sf_rules.specs.Leaving.{HasIds}
use Rattle.sf_rules.proofs.leaving.ids_of.Given as goal

-- the features of the exchanges so far
abbrev pub invariant-loop-slot : goal.invariant-loop-slot
invariant-loop-slot l = HasIds l.ids (take l.slot-index l.slots)
