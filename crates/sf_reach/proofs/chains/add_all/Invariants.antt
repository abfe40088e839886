use Rattle.std.proofs.Common.{Contains, take}
use Rattle.sf_reach.specs.Added.{AreAdded}
use Rattle.sf_reach.proofs.chains.add_all.Given as goal

-- those so far are added
abbrev pub invariant-loop-id : goal.invariant-loop-id
invariant-loop-id l = AreAdded (Contains (take l.id-index l.ids)) l.initial.found l.found
