use Rattle.sf_rules.proofs.MutualLaws.{IsOnce}
use Rattle.sf_rules.proofs.whole.first_mutual_pair.Given as goal

-- none of those that came first has a pair
abbrev pub invariant-loop-id : goal.invariant-loop-id
invariant-loop-id l = IsOnce l.between l.id-iterator
