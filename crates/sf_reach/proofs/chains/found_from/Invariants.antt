use Rattle.std.proofs.Common.{◌-◌, length}
use Rattle.sf_reach.proofs.WalkLaws.{IsWalked}
use Rattle.sf_reach.proofs.chains.found_from.Given as goal

-- steps from those that were looked at lead to what was found
abbrev pub invariant-loop-looked : goal.invariant-loop-looked
invariant-loop-looked l = IsWalked l.chains.layer.now l.chains.ask l.chains.until l.given l.found l.looked

-- the features of the layer less those that were looked at
abbrev pub decreases-loop-looked : goal.decreases-loop-looked
decreases-loop-looked l = length l.chains.layer.now.features - l.looked
