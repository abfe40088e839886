use Rattle.std.proofs.Common.{◌≡◌, map, take}
use Rattle.sf_ruled_store.specs.Ruled.{with_renamed}
use Rattle.sf_ruled_store.proofs.rules.Rules.renamed.Given as goal

-- copied are the rules that were gone through
abbrev pub invariant-loop-rule : goal.invariant-loop-rule
invariant-loop-rule l = l.rules.items ≡ map (with_renamed l.layer l.new_name) (take l.rule-index l.rule-items)
