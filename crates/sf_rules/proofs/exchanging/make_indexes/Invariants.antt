use Rattle.std.proofs.Common.{◌≡◌}
use Rattle.sf_rules.proofs.exchanging.make_indexes.Given as goal

-- an index adds nothing to a content
abbrev pub invariant-loop-rule : goal.invariant-loop-rule
invariant-loop-rule l = l.store ≡ l.initial.store
