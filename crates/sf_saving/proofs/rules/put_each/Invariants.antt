use Rattle.std.proofs.Common.{drop, flat_map}
use Rattle.sf_format.specs.Canonical.{rule_bytes}
use Rattle.sf_streams.proofs.Putting.{Putting}
use Rattle.sf_saving.proofs.rules.put_each.Given as goal

-- the rules from the index on are left
abbrev pub invariant-loop-rule : goal.invariant-loop-rule
invariant-loop-rule g l =
    Putting (g.W.Write.contents l.fn.writer) (g.W.Write.contents l.writer) l.fn.output l.output (flat_map rule_bytes l.rules) (flat_map rule_bytes (drop l.rule-index l.rules))
