use Rattle.std.proofs.Common.{ℕ, []}
use Rattle.sf_format.specs.Readings.{done, items, number}
use Rattle.sf_format.specs.Format.{held_rule, rules}
use Rattle.sf_format.specs.Stored.{Ruled}
use Rattle.sf_loading.proofs.StreamLaws.{Goes-then, Reaches-after}
use Rattle.sf_loading.proofs.rules.rules.Goals as goal

pub returns-clause-gives : goal.returns-clause-gives
returns-clause-gives g c = Reaches-after (rules c.args.version c.args.store) (items (held_rule c.args.version c.args.store) c.in_ok-count.count []) (λ (r : Ruled). done r.rules) c.counted_rules.result _ _ _ _ _ _
    (Goes-then (number 2) (λ (n : ℕ). items (held_rule c.args.version c.args.store) n []) c.in_ok-count.count _ _ _ _ c.in_ok-count.ensures)
    c.counted_rules.ensures.gives
