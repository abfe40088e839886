use Rattle.std.proofs.Common.{◌+◌, ◌++◌, [], arith, drop, flat_map, refl}
use Rattle.sf_format.specs.Canonical.{rule_bytes}
use Rattle.sf_streams.proofs.Putting.{Putting-done, Putting-left, Putting-more, Putting-start, breaks, left-item, left-none}
use Rattle.sf_saving.proofs.rules.put_each.Goals as goal

pub loop-rule-init : goal.loop-rule-init
loop-rule-init g c = Putting-start (g.W.Write.contents c.args.writer.now) c.args.output.now (flat_map rule_bytes c.args.rules.now)

pub returns-in_err-put_rule-clause-broken : goal.returns-in_err-put_rule-clause-broken
returns-in_err-put_rule-clause-broken g c =
    let rules = c.args.rules.now in
    let later = flat_map rule_bytes (drop (c.loop-rule.rule-index + 1) rules) in
    breaks c.from_residual.result (rule_bytes c.rule-item.result) later refl
    (Putting-left (rule_bytes c.rule-item.result ++ later) (left-item rule_bytes rules c.loop-rule.rule-index c.rule-item.result c.loop-rule-test.true c.rule-item.is) c.loop-rule.invariant) c.in_err-put_rule.ensures.broken

pub loop-rule-preserved : goal.loop-rule-preserved
loop-rule-preserved g c =
    let rules = c.args.rules.now in
    let later = flat_map rule_bytes (drop (c.loop-rule.rule-index + 1) rules) in
    Putting-more (rule_bytes c.rule-item.result) later refl
    (Putting-left (rule_bytes c.rule-item.result ++ later) (left-item rule_bytes rules c.loop-rule.rule-index c.rule-item.result c.loop-rule-test.true c.rule-item.is) c.loop-rule.invariant) c.in_ok-put_rule.ensures.ok

pub returns-clause-ok : goal.returns-clause-ok
returns-clause-ok g c =
    Putting-done (Putting-left [] (left-none rule_bytes c.args.rules.now c.loop-rule.rule-index (omega (arith, c.loop-rule-test.false))) c.loop-rule.invariant)
