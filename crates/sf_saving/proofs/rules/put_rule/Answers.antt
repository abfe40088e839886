use Rattle.std.proofs.Common.{ap, refl}
use Rattle.sf_format.specs.Canonical.{behind_length, rule_bytes, says_bytes}
use Rattle.sf_streams.proofs.Putting.{Putting-start, Putting-more, breaks, ends-put, ends-broken}
use Rattle.sf_saving.proofs.rules.put_rule.Goals as goal

pub returns-in_err-put_name-clause-broken : goal.returns-in_err-put_name-clause-broken
returns-in_err-put_name-clause-broken g c =
    let rule = c.args.rule.now in
    let later = says_bytes rule.says in
    let start = Putting-start (g.W.Write.contents c.args.writer.now) c.args.output.now (rule_bytes rule) in
    breaks c.from_residual.result (behind_length 1 rule.name) later (ap (behind_length 1) c.as_str.ensures) start c.in_err-put_name.ensures.broken

pub returns-clause-ok : goal.returns-clause-ok
returns-clause-ok g c =
    let rule = c.args.rule.now in
    let later = says_bytes rule.says in
    let start = Putting-start (g.W.Write.contents c.args.writer.now) c.args.output.now (rule_bytes rule) in
    let one = Putting-more (behind_length 1 rule.name) later (ap (behind_length 1) c.as_str.ensures) start c.in_ok-put_name.ensures.ok in
    ends-put c.put_says.result _ _ later refl one c.put_says.ensures.ok

pub returns-clause-broken : goal.returns-clause-broken
returns-clause-broken g c =
    let rule = c.args.rule.now in
    let later = says_bytes rule.says in
    let start = Putting-start (g.W.Write.contents c.args.writer.now) c.args.output.now (rule_bytes rule) in
    let one = Putting-more (behind_length 1 rule.name) later (ap (behind_length 1) c.as_str.ensures) start c.in_ok-put_name.ensures.ok in
    ends-broken c.put_says.result _ later refl one c.put_says.ensures.broken
