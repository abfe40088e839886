use Rattle.std.proofs.Common.{flat_map, length, refl}
use Rattle.byteorder.specs.Endian.{big_bytes}
use Rattle.sf_format.specs.Canonical.{rule_bytes, rules_bytes}
use Rattle.sf_streams.proofs.Putting.{Putting-start, Putting-more, breaks, ends-put, ends-broken}
use Rattle.sf_saving.proofs.LowBytes.{low-two}
use Rattle.sf_saving.proofs.rules.put_rules.Goals as goal

pub returns-in_err-put_u16-clause-broken : goal.returns-in_err-put_u16-clause-broken
returns-in_err-put_u16-clause-broken g c =
    let rules = c.args.rules.now in
    let later = flat_map rule_bytes rules in
    let start = Putting-start (g.W.Write.contents c.args.writer.now) c.args.output.now (rules_bytes rules) in
    breaks c.from_residual.result (big_bytes 2 (length rules)) later (low-two (length rules)) start c.in_err-put_u16.ensures.broken

pub returns-clause-ok : goal.returns-clause-ok
returns-clause-ok g c =
    let rules = c.args.rules.now in
    let later = flat_map rule_bytes rules in
    let start = Putting-start (g.W.Write.contents c.args.writer.now) c.args.output.now (rules_bytes rules) in
    ends-put c.put_each.result _ _ later refl (Putting-more (big_bytes 2 (length rules)) later (low-two (length rules)) start c.in_ok-put_u16.ensures.ok) c.put_each.ensures.ok

pub returns-clause-broken : goal.returns-clause-broken
returns-clause-broken g c =
    let rules = c.args.rules.now in
    let later = flat_map rule_bytes rules in
    let start = Putting-start (g.W.Write.contents c.args.writer.now) c.args.output.now (rules_bytes rules) in
    ends-broken c.put_each.result _ later refl (Putting-more (big_bytes 2 (length rules)) later (low-two (length rules)) start c.in_ok-put_u16.ensures.ok) c.put_each.ensures.broken
