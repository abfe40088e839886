use Rattle.std.proofs.Common.{ap, option_copied}
use Rattle.sf_keeping.proofs.CallLaws.{OnOk-map, IfErr-map}
use Rattle.sf_keeping.proofs.KeepingLaws.{line_request-of}
use Rattle.sf_keeping.proofs.keeping.keep_alone.Goals as goal

pub returns-in-Some-clause-ok : goal.returns-in-Some-clause-ok
returns-in-Some-clause-ok g c = OnOk-map c.keep_text.result
    (λ goes is_text. let asked = line_request-of (option_copied c.args.line) c.in-Some.text.now (ap option_copied c.in-Some.is) is_text in goes _ asked.0 asked.1) c.keep_text.ensures.ok

pub returns-in-Some-clause-broken : goal.returns-in-Some-clause-broken
returns-in-Some-clause-broken g c = IfErr-map c.keep_text.result _ _
    (λ fault breaks is_text. let asked = line_request-of (option_copied c.args.line) c.in-Some.text.now (ap option_copied c.in-Some.is) is_text in breaks _ asked.0 asked.1) c.keep_text.ensures.broken
