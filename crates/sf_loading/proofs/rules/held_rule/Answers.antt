use Rattle.std.proofs.lemmas.Result.{err_from_is_err_and}
use Rattle.sf_format.specs.Format.{rule, unbroken}
use Rattle.sf_loading.proofs.KeptLaws.{GivesRule-judged}
use Rattle.sf_loading.proofs.StreamLaws.{Ends-field}
use Rattle.sf_loading.proofs.rules.held_rule.Goals as goal

pub returns-in_err-rule : goal.returns-in_err-rule
returns-in_err-rule g c =
    let p = err_from_is_err_and c.from_residual.result c.from_residual.ensures.1 in
    let before = c.args.ruled.now in
    rw (p.1, p.2) (Ends-field (rule c.args.version before.content before.rules) (unbroken before.content) c.in_err-rule.field-0.0 _ _ _ c.in_err-rule.ensures.gives)

pub returns : goal.returns
returns g c =
    GivesRule-judged c.args.version c.args.ruled.now c.add.new.ruled c.in_ok-rule.rule c.place-place.result c.add.result _ _ _ _ c.place-place.ensures c.in_ok-rule.ensures.gives
    c.add.ensures.judged c.add.ensures.added
