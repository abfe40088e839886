use Rattle.std.proofs.Common.{None, sym}
use Rattle.sf_rules.specs.Breaks.{least_from}
use Rattle.sf_rules.specs.ColumnLooks.{values_looked_at}
use Rattle.sf_rules.specs.Rules.{break_of_values}
use Rattle.sf_patches.specs.Patches.{patched}
use Rattle.sf_rules.proofs.ColumnLaws.{values-missing-near, values-near}
use Rattle.sf_rules.proofs.WholeLaws.{answered}
use Rattle.sf_rules.proofs.near.break_near_values.Goals as goal

pub returns-in_default : goal.returns-in_default
returns-in_default c = sym (values-missing-near c.args.store.now c.args.rule.now c.args.leaving.now c.in_default.ensures)

pub returns : goal.returns
returns c =
    answered c.least_in_column.result (least_from None (values_looked_at c.args.rule.now.demand c.in-Some.column c.args.made.now)) (break_of_values (patched c.args.store.now c.args.leaving.now) c.args.rule.now)
    (values-near c.requires.held.0 c.args.store.now c.args.rule.now c.args.made.now c.args.leaving.now c.in-Some.column c.requires.held.1 c.requires.leave c.in-Some.ensures c.requires.held.2)
    c.least_in_column.ensures
