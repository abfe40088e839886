use Rattle.std.proofs.Common.{sym}
use Rattle.sf_rules.specs.Rules.{break_of_values, breaks_in, first_of}
use Rattle.sf_joins.proofs.Passed.{layer-fits}
use Rattle.sf_rules.proofs.ColumnLaws.{whole-values, whole-values-missing}
use Rattle.sf_rules.proofs.WholeLaws.{answered}
use Rattle.sf_rules.proofs.whole.first_of_values.Goals as goal

pub first_in_column-requires : goal.first_in_column-requires
first_in_column-requires c = layer-fits c.args.store.now c.args.rule.now.layer c.in-Some.column.layer.now c.in-Some.ensures.well_formed c.in-Some.ensures.layer

pub returns-in_default : goal.returns-in_default
returns-in_default c = sym (whole-values-missing c.args.store.now c.args.rule.now c.in_default.ensures)

pub returns : goal.returns
returns c =
    answered c.first_in_column.result (first_of (breaks_in c.args.rule.now.demand c.in-Some.column.number c.in-Some.column.layer.now)) (break_of_values c.args.store.now c.args.rule.now)
    (whole-values c.args.store.now c.args.rule.now c.args.leaving.now c.in-Some.column c.in-Some.ensures) c.first_in_column.ensures
