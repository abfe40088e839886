use Rattle.std.proofs.Common.{◌≡◌, ◌∙◌, [], None, bytes_eq, false, sym, subst}
use Rattle.sf_rules.specs.Breaks.{least_from}
use Rattle.sf_rules.specs.ColumnLooks.{IsInColumn, values_at}
use Rattle.sf_rules.specs.Rules.{break_of_values}
use Rattle.sf_rules.proofs.ColumnLaws.{values-at-one, values-elsewhere, whole-values-missing}
use Rattle.sf_rules.proofs.WholeLaws.{answered}
use Rattle.sf_rules.proofs.at_one.break_of_values_at.Goals as goal

pub returns-in_default : goal.returns-in_default
returns-in_default c = sym (whole-values-missing c.args.store.now c.args.rule.now c.in_default.ensures)

pub returns-then-eq : goal.returns-then-eq
returns-then-eq c =
    let there : IsInColumn c.args.store.now c.args.rule.now [] c.in-Some.column = subst (λ leaving. IsInColumn c.args.store.now c.args.rule.now leaving c.in-Some.column) c.requires.none_leaves c.in-Some.ensures in
    answered c.least_at.result (least_from None (values_at c.args.rule.now.demand c.in-Some.column c.in-Some.column.place c.args.id)) (break_of_values c.args.store.now c.args.rule.now)
    (values-at-one c.requires.held.0 c.args.store.now c.args.rule.now c.args.layer.now c.args.id c.in-Some.column c.requires.held.1 there c.requires.held.2) c.least_at.ensures

pub returns : goal.returns
returns c =
    let there : IsInColumn c.args.store.now c.args.rule.now [] c.in-Some.column = subst (λ leaving. IsInColumn c.args.store.now c.args.rule.now leaving c.in-Some.column) c.requires.none_leaves c.in-Some.ensures in
    let apart : bytes_eq c.args.layer.now c.args.rule.now.layer ≡ false = subst (λ n. bytes_eq c.args.layer.now n ≡ false) c.as_str.ensures (sym c.eq.ensures ∙ c.if-eq.false) in
    sym (values-elsewhere c.requires.held.0 c.args.store.now c.args.rule.now c.args.layer.now c.args.id c.in-Some.column c.requires.held.1 there apart c.requires.held.2)
