use Rattle.std.proofs.Common.{◌≡◌, ℕ, false, true, List, subst}
use Rattle.std.proofs.lemmas.Result.{err_from_is_err_and}
use Rattle.sf_layers.specs.Content.{Content}
use Rattle.sf_format.specs.Stored.{Rule, has_rule, has_said}
use Rattle.sf_format.specs.declared.defect.Defect.TheVariants.{BadFile}
use Rattle.sf_format.specs.Readings.{done, field, number}
use Rattle.sf_format.specs.Format.{form_of_byte, fresh_rule_name, name, present, rule, said}
use Rattle.sf_format.proofs.Continuations.{rule_after_form, rule_after_name}
use Rattle.sf_loading.specs.Streaming.{Ends, Takes}
use Rattle.sf_loading.proofs.StreamLaws.{Ends-first, Ends-step, Goes-step, Goes-then}
use Rattle.sf_loading.proofs.FieldLaws.{Takes-rule_name}
use Rattle.sf_loading.proofs.rules.rule.Goals as goal

pub returns-in_err-name-clause-gives : goal.returns-in_err-name-clause-gives
returns-in_err-name-clause-gives g c =
    let p = err_from_is_err_and c.from_residual.result c.from_residual.ensures.1 in
    let halt = c.in_err-name.field-0.0 in
    rw (p.1, p.2) (Ends-first (field name (fresh_rule_name c.args.ruled.now.rules)) (rule_after_name c.args.version c.args.ruled.now.content) halt _ _ _
    (subst (λ (rs : List Rule). Ends (field name (fresh_rule_name rs)) (g.R.Read.remaining c.args.reader.now) (g.R.Read.remaining c.rule_name.new.reader) c.args.window.now halt) c.rules.ensures c.in_err-name.ensures))

pub returns-in_err-form-clause-gives : goal.returns-in_err-form-clause-gives
returns-in_err-form-clause-gives g c =
    let p = err_from_is_err_and c.from_residual-in_err-form.result c.from_residual-in_err-form.ensures.1 in
    let version = c.args.version in
    let content = c.args.ruled.now.content in
    let whole = rule version content c.args.ruled.now.rules in
    let title = c.in_ok-name.name in
    let one = Goes-then (field name (fresh_rule_name c.args.ruled.now.rules)) (rule_after_name version content) title _ _ _ _
    (subst (λ (rs : List Rule). Takes (field name (fresh_rule_name rs)) title (g.R.Read.remaining c.args.reader.now) (g.R.Read.remaining c.rule_name.new.reader) c.args.window.now c.rule_name.new.window) c.rules.ensures c.in_ok-name.ensures) in
    rw (p.1, p.2) (Ends-step whole (field (number 1) (λ (byte : ℕ). present (form_of_byte version byte) BadFile)) (rule_after_form content title) c.in_err-form.field-0.0 _ _ _ _ _ one c.in_err-form.ensures)

pub returns-in_err-says-clause-gives : goal.returns-in_err-says-clause-gives
returns-in_err-says-clause-gives g c =
    let p = err_from_is_err_and c.from_residual-in_err-says.result c.from_residual-in_err-says.ensures.1 in
    let version = c.args.version in
    let content = c.args.ruled.now.content in
    let whole = rule version content c.args.ruled.now.rules in
    let title = c.in_ok-name.name in
    let one = Goes-then (field name (fresh_rule_name c.args.ruled.now.rules)) (rule_after_name version content) title _ _ _ _
    (subst (λ (rs : List Rule). Takes (field name (fresh_rule_name rs)) title (g.R.Read.remaining c.args.reader.now) (g.R.Read.remaining c.rule_name.new.reader) c.args.window.now c.rule_name.new.window) c.rules.ensures c.in_ok-name.ensures) in
    let form = c.in_ok-form.form in
    let two = Goes-step whole (field (number 1) (λ (byte : ℕ). present (form_of_byte version byte) BadFile)) (rule_after_form content title) form _ _ _ _ _ _ one c.in_ok-form.ensures in
    let halt = c.in_err-says.field-0.0 in
    rw (p.1, p.2) (Ends-step whole (said content form) (λ says. done (record { name = title; says = says })) halt _ _ _ _ _ two
    (subst (λ (k : Content). Ends (said k form) (g.R.Read.remaining c.form.new.reader) (g.R.Read.remaining c.said.new.reader) c.form.new.window halt) c.store.ensures c.in_err-says.ensures.gives))

pub returns-clause-gives : goal.returns-clause-gives
returns-clause-gives g c =
    let version = c.args.version in
    let content = c.args.ruled.now.content in
    let whole = rule version content c.args.ruled.now.rules in
    let title = c.in_ok-name.name in
    let one = Goes-then (field name (fresh_rule_name c.args.ruled.now.rules)) (rule_after_name version content) title _ _ _ _
    (subst (λ (rs : List Rule). Takes (field name (fresh_rule_name rs)) title (g.R.Read.remaining c.args.reader.now) (g.R.Read.remaining c.rule_name.new.reader) c.args.window.now c.rule_name.new.window) c.rules.ensures c.in_ok-name.ensures) in
    let form = c.in_ok-form.form in
    let two = Goes-step whole (field (number 1) (λ (byte : ℕ). present (form_of_byte version byte) BadFile)) (rule_after_form content title) form _ _ _ _ _ _ one c.in_ok-form.ensures in
    let says = c.in_ok-says.says in
    Goes-step whole (said content form) (λ says. done (record { name = title; says = says })) says _ _ _ _ _ _ two
    (subst (λ (k : Content). Takes (said k form) says (g.R.Read.remaining c.form.new.reader) (g.R.Read.remaining c.said.new.reader) c.form.new.window c.said.new.window) c.store.ensures c.in_ok-says.ensures.gives)

pub returns-clause-can : goal.returns-clause-can
returns-clause-can g c =
    let named = Takes-rule_name c.rules.result.now c.in_ok-name.name _ _ _ _ c.in_ok-name.ensures in
    record {
      named = named.0;
      free = subst (λ (rs : List Rule). has_rule c.in_ok-name.name rs ≡ false) c.rules.ensures named.1;
      there = subst (λ (k : Content). has_said k c.in_ok-says.says ≡ true) c.store.ensures c.in_ok-says.ensures.there;
    }
