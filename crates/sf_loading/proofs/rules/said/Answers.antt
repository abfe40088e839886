use Rattle.std.proofs.Common.{subst, sym}
use Rattle.sf_format.specs.Stored.{Says}
use Rattle.sf_format.specs.declared.rule_form.RuleForm.{RuleForm}
use Rattle.sf_format.specs.Format.{said}
use Rattle.sf_loading.specs.Streaming.{Gives}
use Rattle.sf_loading.proofs.rules.said.Goals as goal

pub returns-in-Between-clause-gives : goal.returns-in-Between-clause-gives
returns-in-Between-clause-gives g c =
    subst (λ (f : RuleForm). Gives (λ (s : Says). s) (said c.args.store.now f) (g.R.Read.remaining c.args.reader.now) (g.R.Read.remaining c.said_between.new.reader) c.args.window.now c.said_between.new.window c.said_between.result)
    (sym c.in-Between.is) c.said_between.ensures.gives

pub returns-in-OnValues-clause-gives : goal.returns-in-OnValues-clause-gives
returns-in-OnValues-clause-gives g c =
    subst (λ (f : RuleForm). Gives (λ (s : Says). s) (said c.args.store.now f) (g.R.Read.remaining c.args.reader.now) (g.R.Read.remaining c.said_on_values.new.reader) c.args.window.now c.said_on_values.new.window c.said_on_values.result)
    (sym c.in-OnValues.is) c.said_on_values.ensures.gives

pub returns-in-ByDistance-clause-gives : goal.returns-in-ByDistance-clause-gives
returns-in-ByDistance-clause-gives g c =
    subst (λ (f : RuleForm). Gives (λ (s : Says). s) (said c.args.store.now f) (g.R.Read.remaining c.args.reader.now) (g.R.Read.remaining c.said_by_distance.new.reader) c.args.window.now c.said_by_distance.new.window c.said_by_distance.result)
    (sym c.in-ByDistance.is) c.said_by_distance.ensures.gives
