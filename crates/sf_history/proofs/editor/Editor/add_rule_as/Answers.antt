use Rattle.std.proofs.Common.{◌≡◌, ◌⊎◌, Err, subst}
use Rattle.sf_ruled_store.specs.Ruled.{AddRule}
use Rattle.sf_ruled_store.specs.declared.refusal.Refusal.TheVariants.{Memory}
use Rattle.sf_history.specs.History.{stepped}
use Rattle.sf_history.proofs.Accepted.{step-refused}
use Rattle.sf_history.proofs.Histories.{seen}
use Rattle.sf_history.proofs.editor.Editor.add_rule_as.Goals as goal

pub returns-in-Err-clause-refused : goal.returns-in-Err-clause-refused
returns-in-Err-clause-refused c =
    let inside = c.self.inside in
    let old = seen inside.ruled inside.done.items inside.undone.items inside.editors.items in
    let refusal = c.in-Err.refused.1 in
    subst (λ m. (stepped c.args.editor m (AddRule c.args.rule) ≡ Err refusal) ⊎ (refusal ≡ Memory)) c.self.view_is
    (step-refused c.args.editor old (AddRule c.args.rule) refusal c.in-Err.ensures.refused)
