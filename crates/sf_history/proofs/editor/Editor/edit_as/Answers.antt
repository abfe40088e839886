use Rattle.std.proofs.Common.{◌≡◌, ◌⊎◌, Err, subst}
use Rattle.sf_ruled_store.specs.declared.refusal.Refusal.TheVariants.{Memory}
use Rattle.sf_history.specs.History.{edited}
use Rattle.sf_history.proofs.Accepted.{edit-refused}
use Rattle.sf_history.proofs.Histories.{seen}
use Rattle.sf_history.proofs.editor.Editor.edit_as.Goals as goal

pub returns-in-Err-clause-refused : goal.returns-in-Err-clause-refused
returns-in-Err-clause-refused c =
    let inside = c.self.inside in
    let old = seen inside.ruled inside.done.items inside.undone.items inside.editors.items in
    let refusal = c.in-Err.refusal in
    subst (λ m. (edited c.args.editor m c.args.edit ≡ Err refusal) ⊎ (refusal ≡ Memory)) c.self.view_is
    (edit-refused c.args.editor old c.args.edit refusal c.in-Err.ensures.refused)
