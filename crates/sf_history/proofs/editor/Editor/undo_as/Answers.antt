use Rattle.std.proofs.Common.{◌≡◌, ◌+◌, ◌≤◌, inl, inr, length, reverse, take, refl, sym, subst, arith}
use Rattle.std.proofs.lemmas.Grind.{common_steps}
use Rattle.sf_history.specs.History.{past_of}
use Rattle.sf_history.proofs.Histories.{BeginsWith, past-begins, undone-not_own, undone-own}
use Rattle.sf_history.proofs.editor.Editor.undo_as.Goals as goal

pub returns-then-owner-editor-clause-refused : goal.returns-then-owner-editor-clause-refused
returns-then-owner-editor-clause-refused c =
    let inside = c.self.inside in
    let owner = c.index-owner.result.now in
    let at : c.in-Some.last + 1 ≡ length inside.done.items = grind (arith, common_steps) in
    let within : length inside.done.items ≤ length inside.editors.items = grind (arith, common_steps) in
    let whose : BeginsWith owner c.args.self.now.past =
    subst (λ m. BeginsWith owner m.past) c.self.view_is
    (subst (λ editor. BeginsWith editor (past_of inside.ruled (reverse inside.done.items) (reverse (take (length inside.done.items) inside.editors.items)))) (sym c.index-owner.ensures)
    (past-begins inside.ruled inside.done.items inside.editors.items c.in-Some.last owner at within)) in
    inl (undone-not_own c.args.editor owner c.args.self.now whose c.if-owner-editor.true)

pub returns-then-is_err-clause-refused : goal.returns-then-is_err-clause-refused
returns-then-is_err-clause-refused c =
    let inside = c.self.inside in
    let owner = c.index-owner.result.now in
    let at : c.in-Some.last + 1 ≡ length inside.done.items = grind (arith, common_steps) in
    let within : length inside.done.items ≤ length inside.editors.items = grind (arith, common_steps) in
    let whose : BeginsWith owner c.args.self.now.past =
    subst (λ m. BeginsWith owner m.past) c.self.view_is
    (subst (λ editor. BeginsWith editor (past_of inside.ruled (reverse inside.done.items) (reverse (take (length inside.done.items) inside.editors.items)))) (sym c.index-owner.ensures)
    (past-begins inside.ruled inside.done.items inside.editors.items c.in-Some.last owner at within)) in
    inr (refl, undone-own c.args.editor owner c.args.self.now whose c.if-owner-editor.false)
