use Rattle.std.proofs.Common.{◌≡◌, ◌<◌, inl, inr, length, get_or, reverse, drop, refl, sym, ap, ◌∙◌, subst, arith}
use Rattle.std.proofs.lemmas.Grind.{common_steps}
use Rattle.sf_history.specs.History.{future_of}
use Rattle.sf_history.proofs.Histories.{BeginsWith, future-begins, redone-not_own, redone-own}
use Rattle.sf_history.proofs.editor.Editor.redo_as.Goals as goal

pub returns-then-owner-editor-clause-refused : goal.returns-then-owner-editor-clause-refused
returns-then-owner-editor-clause-refused c =
    let inside = c.self.inside in
    let owner = c.index-owner.result.now in
    let some : 0 < length inside.undone.items = grind (arith, common_steps) in
    let at : c.len.result ≡ length inside.done.items = grind (arith, common_steps) in
    let whose : BeginsWith owner c.args.self.now.future =
    subst (λ m. BeginsWith owner m.future) c.self.view_is
    (subst (λ editor. BeginsWith editor (future_of inside.ruled (reverse inside.undone.items) (drop (length inside.done.items) inside.editors.items))) (sym (c.index-owner.ensures ∙ ap (λ k. get_or inside.editors.items k owner) at))
    (future-begins inside.ruled inside.undone.items inside.editors.items (length inside.done.items) owner some c.self.invariant.2)) in
    inl (redone-not_own c.args.editor owner c.args.self.now whose c.if-owner-editor.true)

pub returns-then-is_err-clause-refused : goal.returns-then-is_err-clause-refused
returns-then-is_err-clause-refused c =
    let inside = c.self.inside in
    let owner = c.index-owner.result.now in
    let some : 0 < length inside.undone.items = grind (arith, common_steps) in
    let at : c.len.result ≡ length inside.done.items = grind (arith, common_steps) in
    let whose : BeginsWith owner c.args.self.now.future =
    subst (λ m. BeginsWith owner m.future) c.self.view_is
    (subst (λ editor. BeginsWith editor (future_of inside.ruled (reverse inside.undone.items) (drop (length inside.done.items) inside.editors.items))) (sym (c.index-owner.ensures ∙ ap (λ k. get_or inside.editors.items k owner) at))
    (future-begins inside.ruled inside.undone.items inside.editors.items (length inside.done.items) owner some c.self.invariant.2)) in
    inr (refl, redone-own c.args.editor owner c.args.self.now whose c.if-owner-editor.false)
