use Rattle.std.proofs.Common.{◌≡◌, ◌∙◌, Ok, Some, Result, ap, refl, subst, sym, rules}
use Rattle.sf_refusals.specs.declared.refusal.Refusal.{Refusal}
use Rattle.sf_wkt.specs.Grammar.{read}
use Rattle.sf_steps.specs.declared.edit.Edit.TheVariants as edits
use Rattle.sf_commands.specs.declared.command.Command.{Command}
use Rattle.sf_commands.specs.declared.command.Command.TheVariants.{Edit}
use Rattle.sf_words.specs.Naming.{id_named}
use Rattle.sf_commands.specs.Commands.{of_text, OrMemory}
use Rattle.sf_commands.proofs.AddLemmas.{replace_arguments-text, replaced_by, OrMemory-unread}
use Rattle.sf_commands.proofs.feature_commands.replace_arguments.Goals as goal

pub returns-in_err-geometry : goal.returns-in_err-geometry
returns-in_err-geometry c =
    let layer = c.in_ok-layer.layer.now in
    let text = c.in_ok-text.text.now in
    let id : id_named c.args.naming c.in_ok-id.id.now ≡ Some c.in_ok-id-2.id = search rules in
    let P : Result Command Refusal → Type 0 = λ expected. OrMemory expected c.from_residual-in_err-geometry.result in
    subst P
    (sym (replace_arguments-text c.args.naming c.args.words c.next.new.self c.next-2.new.self layer c.in_ok-id.id.now text
    c.in_ok-layer.ensures.0 c.in_ok-layer.ensures.1 c.in_ok-id.ensures.0 c.in_ok-id.ensures.1 c.in_ok-text.ensures.0 c.in_ok-text.ensures.1
    ∙ ap (λ i. replaced_by layer i (read text)) id))
    (OrMemory-unread (λ x. of_text x (λ geometry. Edit (edits.ReplaceGeometry layer c.in_ok-id-2.id geometry))) (λ fault. refl) (read text) c.from_residual-in_err-geometry.result _
    c.in_err-geometry.ensures.exact c.from_residual-in_err-geometry.ensures.1)

pub returns : goal.returns
returns c =
    let layer = c.in_ok-layer.layer.now in
    let text = c.in_ok-text.text.now in
    let id : id_named c.args.naming c.in_ok-id.id.now ≡ Some c.in_ok-id-2.id = search rules in
    ap (λ l. Ok (Edit (edits.ReplaceGeometry l c.in_ok-id-2.id c.in_ok-geometry.geometry))) c.in_ok-layer-2.ensures
    ∙ sym (replace_arguments-text c.args.naming c.args.words c.next.new.self c.next-2.new.self layer c.in_ok-id.id.now text
    c.in_ok-layer.ensures.0 c.in_ok-layer.ensures.1 c.in_ok-id.ensures.0 c.in_ok-id.ensures.1 c.in_ok-text.ensures.0 c.in_ok-text.ensures.1
    ∙ ap (λ i. replaced_by layer i (read text)) id
    ∙ ap (λ x. of_text x (λ geometry. Edit (edits.ReplaceGeometry layer c.in_ok-id-2.id geometry))) (sym c.in_ok-geometry.ensures.exact))
