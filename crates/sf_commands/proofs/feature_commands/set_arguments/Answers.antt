use Rattle.std.proofs.Common.{◌≡◌, ◌∙◌, None, Ok, Some, ap, sym, rules}
use Rattle.sf_refusals.specs.declared.refusal.Refusal.TheVariants.{BadCommand}
use Rattle.sf_steps.specs.declared.edit.Edit.TheVariants as edits
use Rattle.sf_commands.specs.declared.command.Command.TheVariants.{Edit}
use Rattle.sf_words.specs.Naming.{id_named}
use Rattle.sf_values.specs.Values.{value_of}
use Rattle.sf_words.specs.Words.{trimmed_end}
use Rattle.sf_commands.proofs.AddLemmas.{OrMemory-refused, set_arguments-text, set_by}
use Rattle.sf_commands.proofs.feature_commands.set_arguments.Goals as goal

pub returns-in_err-value-2 : goal.returns-in_err-value-2
returns-in_err-value-2 c =
    let layer = c.in_ok-layer.layer.now in
    let column = c.in_ok-column.column.now in
    let id : id_named c.args.naming c.in_ok-id.id.now ≡ Some c.in_ok-id-2.id = search rules in
    let none : c.in_ok-value.value ≡ None = search rules in
    let unread : value_of (trimmed_end c.in_ok-text.text.now) ≡ None = ap value_of (sym c.trimmed_end.ensures) ∙ sym c.in_ok-value.ensures ∙ none in
    let is = set_arguments-text c.args.naming c.args.words c.next.new.self c.next-2.new.self c.next-3.new.self layer c.in_ok-id.id.now column c.in_ok-text.text.now
    c.in_ok-layer.ensures.0 c.in_ok-layer.ensures.1 c.in_ok-id.ensures.0 c.in_ok-id.ensures.1 c.in_ok-column.ensures.0 c.in_ok-column.ensures.1 c.in_ok-text.ensures.0 c.in_ok-text.ensures.1 in
    OrMemory-refused _ c.from_residual-in_err-value-2.result BadCommand
    (is ∙ ap (λ i. set_by layer i column (value_of (trimmed_end c.in_ok-text.text.now))) id ∙ ap (set_by layer (Some c.in_ok-id-2.id) column) unread)
    (search rules)

pub returns : goal.returns
returns c =
    let layer = c.in_ok-layer.layer.now in
    let column = c.in_ok-column.column.now in
    let value = c.in_ok-value-2.value in
    let id : id_named c.args.naming c.in_ok-id.id.now ≡ Some c.in_ok-id-2.id = search rules in
    let some : c.in_ok-value.value ≡ Some value = search rules in
    let read : value_of (trimmed_end c.in_ok-text.text.now) ≡ Some value = ap value_of (sym c.trimmed_end.ensures) ∙ sym c.in_ok-value.ensures ∙ some in
    let is = set_arguments-text c.args.naming c.args.words c.next.new.self c.next-2.new.self c.next-3.new.self layer c.in_ok-id.id.now column c.in_ok-text.text.now
    c.in_ok-layer.ensures.0 c.in_ok-layer.ensures.1 c.in_ok-id.ensures.0 c.in_ok-id.ensures.1 c.in_ok-column.ensures.0 c.in_ok-column.ensures.1 c.in_ok-text.ensures.0 c.in_ok-text.ensures.1 in
    ap (λ l. Ok (Edit (edits.SetValue l c.in_ok-id-2.id c.in_ok-column-2.column value))) c.in_ok-layer-2.ensures
    ∙ ap (λ k. Ok (Edit (edits.SetValue layer c.in_ok-id-2.id k value))) c.in_ok-column-2.ensures
    ∙ sym (is ∙ ap (λ i. set_by layer i column (value_of (trimmed_end c.in_ok-text.text.now))) id ∙ ap (set_by layer (Some c.in_ok-id-2.id) column) read)
