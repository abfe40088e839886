use Rattle.std.proofs.Common.{◌≡◌, ◌∙◌, true, false, sym, subst, refl, []}
use Rattle.std.specs.List.{list_all}
use Rattle.sf_wkt.specs.Tokens.{is_blank}
use Rattle.sf_console.specs.Answers.{reply_text}
use Rattle.sf_console.specs.Session.{IsAnswered}
use Rattle.sf_console.proofs.ReadingLemmas.{text_reading-by, text_reading-group, text_reading-alone}
use Rattle.sf_console.proofs.answering.answer_said.Goals as goal

pub returns-then-is_blank_text : goal.returns-then-is_blank_text
returns-then-is_blank_text c = λ text.
    let line = c.args.text.now in
    let blank : list_all is_blank line ≡ true = sym c.is_blank_text.ensures ∙ c.if-is_blank_text.true in
    subst (λ r. IsAnswered c.args.editor.now r [] c.args.editor.now) (sym (text_reading-by line true true text blank)) (refl, refl)

pub returns-in-Some : goal.returns-in-Some
returns-in-Some c = λ text.
    let line = c.args.text.now in
    let said : list_all is_blank line ≡ false = sym c.is_blank_text.ensures ∙ c.if-is_blank_text.false in
    let found = c.in-Some.ensures in
    subst (λ r. IsAnswered c.args.editor.now r (reply_text c.answer_group.result) c.answer_group.new.editor)
    (sym (text_reading-group line _ _ text said found.1))
    (c.answer_group.ensures found.0 found.2)

pub returns : goal.returns
returns c = λ text.
    let line = c.args.text.now in
    let said : list_all is_blank line ≡ false = sym c.is_blank_text.ensures ∙ c.if-is_blank_text.false in
    subst (λ r. IsAnswered c.args.editor.now r (reply_text c.answer_command.result) c.answer_command.new.editor)
    (sym (text_reading-alone line text said c.in_default.ensures))
    c.answer_command.ensures
