use Rattle.std.proofs.Common.{◌≡◌, ◌∙◌, true, false, [], ap, sym, subst, refl}
use Rattle.std.specs.List.{list_all}
use Rattle.std.specs.Str.{is_utf8}
use Rattle.std.proofs.lemmas.Str.{is_utf8-from_IsUtf8}
use Rattle.sf_refusals.specs.declared.refusal.Refusal.TheVariants.{BadCommand}
use Rattle.sf_wkt.specs.Tokens.{is_blank}
use Rattle.sf_commands.specs.GroupTexts.{group_of}
use Rattle.sf_console.specs.Answers.{reply_text, refusal_line}
use Rattle.sf_console.specs.Readings.{text_reading}
use Rattle.sf_console.specs.Session.{IsAnswered}
use Rattle.sf_console.proofs.ReadingLemmas.{not_utf8, text_reading-by, text_reading-alone}
use Rattle.sf_console.proofs.answering.answer_single_text.Goals as goal

pub returns-in_default : goal.returns-in_default
returns-in_default c =
    let line = c.args.bytes.now in
    let bad : is_utf8 line ≡ false = not_utf8 line c.in_default.ensures.cases.0 in
    subst (λ r. IsAnswered c.args.editor.now r (refusal_line BadCommand) c.args.editor.now) (sym (text_reading-by line false (list_all is_blank line) bad refl)) (refl, refl)

pub returns-then-is_blank_text : goal.returns-then-is_blank_text
returns-then-is_blank_text c =
    let line = c.args.bytes.now in
    let same = c.in-Ok.ensures.cases.0 in
    let blank : list_all is_blank line ≡ true = ap (list_all is_blank) (sym same) ∙ sym c.is_blank_text.ensures ∙ c.if-is_blank_text.true in
    subst (λ r. IsAnswered c.args.editor.now r [] c.args.editor.now) (sym (text_reading-by line true true (is_utf8-from_IsUtf8 line c.in-Ok.ensures.cases.1) blank)) (refl, refl)

pub returns : goal.returns
returns c =
    let line = c.args.bytes.now in
    let same = c.in-Ok.ensures.cases.0 in
    let text = c.in-Ok.text.now in
    let utf8 : is_utf8 text ≡ true = ap is_utf8 same ∙ is_utf8-from_IsUtf8 line c.in-Ok.ensures.cases.1 in
    let said : list_all is_blank text ≡ false = sym c.is_blank_text.ensures ∙ c.if-is_blank_text.false in
    let alone = ap group_of same ∙ c.requires in
    subst (λ l. IsAnswered c.args.editor.now (text_reading l) (reply_text c.answer_command.result) c.answer_command.new.editor) same
    (subst (λ r. IsAnswered c.args.editor.now r (reply_text c.answer_command.result) c.answer_command.new.editor) (sym (text_reading-alone text utf8 said alone)) c.answer_command.ensures)
