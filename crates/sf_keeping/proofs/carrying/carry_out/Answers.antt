use Rattle.std.proofs.Common.{◌≡◌, ◌∙◌, true, false, ap, sym, subst, refl, inl, inr, [], Ok, Err, None}
use Rattle.std.specs.List.{list_all}
use Rattle.std.specs.Str.{is_utf8}
use Rattle.std.proofs.lemmas.Str.{is_utf8-from_IsUtf8}
use Rattle.sf_refusals.specs.declared.refusal.Refusal.TheVariants.{BadCommand}
use Rattle.sf_wkt.specs.Tokens.{is_blank}
use Rattle.sf_console.specs.Carried.{OrMemoryIf, command_of, group_of, takes_memory}
use Rattle.sf_console.specs.Answers.{refusal_line}
use Rattle.sf_console.specs.Readings.{by_group}
use Rattle.sf_console.specs.Session.{IsAnswered}
use Rattle.sf_console.proofs.ReadingLemmas.{not_utf8, text_reading-by, IsAnswered-asked}
use Rattle.sf_keeping.specs.Changes.{changed}
use Rattle.sf_keeping.proofs.CarryingLaws.{no_command, outcome-of, outcome-of_group}
use Rattle.sf_keeping.proofs.carrying.carry_out.Goals as goal

pub returns-in_default : goal.returns-in_default
returns-in_default c =
    let line = c.args.bytes.now in
    let bad : is_utf8 line ≡ false = not_utf8 line c.in_default.ensures.cases.0 in
    let reads = text_reading-by line false (list_all is_blank line) bad refl in
    (subst (λ r. IsAnswered c.args.editor.now r (refusal_line BadCommand) c.args.editor.now) (sym reads) (refl, refl), refl, inr (ap (changed c.args.editor.now) reads))

pub returns-then-is_blank_text : goal.returns-then-is_blank_text
returns-then-is_blank_text c =
    let line = c.args.bytes.now in
    let text : is_utf8 line ≡ true = is_utf8-from_IsUtf8 line c.in-Ok.ensures.cases.1 in
    let blank : list_all is_blank line ≡ true = ap (list_all is_blank) (sym c.in-Ok.ensures.cases.0) ∙ sym c.is_blank_text.ensures ∙ c.if-is_blank_text.true in
    let reads = text_reading-by line true true text blank in
    (subst (λ r. IsAnswered c.args.editor.now r [] c.args.editor.now) (sym reads) (refl, refl), refl, inr (ap (changed c.args.editor.now) reads))

pub returns-in-Some : goal.returns-in-Some
returns-in-Some c =
    let line = c.args.bytes.now in
    let text : is_utf8 line ≡ true = is_utf8-from_IsUtf8 line c.in-Ok.ensures.cases.1 in
    let said : list_all is_blank line ≡ false = ap (list_all is_blank) (sym c.in-Ok.ensures.cases.0) ∙ sym c.is_blank_text.ensures ∙ c.if-is_blank_text.false in
    let group = c.in-Some.ensures in
    outcome-of_group c.args.editor.now c.carry_out_members.new.editor line c.in-Some.asker group.0 c.carry_out_members.result
    (text_reading-by line true false text said) (ap group_of (sym c.in-Ok.ensures.cases.0) ∙ group.1) (c.carry_out_members.ensures group.0 group.2)

pub returns-in-Ok-parse : goal.returns-in-Ok-parse
returns-in-Ok-parse c =
    let line = c.args.bytes.now in
    let text : is_utf8 line ≡ true = is_utf8-from_IsUtf8 line c.in-Ok.ensures.cases.1 in
    let said : list_all is_blank line ≡ false = ap (list_all is_blank) (sym c.in-Ok.ensures.cases.0) ∙ sym c.is_blank_text.ensures ∙ c.if-is_blank_text.false in
    let none : group_of line ≡ None = ap group_of (sym c.in-Ok.ensures.cases.0) ∙ c.in_default-parse_group.ensures in
    let parsed : OrMemoryIf (takes_memory line) (command_of line) (Ok (c.in-Ok-parse.asker, c.in-Ok-parse.command)) =
    subst (λ l. OrMemoryIf (takes_memory l) (command_of l) (Ok (c.in-Ok-parse.asker, c.in-Ok-parse.command))) c.in-Ok.ensures.cases.0 c.in-Ok-parse.ensures in
    outcome-of c.args.editor.now c.carry_out_command.new.editor line c.in-Ok-parse.asker c.in-Ok-parse.command c.carry_out_command.result
    (text_reading-by line true false text said ∙ ap (by_group line) none) parsed c.carry_out_command.ensures

pub returns-in-Err : goal.returns-in-Err
returns-in-Err c =
    let line = c.args.bytes.now in
    let text : is_utf8 line ≡ true = is_utf8-from_IsUtf8 line c.in-Ok.ensures.cases.1 in
    let said : list_all is_blank line ≡ false = ap (list_all is_blank) (sym c.in-Ok.ensures.cases.0) ∙ sym c.is_blank_text.ensures ∙ c.if-is_blank_text.false in
    let none : group_of line ≡ None = ap group_of (sym c.in-Ok.ensures.cases.0) ∙ c.in_default-parse_group.ensures in
    let parsed : OrMemoryIf (takes_memory line) (command_of line) (Err c.in-Err.refusal) =
    subst (λ l. OrMemoryIf (takes_memory l) (command_of l) (Err c.in-Err.refusal)) c.in-Ok.ensures.cases.0 c.in-Err.ensures in
    let reads = text_reading-by line true false text said ∙ ap (by_group line) none in (
      subst (λ r. IsAnswered c.args.editor.now r (refusal_line c.in-Err.refusal) c.args.editor.now) (sym reads)
          (IsAnswered-asked (takes_memory line) c.args.editor.now c.args.editor.now (refusal_line c.in-Err.refusal) (command_of line) (Err c.in-Err.refusal) parsed (inl refl)),
      refl,
      no_command (takes_memory line) c.args.editor.now line (command_of line) c.in-Err.refusal reads parsed,
    )
