use Rattle.std.proofs.Common.{◌∙◌, Ok, ap, sym, subst}
use Rattle.sf_commands.specs.GroupTexts.{OrNoMemory}
use Rattle.sf_commands.proofs.PartLemmas.{members_of-alone, members_of-cut}
use Rattle.sf_commands.proofs.group_text.parse_members.Goals as goal

pub returns-in-Some : goal.returns-in-Some
returns-in-Some c =
    let cut = c.in-Some.ensures in
    subst (λ expected. OrNoMemory expected c.group_of_parts.result) (sym (members_of-cut c.args.text.now c.in-Some.field-0-0.now c.in-Some.members.now cut.0 cut.1)) c.group_of_parts.ensures

pub returns-in-None : goal.returns-in-None
returns-in-None c =
    let none = c.in-None.ensures in
    ap Ok c.new.ensures ∙ sym (members_of-alone c.args.text.now none)
