use Rattle.std.proofs.Common.{[], ◌∙◌, ap, sym, rules}
use Rattle.sf_words.specs.Parts.{parts_of}
use Rattle.sf_commands.specs.GroupTexts.{members_behind}
use Rattle.sf_words.proofs.PartLemmas.{first_part, one_part}
use Rattle.sf_commands.proofs.GroupLemmas.{behind_taken, refused_behind}
use Rattle.sf_commands.proofs.group_text.group_of_parts.Goals as goal

pub returns-in_err-push_member : goal.returns-in_err-push_member
returns-in_err-push_member c =
    let l = c.loop-member in
    let member = c.in-Some.member.now in
    let more = c.in-Some.more.now in
    let cut = c.in-Some.ensures in
    refused_behind (members_behind [] (parts_of c.args.text.now)) c.from_residual.result l.group member (parts_of more) c.in_err-push_member.field-0.0
    (l.invariant.behind ∙ ap (members_behind l.group) (ap parts_of cut.1 ∙ first_part member more cut.0)) c.in_err-push_member.ensures c.from_residual.ensures.1

pub returns-in_err-push_member-2 : goal.returns-in_err-push_member-2
returns-in_err-push_member-2 c =
    let l = c.loop-member in
    let none = c.in_default.ensures in
    refused_behind (members_behind [] (parts_of c.args.text.now)) c.from_residual-in_err-push_member-2.result l.group l.rest.now [] c.in_err-push_member-2.field-0.0
    (l.invariant.behind ∙ ap (members_behind l.group) (one_part l.rest.now none)) c.in_err-push_member-2.ensures c.from_residual-in_err-push_member-2.ensures.1

pub loop-member-preserved : goal.loop-member-preserved
loop-member-preserved c =
    let l = c.loop-member in
    let member = c.in-Some.member.now in
    let more = c.in-Some.more.now in
    let cut = c.in-Some.ensures in
    record {
      text = search rules;
      behind =
          l.invariant.behind ∙ ap (members_behind l.group) (ap parts_of cut.1 ∙ first_part member more cut.0)
          ∙ behind_taken l.group c.push_member.new.group member (parts_of more) c.in_ok-push_member.ensures;
    }

pub returns : goal.returns
returns c =
    let l = c.loop-member in
    let none = c.in_default.ensures in
    sym (l.invariant.behind ∙ ap (members_behind l.group) (one_part l.rest.now none) ∙ c.in_ok-push_member-2.ensures)
