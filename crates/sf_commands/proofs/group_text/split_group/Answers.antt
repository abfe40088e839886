use Rattle.std.proofs.Common.{◌≡◌, ◌≢◌, ◌∙◌, None, sym, subst, arith}
use Rattle.sf_commands.specs.GroupTexts.{members_of, OrNoMemory}
use Rattle.sf_commands.proofs.PartLemmas.{group_of-alone, group_of-counted, group_of-headless, group_of-miscounted, members_of-cut}
use Rattle.sf_commands.proofs.group_text.split_group.Goals as goal

pub returns-in_err-head : goal.returns-in_err-head
returns-in_err-head c =
    let gone : c.from_residual.result ≡ None = grind arith in
    rw gone (group_of-alone c.args.text.now c.in_err-head.ensures)

pub returns-in_err-head-2 : goal.returns-in_err-head-2
returns-in_err-head-2 c =
    let text = c.args.text.now in
    let gone : c.from_residual-in_err-head-2.result ≡ None = grind arith in
    let cut = c.in_ok-head.ensures in
    rw gone (group_of-headless text c.in_ok-head.head.now c.in_ok-head.members.now cut.0 cut.1 (sym c.head_of.ensures ∙ c.in_err-head-2.was))

pub returns-then-members_count-from : goal.returns-then-members_count-from
returns-then-members_count-from c =
    let text = c.args.text.now in
    let cut = c.in_ok-head.ensures in
    let other : c.members_count.result ≢ c.in_ok-head-2.head.members = λ same. c.if-members_count-from.true (same ∙ sym c.from.ensures) in
    group_of-miscounted text c.in_ok-head.head.now c.in_ok-head.members.now c.in_ok-head-2.head c.members_count.result cut.0 cut.1 (sym c.head_of.ensures ∙ c.in_ok-head-2.was)
    (c.members_count.ensures c.group_of_parts-group.ensures) other

pub returns : goal.returns
returns c =
    let text = c.args.text.now in
    let cut = c.in_ok-head.ensures in
    let same : c.members_count.result ≡ c.in_ok-head-2.head.members = c.if-members_count-from.false ∙ c.from.ensures in (
      members_of text,
      group_of-counted text c.in_ok-head.head.now c.in_ok-head.members.now c.in_ok-head-2.head c.members_count.result cut.0 cut.1 (sym c.head_of.ensures ∙ c.in_ok-head-2.was)
          (c.members_count.ensures c.group_of_parts-group.ensures) same,
      subst (λ expected. OrNoMemory expected c.group_of_parts-group.result) (sym (members_of-cut text c.in_ok-head.head.now c.in_ok-head.members.now cut.0 cut.1)) c.group_of_parts-group.ensures,
    )
