use Rattle.std.proofs.Common.{◌∙◌, option_copied, sym}
use Rattle.sf_console.specs.Requests.{with_member}
use Rattle.sf_console.proofs.GroupLaws.{IsGrown-left, inside-on}
use Rattle.sf_console.proofs.group_lines.lost.Goals as goal

pub returns-else-is_passed_over : goal.returns-else-is_passed_over
returns-else-is_passed_over c = λ text opens unfed.
    let line = option_copied c.args.line in
    inside-on text c.args.left c.saturating_sub.result line _ _ (sym c.is_passed_over.ensures ∙ c.if-is_passed_over.false) c.saturating_sub.ensures
    (c.lost_with_fewer.ensures (with_member text line) (IsGrown-left text c.args.left c.saturating_sub.result line opens unfed c.saturating_sub.ensures))
