use Rattle.std.proofs.Common.{sym}
use Rattle.sf_console.proofs.GroupLaws.{line_head-bytes, line_head-text}
use Rattle.sf_console.proofs.group_lines.head_of_text.Goals as goal

pub returns-in_default : goal.returns-in_default
returns-in_default c = line_head-bytes c.args.bytes.now c.in_default.ensures.cases.0

pub returns-in-Some : goal.returns-in-Some
returns-in-Some c = (
  sym c.in-Ok.ensures.cases.0,
  line_head-text c.args.bytes.now c.in-Ok.text.now _ c.in-Ok.ensures.cases.0 c.in-Ok.ensures.cases.1 c.in-Some.ensures,
)
