use Rattle.sf_console.proofs.GroupLaws.{member_text-bytes, member_text-text}
use Rattle.sf_console.proofs.group_lines.member_text.Goals as goal

pub returns-in-Ok : goal.returns-in-Ok
returns-in-Ok c = member_text-text c.args.bytes.now c.in-Ok.text.now c.unless_returned.result.now c.in-Ok.ensures.cases.0 c.in-Ok.ensures.cases.1 c.unless_returned.ensures

pub returns-in-Err : goal.returns-in-Err
returns-in-Err c = member_text-bytes c.args.bytes.now c.in-Err.ensures.cases.0
