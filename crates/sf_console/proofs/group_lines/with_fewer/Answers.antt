use Rattle.sf_console.proofs.GroupLaws.{more-asked, whole-asked}
use Rattle.sf_console.proofs.group_lines.with_fewer.Goals as goal

pub returns-then-left-eq0 : goal.returns-then-left-eq0
returns-then-left-eq0 c = λ g. whole-asked c.args.text c.args.left c.if-left-eq0.true g

pub returns-else-left-eq0 : goal.returns-else-left-eq0
returns-else-left-eq0 c = λ g. more-asked c.args.text c.args.left c.if-left-eq0.false g
