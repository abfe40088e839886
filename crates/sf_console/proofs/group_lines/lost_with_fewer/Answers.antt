use Rattle.sf_console.proofs.GroupLaws.{more-lost, whole-lost}
use Rattle.sf_console.proofs.group_lines.lost_with_fewer.Goals as goal

pub returns-then-left-eq0 : goal.returns-then-left-eq0
returns-then-left-eq0 c = λ text g. whole-lost text c.args.left c.if-left-eq0.true g

pub returns-else-left-eq0 : goal.returns-else-left-eq0
returns-else-left-eq0 c = λ text g. more-lost text c.args.left c.if-left-eq0.false g
