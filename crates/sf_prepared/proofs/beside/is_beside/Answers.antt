use Rattle.sf_prepared.proofs.BesideLaws.{misses-left, misses-right}
use Rattle.sf_prepared.proofs.beside.is_beside.Goals as goal

pub returns-then-is_box_left : goal.returns-then-is_box_left
returns-then-is_box_left c said = misses-left c.args.edge.now.0 c.args.edge.now.1 c.args.extent.now (c.is_box_left.ensures said)

pub returns-else-is_box_left : goal.returns-else-is_box_left
returns-else-is_box_left c said = misses-right c.args.edge.now.0 c.args.edge.now.1 c.args.extent.now (c.is_box_left-else-is_box_left.ensures said)
