use Rattle.std.proofs.Common.{◌∙◌, sym}
use Rattle.sf_prepared.proofs.EdgeLaws.{none-said, off-box}
use Rattle.sf_prepared.proofs.beside.misses.Goals as goal

pub returns-then-is_apart : goal.returns-then-is_apart
returns-then-is_apart c said = off-box c.args.extent.now c.args.edge.now (none-said _ (sym c.is_apart.ensures ∙ said))

pub returns-else-is_apart : goal.returns-else-is_apart
returns-else-is_apart c said = c.is_beside.ensures said
