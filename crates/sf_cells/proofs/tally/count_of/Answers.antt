use Rattle.std.proofs.Common.{arith}
use Rattle.sf_cells.proofs.TallyLaws.{group_below}
use Rattle.sf_cells.proofs.tally.count_of.Goals as goal

pub bounds-tally-groups : goal.bounds-tally-groups
bounds-tally-groups c = omega (arith, group_below c.args.groups.now c.args.piece c.requires.grouped)
