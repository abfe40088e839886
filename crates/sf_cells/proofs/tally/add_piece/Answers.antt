use Rattle.sf_cells.proofs.TallyLaws.{add_one, group_below}
use Rattle.std.proofs.Common.{arith}
use Rattle.sf_cells.proofs.tally.add_piece.Goals as goal

pub bounds-tally-group : goal.bounds-tally-group
bounds-tally-group c = omega (arith, group_below c.args.groups.now c.args.piece c.requires.grouped)

pub bounds-tally-group-2 : goal.bounds-tally-group-2
bounds-tally-group-2 c = omega (arith, group_below c.args.groups.now c.args.piece c.requires.grouped)

pub returns : goal.returns
returns c = add_one c.args.groups.now c.args.tally.now c.args.piece c.requires.counted c.requires.grouped
