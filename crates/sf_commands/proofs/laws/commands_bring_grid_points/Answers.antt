use Rattle.sf_commands.proofs.LawProofs.{commands_bring_grid_points}
use Rattle.sf_commands.proofs.laws.commands_bring_grid_points.Goals as goal

pub returns : goal.returns
returns c = commands_bring_grid_points
