use Rattle.sf_commands.proofs.LawProofs.{members_bring_grid_points}
use Rattle.sf_commands.proofs.laws.members_bring_grid_points.Goals as goal

pub returns : goal.returns
returns c = members_bring_grid_points
