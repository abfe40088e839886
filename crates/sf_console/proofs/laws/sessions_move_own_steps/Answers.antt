use Rattle.sf_console.proofs.OwnSteps.{sessions_move_own_steps}
use Rattle.sf_console.proofs.laws.sessions_move_own_steps.Goals as goal

pub returns : goal.returns
returns c = sessions_move_own_steps
