use Rattle.sf_steps.proofs.JudgeLaws.{judges}
use Rattle.sf_steps.proofs.laws.step_judges_over_the_plane.Goals as goal

pub returns : goal.returns
returns c = judges
