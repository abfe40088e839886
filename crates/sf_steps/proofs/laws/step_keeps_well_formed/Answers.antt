use Rattle.sf_steps.proofs.StepsFine.{IsWellFormed-step}
use Rattle.sf_steps.proofs.laws.step_keeps_well_formed.Goals as goal

pub returns : goal.returns
returns c = IsWellFormed-step
