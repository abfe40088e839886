use Rattle.sf_steps.proofs.WeightLaws.{weighs}
use Rattle.sf_steps.proofs.laws.inverse_weighs_what_was_touched.Goals as goal

pub returns : goal.returns
returns c = weighs
