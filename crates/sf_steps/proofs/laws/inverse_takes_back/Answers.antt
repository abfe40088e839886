use Rattle.sf_steps.proofs.InverseLaws.{Accepts-inverse_of}
use Rattle.sf_steps.proofs.laws.inverse_takes_back.Goals as goal

pub returns : goal.returns
returns c = Accepts-inverse_of
