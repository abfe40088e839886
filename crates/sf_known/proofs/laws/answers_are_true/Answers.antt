use Rattle.sf_known.proofs.KnownLaws.{answers_are_true}
use Rattle.sf_known.proofs.laws.answers_are_true.Goals as goal

pub returns : goal.returns
returns c = answers_are_true
