use Rattle.sf_known.proofs.KnownLaws.{contact_answers}
use Rattle.sf_known.proofs.laws.contact_answers.Goals as goal

pub returns : goal.returns
returns c = contact_answers
