use Rattle.sf_linework.proofs.EndLaws.{ends_are_known as law}
use Rattle.sf_linework.proofs.laws.ends_are_known.Goals as goal

pub returns : goal.returns
returns c = law
