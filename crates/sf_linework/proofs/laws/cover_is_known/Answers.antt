use Rattle.sf_linework.proofs.CoverLaws.{cover_is_known as law}
use Rattle.sf_linework.proofs.laws.cover_is_known.Goals as goal

pub returns : goal.returns
returns c = law
