use Rattle.sf_relate.proofs.ToldLaws.{alike_is_decided as law}
use Rattle.sf_relate.proofs.laws.alike_is_decided.Goals as goal

pub returns : goal.returns
returns c = law
