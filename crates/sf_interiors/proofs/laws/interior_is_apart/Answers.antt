use Rattle.sf_interiors.proofs.ApartLaws.{interior_is_apart as law}
use Rattle.sf_interiors.proofs.laws.interior_is_apart.Goals as goal

pub returns : goal.returns
returns c = law
