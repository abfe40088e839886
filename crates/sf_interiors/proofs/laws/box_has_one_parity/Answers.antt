use Rattle.sf_interiors.proofs.PathLaws.{box_has_one_parity as law}
use Rattle.sf_interiors.proofs.laws.box_has_one_parity.Goals as goal

pub returns : goal.returns
returns c = law
