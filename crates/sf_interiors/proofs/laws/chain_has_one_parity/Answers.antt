use Rattle.sf_interiors.proofs.PathLaws.{chain_has_one_parity as law}
use Rattle.sf_interiors.proofs.laws.chain_has_one_parity.Goals as goal

pub returns : goal.returns
returns c = law
