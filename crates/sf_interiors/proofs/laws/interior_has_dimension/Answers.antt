use Rattle.sf_interiors.proofs.DimensionLaws.{interior_has_dimension as law}
use Rattle.sf_interiors.proofs.laws.interior_has_dimension.Goals as goal

pub returns : goal.returns
returns c = law
