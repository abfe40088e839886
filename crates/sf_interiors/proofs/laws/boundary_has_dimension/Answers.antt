use Rattle.sf_interiors.proofs.DimensionLaws.{boundary_has_dimension as law}
use Rattle.sf_interiors.proofs.laws.boundary_has_dimension.Goals as goal

pub returns : goal.returns
returns c = law
