use Rattle.sf_interiors.proofs.VertexLaws.{areas_have_beside as law}
use Rattle.sf_interiors.proofs.laws.areas_have_beside.Goals as goal

pub returns : goal.returns
returns c = law
