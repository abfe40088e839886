use Rattle.sf_relate.proofs.OverlapLaws.{crossing_areas_overlap as law}
use Rattle.sf_relate.proofs.laws.crossing_areas_overlap.Goals as goal

pub returns : goal.returns
returns c = law
