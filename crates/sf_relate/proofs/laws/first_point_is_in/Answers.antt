use Rattle.sf_relate.proofs.FirstLaws.{first_point_is_in}
use Rattle.sf_relate.proofs.laws.first_point_is_in.Goals as goal

pub returns : goal.returns
returns c = first_point_is_in
