use Rattle.sf_relate.proofs.PointLaws.{point_fills_its_place}
use Rattle.sf_relate.proofs.laws.point_fills_its_place.Goals as goal

pub returns : goal.returns
returns c = point_fills_its_place
