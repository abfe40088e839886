use Rattle.sf_grid.specs.Plane.{grid_point}
use Rattle.sf_relate.proofs.FirstLaws.{in-by-place}
use Rattle.sf_relate.proofs.locating.is_in.Goals as goal

pub returns : goal.returns
returns c = in-by-place c.args.geometry.now (grid_point c.args.point) c.locate.result c.is_in.result c.locate.ensures c.is_in.ensures
