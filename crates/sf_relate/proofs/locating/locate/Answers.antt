use Rattle.sf_relate.proofs.TestedPlaces.{located}
use Rattle.sf_relate.proofs.locating.locate.Goals as goal

pub returns : goal.returns
returns c = located c.args.geometry.now c.geometry.result.now c.args.point c.place_in.result c.geometry.ensures.valid.valid c.geometry.ensures.same c.place_in.ensures
