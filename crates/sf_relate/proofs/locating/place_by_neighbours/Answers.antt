use Rattle.sf_relate.proofs.NeighbourLaws.{beside-outside}
use Rattle.sf_relate.proofs.locating.place_by_neighbours.Goals as goal

pub returns-then-are_beside : goal.returns-then-are_beside
returns-then-are_beside c = beside-outside c.args.from c.args.to c.args.point c.are_beside.result c.are_beside.ensures c.if-are_beside.true
