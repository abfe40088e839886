use Rattle.sf_grid.specs.Edge.{edge_between}
use Rattle.sf_measure.proofs.RootLaws.{edge-root}
use Rattle.sf_measure.proofs.length.of_edge.Goals as goal

pub returns-clause-value : goal.returns-clause-value
returns-clause-value c =
    edge-root (edge_between c.args.from c.args.to) c.square_of.result c.isqrt.result c.square_of.ensures.value c.square_of.ensures.bound c.isqrt.ensures.square_le c.isqrt.ensures.next_square_gt
