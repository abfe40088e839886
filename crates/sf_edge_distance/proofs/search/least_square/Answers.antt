use Rattle.sf_grid.specs.Edge.{IsOnEdge, edge_between}
use Rattle.sf_distance.specs.Mixed.{number_of}
use Rattle.sf_edge_distance.specs.Edges.{IsOnSome}
use Rattle.sf_edge_distance.proofs.SearchLaws.{head-on, least-from}
use Rattle.sf_edge_distance.proofs.search.least_square.Goals as goal

pub returns : goal.returns
returns c =
    let e = c.index-first-0.result in
    let f = c.index-second-0.result in
    least-from (IsOnSome c.args.first.now) (IsOnSome c.args.second.now) (IsOnEdge (edge_between e.0 e.1)) (IsOnEdge (edge_between f.0 f.1))
    (number_of c.square_between_edges-begun.result) (number_of c.improved.result)
    (head-on c.args.first.now e c.requires.some_first c.index-first-0.is) (head-on c.args.second.now f c.requires.some_second c.index-second-0.is)
    c.square_between_edges-begun.ensures c.improved.ensures
