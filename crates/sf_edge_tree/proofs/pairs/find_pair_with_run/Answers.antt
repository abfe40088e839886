use Rattle.sf_edge_tree.specs.Nodes.{end_of}
use Rattle.sf_edge_tree.proofs.PairLaws.{answers-as, near-pair, pair-near}
use Rattle.sf_edge_tree.proofs.pairs.find_pair_with_run.Goals as goal

pub returns : goal.returns
returns g c =
    answers-as c.find_near.result
    (near-pair c.args.edges.now c.args.others.now c.args.run.now.extent (end_of c.args.nodes.now) c.args.run.now.start c.args.run.now.end (g.P.PairTest.Passes c.args.test.now))
    (pair-near c.args.edges.now c.args.others.now c.args.run.now (end_of c.args.nodes.now) (g.P.PairTest.Passes c.args.test.now) c.requires.run)
    c.find_near.ensures
