use Rattle.sf_edge_tree.specs.Nodes.{end_of}
use Rattle.sf_edge_tree.proofs.PairLaws.{run-answers}
use Rattle.sf_edge_tree.proofs.pairs.find_pair_at_run.Goals as goal

pub returns-else-has_pair_within : goal.returns-else-has_pair_within
returns-else-has_pair_within g c =
    run-answers c.args.edges.now c.args.run.now.start c.args.run.now.end (end_of c.args.before.now) (g.P.PairTest.Passes c.args.test.now) c.find_pair_with_run.result c.requires.next (λ m. cc (c.has_pair_within.ensures.1 m))
    c.find_pair_with_run.ensures
