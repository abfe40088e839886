use Rattle.sf_edge_tree.specs.Searches.{HasPair}
use Rattle.sf_edge_tree.proofs.PairLaws.{HaveFirst}
use Rattle.sf_edge_tree.proofs.pairs.has_pair_within.Given as goal

-- no pair passes whose first edge stands before this one
abbrev pub invariant-loop-first : goal.invariant-loop-first
invariant-loop-first g l = ¬ (HasPair l.edges l.edges (HaveFirst l.start l.first l.end) (g.P.PairTest.Passes l.fn.test))
