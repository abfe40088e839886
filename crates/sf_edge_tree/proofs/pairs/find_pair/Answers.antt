use Rattle.std.proofs.Common.{sym, ◌∙◌, true≢false}
use Rattle.sf_edge_tree.specs.Ranges.{IsEarlier}
use Rattle.sf_edge_tree.proofs.NodeLaws.{boxes-of}
use Rattle.sf_edge_tree.proofs.PairLaws.{answers-none, answers-on, two-asked, two-left, runs-first, runs-found, runs-inner, runs-last, runs-more, runs-none}
use Rattle.sf_edge_tree.proofs.SearchLaws.{run-start}
use Rattle.sf_edge_tree.proofs.pairs.find_pair.Goals as goal

pub loop-node-init : goal.loop-node-init
loop-node-init g c = runs-first c.args.edges.now c.args.edges.now c.args.nodes.now IsEarlier (g.P.PairTest.Passes c.args.test.now) c.requires.tree.are_nodes

pub find_pair_at_run-outcome-requires-clause-tree : goal.find_pair_at_run-outcome-requires-clause-tree
find_pair_at_run-outcome-requires-clause-tree g c =
    (runs-last c.args.edges.now c.args.edges.now c.args.nodes.now c.loop-node.left.now c.in-Some.before.now c.in-Some.node.now IsEarlier (g.P.PairTest.Passes c.args.test.now) c.in-Some.ensures.cases.0 c.loop-node.invariant).tree

pub find_pair_at_run-outcome-requires-clause-next : goal.find_pair_at_run-outcome-requires-clause-next
find_pair_at_run-outcome-requires-clause-next g c =
    sym
    (run-start c.args.edges.now c.in-Some.before.now c.in-Some.node.now
    (runs-last c.args.edges.now c.args.edges.now c.args.nodes.now c.loop-node.left.now c.in-Some.before.now c.in-Some.node.now IsEarlier (g.P.PairTest.Passes c.args.test.now) c.in-Some.ensures.cases.0 c.loop-node.invariant).is_node
    c.if-node-before.true)

pub find_pair_at_run-outcome-requires-clause-run : goal.find_pair_at_run-outcome-requires-clause-run
find_pair_at_run-outcome-requires-clause-run g c =
    boxes-of c.args.edges.now c.in-Some.before.now c.in-Some.node.now
    (runs-last c.args.edges.now c.args.edges.now c.args.nodes.now c.loop-node.left.now c.in-Some.before.now c.in-Some.node.now IsEarlier (g.P.PairTest.Passes c.args.test.now) c.in-Some.ensures.cases.0 c.loop-node.invariant).is_node

pub returns-then-not-is_absent : goal.returns-then-not-is_absent
returns-then-not-is_absent g c =
    answers-on c.find_pair_at_run-outcome.result
    (λ m.
    two-asked c.args.edges.now c.args.nodes.now (g.P.PairTest.Passes c.args.test.now) c.requires.tree
    (runs-found c.args.edges.now c.args.edges.now c.args.nodes.now c.in-Some.before.now c.in-Some.node.now IsEarlier (g.P.PairTest.Passes c.args.test.now)
    (runs-last c.args.edges.now c.args.edges.now c.args.nodes.now c.loop-node.left.now c.in-Some.before.now c.in-Some.node.now IsEarlier (g.P.PairTest.Passes c.args.test.now) c.in-Some.ensures.cases.0 c.loop-node.invariant)
    m))
    (λ is. true≢false (sym (c.is_absent.ensures.1 is) ∙ c.if-not-is_absent.true))
    c.find_pair_at_run-outcome.ensures

pub loop-node-preserved-else-not-is_absent : goal.loop-node-preserved-else-not-is_absent
loop-node-preserved-else-not-is_absent g c =
    runs-more c.args.edges.now c.args.edges.now c.args.nodes.now c.in-Some.before.now c.in-Some.node.now IsEarlier (g.P.PairTest.Passes c.args.test.now)
    (runs-last c.args.edges.now c.args.edges.now c.args.nodes.now c.loop-node.left.now c.in-Some.before.now c.in-Some.node.now IsEarlier (g.P.PairTest.Passes c.args.test.now) c.in-Some.ensures.cases.0 c.loop-node.invariant)
    c.if-node-before.true (answers-none c.find_pair_at_run-outcome.result (c.is_absent.ensures.0 c.if-not-is_absent.false) c.find_pair_at_run-outcome.ensures)

pub loop-node-preserved : goal.loop-node-preserved
loop-node-preserved g c =
    runs-inner c.args.edges.now c.args.edges.now c.args.nodes.now c.in-Some.before.now c.in-Some.node.now IsEarlier (g.P.PairTest.Passes c.args.test.now)
    (runs-last c.args.edges.now c.args.edges.now c.args.nodes.now c.loop-node.left.now c.in-Some.before.now c.in-Some.node.now IsEarlier (g.P.PairTest.Passes c.args.test.now) c.in-Some.ensures.cases.0 c.loop-node.invariant)
    c.if-node-before.false

pub returns : goal.returns
returns g c =
    λ m.
    runs-none c.args.edges.now c.args.edges.now c.args.nodes.now c.loop-node.left.now IsEarlier (g.P.PairTest.Passes c.args.test.now) c.in_default.ensures.cases c.loop-node.invariant
    (two-left c.args.edges.now c.args.nodes.now (g.P.PairTest.Passes c.args.test.now) c.requires.tree m)
