use Rattle.std.proofs.Common.{sym, ◌∙◌, true≢false}
use Rattle.sf_edge_tree.specs.Nodes.{end_of}
use Rattle.sf_edge_tree.specs.Ranges.{IsBelow}
use Rattle.sf_edge_tree.proofs.NodeLaws.{boxes-of}
use Rattle.sf_edge_tree.proofs.PairLaws.{answers-none, answers-on, each-asked, each-left, runs-first, runs-found, runs-inner, runs-last, runs-more, runs-none}
use Rattle.sf_edge_tree.proofs.pairs.find_pair_between.Goals as goal

pub loop-node-init : goal.loop-node-init
loop-node-init g c = runs-first c.args.edges.now c.args.others.now c.args.other_nodes.now (IsBelow (end_of c.args.nodes.now)) (g.P.PairTest.Passes c.args.test.now) c.requires.other_tree.are_nodes

pub find_pair_with_run-outcome-requires-clause-run : goal.find_pair_with_run-outcome-requires-clause-run
find_pair_with_run-outcome-requires-clause-run g c =
    boxes-of c.args.others.now c.in-Some.before.now c.in-Some.node.now
    (runs-last c.args.edges.now c.args.others.now c.args.other_nodes.now c.loop-node.left.now c.in-Some.before.now c.in-Some.node.now (IsBelow (end_of c.args.nodes.now)) (g.P.PairTest.Passes c.args.test.now) c.in-Some.ensures.cases.0 c.loop-node.invariant).is_node

pub returns-then-not-is_absent : goal.returns-then-not-is_absent
returns-then-not-is_absent g c =
    answers-on c.find_pair_with_run-outcome.result
    (λ m.
    each-asked c.args.edges.now c.args.others.now c.args.nodes.now c.args.other_nodes.now (g.P.PairTest.Passes c.args.test.now) c.requires.tree c.requires.other_tree
    (runs-found c.args.edges.now c.args.others.now c.args.other_nodes.now c.in-Some.before.now c.in-Some.node.now (IsBelow (end_of c.args.nodes.now)) (g.P.PairTest.Passes c.args.test.now)
    (runs-last c.args.edges.now c.args.others.now c.args.other_nodes.now c.loop-node.left.now c.in-Some.before.now c.in-Some.node.now (IsBelow (end_of c.args.nodes.now)) (g.P.PairTest.Passes c.args.test.now) c.in-Some.ensures.cases.0 c.loop-node.invariant)
    m))
    (λ is. true≢false (sym (c.is_absent.ensures.1 is) ∙ c.if-not-is_absent.true))
    c.find_pair_with_run-outcome.ensures

pub loop-node-preserved-else-not-is_absent : goal.loop-node-preserved-else-not-is_absent
loop-node-preserved-else-not-is_absent g c =
    runs-more c.args.edges.now c.args.others.now c.args.other_nodes.now c.in-Some.before.now c.in-Some.node.now (IsBelow (end_of c.args.nodes.now)) (g.P.PairTest.Passes c.args.test.now)
    (runs-last c.args.edges.now c.args.others.now c.args.other_nodes.now c.loop-node.left.now c.in-Some.before.now c.in-Some.node.now (IsBelow (end_of c.args.nodes.now)) (g.P.PairTest.Passes c.args.test.now) c.in-Some.ensures.cases.0 c.loop-node.invariant)
    c.if-node-before.true (answers-none c.find_pair_with_run-outcome.result (c.is_absent.ensures.0 c.if-not-is_absent.false) c.find_pair_with_run-outcome.ensures)

pub loop-node-preserved : goal.loop-node-preserved
loop-node-preserved g c =
    runs-inner c.args.edges.now c.args.others.now c.args.other_nodes.now c.in-Some.before.now c.in-Some.node.now (IsBelow (end_of c.args.nodes.now)) (g.P.PairTest.Passes c.args.test.now)
    (runs-last c.args.edges.now c.args.others.now c.args.other_nodes.now c.loop-node.left.now c.in-Some.before.now c.in-Some.node.now (IsBelow (end_of c.args.nodes.now)) (g.P.PairTest.Passes c.args.test.now) c.in-Some.ensures.cases.0 c.loop-node.invariant)
    c.if-node-before.false

pub returns : goal.returns
returns g c =
    λ m.
    runs-none c.args.edges.now c.args.others.now c.args.other_nodes.now c.loop-node.left.now (IsBelow (end_of c.args.nodes.now)) (g.P.PairTest.Passes c.args.test.now) c.in_default.ensures.cases c.loop-node.invariant
    (each-left c.args.edges.now c.args.others.now c.args.nodes.now c.args.other_nodes.now (g.P.PairTest.Passes c.args.test.now) c.requires.tree c.requires.other_tree m)
