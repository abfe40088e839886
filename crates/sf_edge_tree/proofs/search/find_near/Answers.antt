use Rattle.std.proofs.Common.{arith, sym, ◌∙◌}
use Rattle.sf_edge_tree.proofs.SearchLaws.{last-left, left-apart, left-first, left-inner, left-none, left-run}
use Rattle.sf_edge_tree.proofs.search.find_near.Goals as goal

pub loop-node-init : goal.loop-node-init
loop-node-init g c = left-first c.args.edges.now c.args.nodes.now c.args.extent (g.T.EdgeTest.Passes c.args.test.now) c.requires.tree

pub loop-node-preserved-then-not-meets : goal.loop-node-preserved-then-not-meets
loop-node-preserved-then-not-meets g c =
    left-apart c.args.edges.now c.args.nodes.now c.in-Some.before.now c.front-left.result.now c.in-Some.node.now c.args.extent (g.T.EdgeTest.Passes c.args.test.now)
    (last-left c.args.edges.now c.args.nodes.now c.loop-node.left.now c.in-Some.before.now c.in-Some.node.now c.args.extent (g.T.EdgeTest.Passes c.args.test.now) c.in-Some.ensures.cases.0 c.loop-node.invariant)
    (sym c.meets.ensures ∙ c.if-not-meets.true) c.front-left.ensures

pub has_near-requires-clause-within : goal.has_near-requires-clause-within
has_near-requires-clause-within g c =
    (last-left c.args.edges.now c.args.nodes.now c.loop-node.left.now c.in-Some.before.now c.in-Some.node.now c.args.extent (g.T.EdgeTest.Passes c.args.test.now) c.in-Some.ensures.cases.0 c.loop-node.invariant).is_node.end_in

pub has_near-requires-clause-can_test : goal.has_near-requires-clause-can_test
has_near-requires-clause-can_test g c =
    λ i from to.
    c.requires.can_test i
    (omega (arith, to, (last-left c.args.edges.now c.args.nodes.now c.loop-node.left.now c.in-Some.before.now c.in-Some.node.now c.args.extent (g.T.EdgeTest.Passes c.args.test.now) c.in-Some.ensures.cases.0 c.loop-node.invariant).within))

pub loop-node-preserved-else-has_near : goal.loop-node-preserved-else-has_near
loop-node-preserved-else-has_near g c =
    left-run c.args.edges.now c.args.nodes.now c.in-Some.before.now c.in-Some.node.now c.args.extent (g.T.EdgeTest.Passes c.args.test.now)
    (last-left c.args.edges.now c.args.nodes.now c.loop-node.left.now c.in-Some.before.now c.in-Some.node.now c.args.extent (g.T.EdgeTest.Passes c.args.test.now) c.in-Some.ensures.cases.0 c.loop-node.invariant)
    c.if-node-before.true (λ m. cc (c.has_near.ensures.1 m))

pub loop-node-preserved : goal.loop-node-preserved
loop-node-preserved g c =
    left-inner c.args.edges.now c.args.nodes.now c.in-Some.before.now c.in-Some.node.now c.args.extent (g.T.EdgeTest.Passes c.args.test.now)
    (last-left c.args.edges.now c.args.nodes.now c.loop-node.left.now c.in-Some.before.now c.in-Some.node.now c.args.extent (g.T.EdgeTest.Passes c.args.test.now) c.in-Some.ensures.cases.0 c.loop-node.invariant)
    c.if-node-before.false

pub returns : goal.returns
returns g c = left-none c.args.edges.now c.args.nodes.now c.loop-node.left.now c.args.extent (g.T.EdgeTest.Passes c.args.test.now) c.in_default.ensures.cases c.loop-node.invariant
