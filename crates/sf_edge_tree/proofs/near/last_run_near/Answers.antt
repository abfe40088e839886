use Rattle.std.proofs.Common.{arith, sym, ◌∙◌}
use Rattle.sf_edge_tree.proofs.NearLaws.{Each, count-last, fewer-left, last-run, no-run}
use Rattle.sf_edge_tree.proofs.SearchLaws.{last-left, left-apart, left-first, left-inner, none-end}
use Rattle.sf_edge_tree.proofs.near.last_run_near.Goals as goal

pub loop-node-init : goal.loop-node-init
loop-node-init c = (left-first c.args.edges.now c.args.nodes.now c.args.extent Each c.requires, omega arith)

pub loop-node-preserved-then-not-meets : goal.loop-node-preserved-then-not-meets
loop-node-preserved-then-not-meets c = (
  left-apart c.args.edges.now c.args.nodes.now c.in-Some.before.now c.front-left.result.now c.in-Some.node.now c.args.extent Each
      (last-left c.args.edges.now c.args.nodes.now c.loop-node.left.now c.in-Some.before.now c.in-Some.node.now c.args.extent Each c.in-Some.ensures.cases.0 c.loop-node.invariant.0)
      (sym c.meets.ensures ∙ c.if-not-meets.true) c.front-left.ensures,
  fewer-left c.args.nodes.now c.loop-node.left.now c.in-Some.before.now c.front-left.result.now c.in-Some.node.now _ c.in-Some.ensures.cases.0 c.loop-node.invariant.1 c.front-left.ensures,
)

pub range-requires-clause-in_order : goal.range-requires-clause-in_order
range-requires-clause-in_order c =
    (last-left c.args.edges.now c.args.nodes.now c.loop-node.left.now c.in-Some.before.now c.in-Some.node.now c.args.extent Each c.in-Some.ensures.cases.0 c.loop-node.invariant.0).is_node.in_order

pub range-requires-clause-within : goal.range-requires-clause-within
range-requires-clause-within c =
    (last-left c.args.edges.now c.args.nodes.now c.loop-node.left.now c.in-Some.before.now c.in-Some.node.now c.args.extent Each c.in-Some.ensures.cases.0 c.loop-node.invariant.0).is_node.end_in

pub returns-then-node-before-clause-some : goal.returns-then-node-before-clause-some
returns-then-node-before-clause-some c =
    last-run c.args.edges.now c.args.nodes.now c.in-Some.before.now c.in-Some.node.now c.args.extent c.range.result.now c.requires
    (last-left c.args.edges.now c.args.nodes.now c.loop-node.left.now c.in-Some.before.now c.in-Some.node.now c.args.extent Each c.in-Some.ensures.cases.0 c.loop-node.invariant.0)
    c.if-node-before.true (omega (arith, count-last c.loop-node.left.now c.in-Some.before.now c.in-Some.node.now c.in-Some.ensures.cases.0, c.loop-node.invariant.1)) c.range.ensures

pub loop-node-preserved : goal.loop-node-preserved
loop-node-preserved c = (
  left-inner c.args.edges.now c.args.nodes.now c.in-Some.before.now c.in-Some.node.now c.args.extent Each
      (last-left c.args.edges.now c.args.nodes.now c.loop-node.left.now c.in-Some.before.now c.in-Some.node.now c.args.extent Each c.in-Some.ensures.cases.0 c.loop-node.invariant.0)
      c.if-node-before.false,
  omega (arith, count-last c.loop-node.left.now c.in-Some.before.now c.in-Some.node.now c.in-Some.ensures.cases.0, c.loop-node.invariant.1),
)

pub returns-clause-none : goal.returns-clause-none
returns-clause-none c =
    no-run c.args.edges.now c.args.nodes.now c.loop-node.left.now c.args.extent c.requires (none-end c.loop-node.left.now c.in_default.ensures.cases) c.loop-node.invariant.0
