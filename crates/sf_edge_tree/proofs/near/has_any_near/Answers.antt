use Rattle.std.proofs.Common.{sym, ◌∙◌}
use Rattle.sf_edge_tree.proofs.NearLaws.{near-all, none-near, run-passed, some-near}
use Rattle.sf_edge_tree.proofs.near.has_any_near.Goals as goal

pub loop-run-init : goal.loop-run-init
loop-run-init c = (c.requires.are_nodes, near-all c.args.edges.now c.args.nodes.now c.args.extent c.requires)

pub returns-then-is_any_near : goal.returns-then-is_any_near
returns-then-is_any_near c =
    sym (some-near c.args.edges.now c.loop-run.left.now c.in-Some.before.now c.args.extent c.in-Some.run'.now c.in-Some.ensures.some c.loop-run.invariant.1 (sym c.is_any_near.ensures ∙ c.if-is_any_near.true))

pub loop-run-smaller : goal.loop-run-smaller
loop-run-smaller c = c.in-Some.ensures.some.fewer

pub loop-run-preserved : goal.loop-run-preserved
loop-run-preserved c = (
  c.in-Some.ensures.some.tree,
  run-passed c.args.edges.now c.loop-run.left.now c.in-Some.before.now c.args.extent c.in-Some.run'.now c.in-Some.ensures.some c.loop-run.invariant.1 (sym c.is_any_near.ensures ∙ c.if-is_any_near.false),
)

pub returns : goal.returns
returns c = sym (none-near c.args.extent c.args.edges.now (sym c.loop-run.invariant.1 ∙ c.in_default.ensures.none))
