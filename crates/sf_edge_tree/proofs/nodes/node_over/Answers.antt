use Rattle.std.proofs.Common.{refl}
use Rattle.sf_edge_tree.proofs.NodeLaws.{over-higher, over-last, over-more}
use Rattle.sf_edge_tree.proofs.nodes.node_over.Goals as goal

pub loop-init : goal.loop-init
loop-init c = λ edges tree. over-last edges c.args.nodes.now c.in_ok-last.field-0-1.now c.in_ok-last.last.now c.in_ok-last.ensures.cases.0 tree

pub loop-preserved : goal.loop-preserved
loop-preserved c =
    λ edges tree.
    over-more edges c.args.nodes.now c.front.result.now c.in_ok-other.field-0-1.now c.loop.node c.in_ok-other.other.now _ c.front.ensures c.in_ok-other.ensures.cases.0 c.joined-node.ensures refl refl refl tree
    (c.loop.invariant edges tree)

pub returns : goal.returns
returns c = λ edges tree. over-higher edges c.args.nodes.now c.loop.node _ refl refl refl refl (c.loop.invariant edges tree)
