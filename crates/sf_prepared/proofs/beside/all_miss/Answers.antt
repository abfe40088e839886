use Rattle.sf_prepared.proofs.BesideLaws.{missed-end, missed-next}
use Rattle.sf_prepared.proofs.beside.all_miss.Goals as goal

pub loop-edge-init : goal.loop-edge-init
loop-edge-init c all = all

pub loop-edge-preserved : goal.loop-edge-preserved
loop-edge-preserved c =
    missed-next c.args.extent.now c.args.edges.now c.loop-edge.edge-index c.edge-item.result c.loop-edge-test.true c.edge-item.is (c.misses.ensures c.if-not-misses.false) c.loop-edge.invariant

pub returns : goal.returns
returns c said = missed-end c.args.extent.now c.args.edges.now c.loop-edge.edge-index c.loop-edge-test.false c.loop-edge.invariant
