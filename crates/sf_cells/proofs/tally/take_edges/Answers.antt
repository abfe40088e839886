use Rattle.std.proofs.Common.{sym, take, ◌+◌}
use Rattle.sf_strips.specs.Fronts.{pieces_of}
use Rattle.sf_cells.proofs.TallyLaws.{take_none}
use Rattle.sf_cells.proofs.TallySteps.{next_is_there, pieces_of-more, pieces_of-split, take_next}
use Rattle.sf_cells.proofs.tally.take_edges.Goals as goal

pub loop-edge-init : goal.loop-edge-init
loop-edge-init c = sym (take_none c.args.groups.now c.args.tally.now)

pub take_piece-requires-clause-there : goal.take_piece-requires-clause-there
take_piece-requires-clause-there c =
    let es = c.args.edges.now in
    let i = c.loop-edge.edge-index in
    let a = c.edge-item.result in
    let split = pieces_of-split es i a c.loop-edge-test.true c.edge-item.is in
    next_is_there c.args.groups.now c.args.tally.now c.loop-edge.tally (pieces_of es) (pieces_of (take i es)) split.0 a.piece
    c.loop-edge.invariant split.1 c.requires.there

pub loop-edge-preserved : goal.loop-edge-preserved
loop-edge-preserved c =
    let es = c.args.edges.now in
    let i = c.loop-edge.edge-index in
    let a = c.edge-item.result in
    take_next c.args.groups.now c.args.tally.now c.loop-edge.tally c.take_piece.new.tally (pieces_of (take i es)) (pieces_of (take (i + 1) es)) a.piece
    c.loop-edge.invariant c.take_piece.ensures (pieces_of-more es i a c.loop-edge-test.true c.edge-item.is)
