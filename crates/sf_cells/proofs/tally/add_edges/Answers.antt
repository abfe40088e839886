use Rattle.std.proofs.Common.{sym, arith, take, length, ◌+◌, ◌^◌}
use Rattle.sf_strips.specs.Fronts.{pieces_of}
use Rattle.sf_cells.proofs.TallyLaws.{add_none}
use Rattle.sf_cells.proofs.TallySteps.{add_next, length-pieces_of, next_has_room, pieces_of-more}
use Rattle.sf_cells.proofs.tally.add_edges.Goals as goal

pub loop-edge-init : goal.loop-edge-init
loop-edge-init c = sym (add_none c.args.groups.now c.args.tally.now)

pub add_piece-requires-clause-room : goal.add_piece-requires-clause-room
add_piece-requires-clause-room c =
    let es = c.args.edges.now in
    let i = c.loop-edge.edge-index in
    next_has_room (2 ^ 32) (length es) c.args.groups.now c.args.tally.now c.loop-edge.tally (pieces_of (take i es)) c.loop-edge.invariant
    (omega (arith, length-pieces_of es i)) c.requires.room

pub loop-edge-preserved : goal.loop-edge-preserved
loop-edge-preserved c =
    let es = c.args.edges.now in
    let i = c.loop-edge.edge-index in
    let a = c.edge-item.result in
    add_next c.args.groups.now c.args.tally.now c.loop-edge.tally c.add_piece.new.tally (pieces_of (take i es)) (pieces_of (take (i + 1) es)) a.piece
    c.loop-edge.invariant c.add_piece.ensures (pieces_of-more es i a c.loop-edge-test.true c.edge-item.is)
