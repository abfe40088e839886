use Rattle.std.proofs.Common.{sym, ap, ◌∙◌, arith, take, ◌+◌, length, ◌^◌}
use Rattle.sf_cells.specs.Groups.{counts}
use Rattle.sf_cells.specs.Hands.{plus}
use Rattle.sf_strips.specs.Vertices.{enters, pieces_with}
use Rattle.sf_cells.proofs.TallyLaws.{add_none}
use Rattle.sf_cells.proofs.TallySteps.{add_next, length-pieces_with, next_has_room, pieces_with-more, pieces_with-same}
use Rattle.sf_cells.proofs.tally.add_entering.Goals as goal
use Rattle.sf_cells.proofs.tally.add_entering.Goals.{then-enters, else-enters}

pub loop-vertex-init : goal.loop-vertex-init
loop-vertex-init c = sym (add_none c.args.groups.now c.args.tally.now)

pub add_piece-requires-clause-room : goal.add_piece-requires-clause-room
add_piece-requires-clause-room c =
    let vs = c.args.vertices.now in
    let i = c.loop-vertex.vertex-index in
    next_has_room (2 ^ 32) (length vs) c.args.groups.now c.args.tally.now c.loop-vertex.tally (pieces_with enters (take i vs)) c.loop-vertex.invariant
    (omega (arith, length-pieces_with enters vs i)) c.requires.room

pub loop-vertex-preserved : goal.loop-vertex-preserved
loop-vertex-preserved c =
    let vs = c.args.vertices.now in
    let i = c.loop-vertex.vertex-index in
    let a = c.vertex-item.result in
    elim c.if-enters.branch [
      | then-enters w ↦
          add_next c.args.groups.now c.args.tally.now c.loop-vertex.tally c.if-enters.tally (pieces_with enters (take i vs)) (pieces_with enters (take (i + 1) vs)) a.piece
          c.loop-vertex.invariant (w.tally-is ∙ w.add_piece.ensures)
          (pieces_with-more enters vs i a c.loop-vertex-test.true c.vertex-item.is (sym c.enters.ensures ∙ w.if-enters.true))
      | else-enters w ↦
          w.tally-is ∙ c.loop-vertex.invariant
          ∙ ap (λ ps. plus c.args.tally.now (counts c.args.groups.now ps))
          (sym (pieces_with-same enters vs i a c.loop-vertex-test.true c.vertex-item.is (sym c.enters.ensures ∙ w.if-enters.false)))
    ]
