use Rattle.std.proofs.Common.{sym, ap, ◌∙◌, take, ◌+◌}
use Rattle.sf_cells.specs.Groups.{counts}
use Rattle.sf_cells.specs.Hands.{minus}
use Rattle.sf_strips.specs.Vertices.{leaves, pieces_with}
use Rattle.sf_cells.proofs.TallyLaws.{take_none}
use Rattle.sf_cells.proofs.TallySteps.{next_is_there, pieces_with-more, pieces_with-same, pieces_with-split, take_next}
use Rattle.sf_cells.proofs.tally.take_leaving.Goals as goal
use Rattle.sf_cells.proofs.tally.take_leaving.Goals.{then-leaves, else-leaves}

pub loop-vertex-init : goal.loop-vertex-init
loop-vertex-init c = sym (take_none c.args.groups.now c.args.tally.now)

pub take_piece-requires-clause-there : goal.take_piece-requires-clause-there
take_piece-requires-clause-there c =
    let vs = c.args.vertices.now in
    let i = c.loop-vertex.vertex-index in
    let a = c.vertex-item.result in
    let split = pieces_with-split leaves vs i a c.loop-vertex-test.true c.vertex-item.is (sym c.leaves.ensures ∙ c.if-leaves.true) in
    next_is_there c.args.groups.now c.args.tally.now c.loop-vertex.tally (pieces_with leaves vs) (pieces_with leaves (take i vs)) split.0 a.piece
    c.loop-vertex.invariant split.1 c.requires.there

pub loop-vertex-preserved : goal.loop-vertex-preserved
loop-vertex-preserved c =
    let vs = c.args.vertices.now in
    let i = c.loop-vertex.vertex-index in
    let a = c.vertex-item.result in
    elim c.if-leaves.branch [
      | then-leaves w ↦
          take_next c.args.groups.now c.args.tally.now c.loop-vertex.tally c.if-leaves.tally (pieces_with leaves (take i vs)) (pieces_with leaves (take (i + 1) vs)) a.piece
          c.loop-vertex.invariant (w.tally-is ∙ w.take_piece.ensures)
          (pieces_with-more leaves vs i a c.loop-vertex-test.true c.vertex-item.is (sym c.leaves.ensures ∙ w.if-leaves.true))
      | else-leaves w ↦
          w.tally-is ∙ c.loop-vertex.invariant
          ∙ ap (λ ps. minus c.args.tally.now (counts c.args.groups.now ps))
          (sym (pieces_with-same leaves vs i a c.loop-vertex-test.true c.vertex-item.is (sym c.leaves.ensures ∙ w.if-leaves.false)))
    ]
