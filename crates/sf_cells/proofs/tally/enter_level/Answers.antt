use Rattle.std.proofs.Common.{sym, ap, ◌∙◌, subst, arith, length, ◌^◌, List, ℕ}
use Rattle.std.proofs.lemmas.List.{length-map}
use Rattle.sf_strips.specs.Fronts.{pieces_of}
use Rattle.sf_cells.specs.Groups.{counts}
use Rattle.sf_cells.specs.Hands.{plus}
use Rattle.sf_strips.specs.Vertices.{enters, pieces_with}
use Rattle.sf_cells.proofs.TallyLaws.{HasRoom, add_both, room_added}
use Rattle.sf_cells.proofs.tally.enter_level.Goals as goal

pub add_entering-requires-clause-room : goal.add_entering-requires-clause-room
add_entering-requires-clause-room c =
    let es = c.args.edges.now in
    let P : List ℕ → Type 0 = HasRoom (2 ^ 32) (length c.args.vertices.now) in
    subst P (sym c.add_edges.ensures)
    (room_added (2 ^ 32) (length es) (length c.args.vertices.now) c.args.groups.now c.args.tally.now (pieces_of es)
    (omega (arith, length-map es (λ e. e.piece))) c.requires.room)

pub returns : goal.returns
returns c =
    let ps = pieces_with enters c.args.vertices.now in
    c.add_entering.ensures
    ∙ ap (λ t. plus t (counts c.args.groups.now ps)) c.add_edges.ensures
    ∙ add_both c.args.groups.now c.args.tally.now (pieces_of c.args.edges.now) ps
