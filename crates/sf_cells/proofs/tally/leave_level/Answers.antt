use Rattle.std.proofs.Common.{sym, ap, ◌∙◌, subst, List, ℕ}
use Rattle.sf_strips.specs.Fronts.{pieces_of}
use Rattle.sf_cells.specs.Groups.{counts}
use Rattle.sf_cells.specs.Hands.{AtMost, minus}
use Rattle.sf_strips.specs.Vertices.{leaves, pieces_with}
use Rattle.sf_cells.proofs.TallyLaws.{first_there, second_there, take_both}
use Rattle.sf_cells.proofs.tally.leave_level.Goals as goal

pub take_edges-requires-clause-there : goal.take_edges-requires-clause-there
take_edges-requires-clause-there c =
    first_there c.args.groups.now c.args.tally.now (pieces_of c.args.edges.now) (pieces_with leaves c.args.vertices.now) c.requires.there

pub take_leaving-requires-clause-there : goal.take_leaving-requires-clause-there
take_leaving-requires-clause-there c =
    let ps = pieces_with leaves c.args.vertices.now in
    let P : List ℕ → Type 0 = λ t. AtMost (counts c.args.groups.now ps) t in
    subst P (sym c.take_edges.ensures)
    (second_there c.args.groups.now c.args.tally.now (pieces_of c.args.edges.now) ps c.requires.there)

pub returns : goal.returns
returns c =
    let ps = pieces_with leaves c.args.vertices.now in
    c.take_leaving.ensures
    ∙ ap (λ t. minus t (counts c.args.groups.now ps)) c.take_edges.ensures
    ∙ take_both c.args.groups.now c.args.tally.now (pieces_of c.args.edges.now) ps
