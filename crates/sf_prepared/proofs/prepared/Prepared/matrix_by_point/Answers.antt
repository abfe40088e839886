use Rattle.sf_prepared.proofs.FirstVertexLaws.{first-there}
use Rattle.sf_prepared.proofs.PlacedLaws.{apart-told, first-off, within-told}
use Rattle.sf_prepared.proofs.prepared.Prepared.matrix_by_point.Goals as goal

pub matrix_within-requires-clause-within : goal.matrix_within-requires-clause-within
matrix_within-requires-clause-within c =
    within-told c.args.geometry.now c.args.given.now c.geometry.result.now c.args.extent c.vertex.result c.in-Some.first c.place_of.result
    c.requires.valid c.requires.held.valid c.requires.area c.requires.extent c.requires.clear c.geometry.ensures.same c.vertex.ensures c.in-Some.is c.place_of.ensures.place c.in-Interior.is

pub matrix_apart-requires : goal.matrix_apart-requires
matrix_apart-requires c =
    apart-told c.args.geometry.now c.args.given.now c.geometry.result.now c.args.extent c.vertex.result c.in-Some.first c.place_of.result
    c.requires.valid c.requires.held.valid c.requires.area c.requires.extent c.requires.clear c.geometry.ensures.same c.vertex.ensures c.in-Some.is c.place_of.ensures.place c.in-Exterior.is

pub place_of-requires-clause-off : goal.place_of-requires-clause-off
place_of-requires-clause-off c =
    first-off c.args.geometry.now c.args.given.now c.geometry.result.now c.args.extent c.vertex.result c.in-Some.first
    c.requires.valid c.requires.extent c.requires.clear c.geometry.ensures.same c.vertex.ensures c.in-Some.is

pub returns-in_default-clause-answers : goal.returns-in_default-clause-answers
returns-in_default-clause-answers c =
    absurd (first-there c.args.geometry.now c.geometry.result.now c.vertex.result c.requires.valid c.geometry.ensures.same c.vertex.ensures c.in_default.is)
