use Rattle.std.proofs.Common.{◌∙◌, refl}
use Rattle.sf_geometry.specs.Vertices.{insert_vertex, insertion}
use Rattle.sf_steps.specs.declared.edit.Edit.TheVariants as edits
use Rattle.sf_steps.specs.declared.inverse.Inverse.TheVariants as inverses
use Rattle.sf_steps.specs.Refusals.{from_validity}
use Rattle.sf_edits.proofs.FeatureLaws.{is-placed}
use Rattle.sf_edits.proofs.VertexLaws.{refused-same, vertex-done, vertex-missed, vertex-refused}
use Rattle.sf_edits.proofs.vertex_edits.insert_vertex.Goals.{in-Ok+in-Err-insert_vertex, in-Err}
use Rattle.sf_edits.proofs.vertex_edits.insert_vertex.Goals as goal

pub returns-in-Ok-insert_vertex : goal.returns-in-Ok-insert_vertex
returns-in-Ok-insert_vertex c =
    vertex-done c.args.store.now c.insert_vertex.new.self (edits.InsertVertex c.args.layer c.args.id c.args.part c.args.ring c.args.index c.args.point) (inverses.TakeVertex c.args.layer c.args.id c.args.part c.args.ring c.args.index) c.args.layer c.args.id c.in-Ok.place
    (λ g. insert_vertex g c.args.part c.args.ring c.args.index c.args.point) refl refl
    (is-placed c.args.store.now c.args.layer c.as_str.result.now c.args.id c.in-Ok.place c.as_str.ensures c.in-Ok.ensures.place c.in-Ok.ensures.passed c.in-Ok.ensures.well_formed)
    c.in-Ok-insert_vertex.ensures.valid c.in-Ok-insert_vertex.ensures.inserted refl

pub returns : goal.returns
returns c =
    elim c.match-feature_place.branch [
      | in-Ok+in-Err-insert_vertex w ↦
          refused-same c.args.store.now c.match-feature_place.store w.insert_vertex.new.self (edits.InsertVertex c.args.layer c.args.id c.args.part c.args.ring c.args.index c.args.point) c.match-feature_place.refusal (from_validity w.in-Err-insert_vertex.refusal) w.store-is (w.refusal-is ∙ w.into.ensures)
          (vertex-refused c.args.store.now w.insert_vertex.new.self (edits.InsertVertex c.args.layer c.args.id c.args.part c.args.ring c.args.index c.args.point) c.args.layer c.args.id w.in-Ok.place (insertion c.args.index c.args.point) c.args.part c.args.ring w.in-Err-insert_vertex.refusal refl (λ fault. refl)
          (is-placed c.args.store.now c.args.layer c.as_str.result.now c.args.id w.in-Ok.place c.as_str.ensures w.in-Ok.ensures.place w.in-Ok.ensures.passed w.in-Ok.ensures.well_formed) w.in-Err-insert_vertex.ensures.refused w.in-Err-insert_vertex.ensures.unchanged)
      | in-Err w ↦
          refused-same c.args.store.now c.match-feature_place.store c.args.store.now (edits.InsertVertex c.args.layer c.args.id c.args.part c.args.ring c.args.index c.args.point) c.match-feature_place.refusal w.in-Err.refusal w.store-is w.refusal-is
          (vertex-missed c.args.store.now (edits.InsertVertex c.args.layer c.args.id c.args.part c.args.ring c.args.index c.args.point) c.args.layer c.as_str.result.now c.args.id (λ g. insert_vertex g c.args.part c.args.ring c.args.index c.args.point) w.in-Err.refusal refl c.as_str.ensures w.in-Err.ensures.refused)
    ]
