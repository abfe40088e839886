use Rattle.std.proofs.Common.{◌∙◌, ap, refl}
use Rattle.sf_geometry.specs.Vertices.{remove_vertex, removal}
use Rattle.sf_steps.specs.declared.edit.Edit.TheVariants as edits
use Rattle.sf_steps.specs.declared.inverse.Inverse.TheVariants as inverses
use Rattle.sf_steps.specs.Refusals.{from_validity}
use Rattle.sf_edits.proofs.FeatureLaws.{is-placed}
use Rattle.sf_edits.proofs.VertexLaws.{refused-same, vertex-done, vertex-missed, vertex-refused, vertex-was}
use Rattle.sf_edits.proofs.vertex_edits.remove_vertex.Goals.{in-Ok+in-Err-remove_vertex, in-Err}
use Rattle.sf_edits.proofs.vertex_edits.remove_vertex.Goals as goal

pub returns-in-Ok-remove_vertex : goal.returns-in-Ok-remove_vertex
returns-in-Ok-remove_vertex c =
    vertex-done c.args.store.now c.remove_vertex.new.self (edits.RemoveVertex c.args.layer c.args.id c.args.part c.args.ring c.args.index) (inverses.PutVertex c.args.layer c.args.id c.args.part c.args.ring c.args.index c.in-Ok-remove_vertex.old) c.args.layer c.args.id c.in-Ok.place
    (λ g. remove_vertex g c.args.part c.args.ring c.args.index) refl refl
    (is-placed c.args.store.now c.args.layer c.as_str.result.now c.args.id c.in-Ok.place c.as_str.ensures c.in-Ok.ensures.place c.in-Ok.ensures.passed c.in-Ok.ensures.well_formed)
    c.in-Ok-remove_vertex.ensures.valid c.in-Ok-remove_vertex.ensures.removed (ap (inverses.PutVertex c.args.layer c.args.id c.args.part c.args.ring c.args.index) (vertex-was c.args.store.now c.args.layer c.args.id c.in-Ok.place c.args.part c.args.ring c.args.index c.in-Ok-remove_vertex.old
    (is-placed c.args.store.now c.args.layer c.as_str.result.now c.args.id c.in-Ok.place c.as_str.ensures c.in-Ok.ensures.place c.in-Ok.ensures.passed c.in-Ok.ensures.well_formed) c.in-Ok-remove_vertex.ensures.given))

pub returns : goal.returns
returns c =
    elim c.match-feature_place.branch [
      | in-Ok+in-Err-remove_vertex w ↦
          refused-same c.args.store.now c.match-feature_place.store w.remove_vertex.new.self (edits.RemoveVertex c.args.layer c.args.id c.args.part c.args.ring c.args.index) c.match-feature_place.refusal (from_validity w.in-Err-remove_vertex.refusal) w.store-is (w.refusal-is ∙ w.into.ensures)
          (vertex-refused c.args.store.now w.remove_vertex.new.self (edits.RemoveVertex c.args.layer c.args.id c.args.part c.args.ring c.args.index) c.args.layer c.args.id w.in-Ok.place (removal c.args.index) c.args.part c.args.ring w.in-Err-remove_vertex.refusal refl (λ fault. refl)
          (is-placed c.args.store.now c.args.layer c.as_str.result.now c.args.id w.in-Ok.place c.as_str.ensures w.in-Ok.ensures.place w.in-Ok.ensures.passed w.in-Ok.ensures.well_formed) w.in-Err-remove_vertex.ensures.refused w.in-Err-remove_vertex.ensures.unchanged)
      | in-Err w ↦
          refused-same c.args.store.now c.match-feature_place.store c.args.store.now (edits.RemoveVertex c.args.layer c.args.id c.args.part c.args.ring c.args.index) c.match-feature_place.refusal w.in-Err.refusal w.store-is w.refusal-is
          (vertex-missed c.args.store.now (edits.RemoveVertex c.args.layer c.args.id c.args.part c.args.ring c.args.index) c.args.layer c.as_str.result.now c.args.id (λ g. remove_vertex g c.args.part c.args.ring c.args.index) w.in-Err.refusal refl c.as_str.ensures w.in-Err.ensures.refused)
    ]
