use Rattle.std.proofs.Common.{refl, ap}
use Rattle.sf_geometry.specs.Vertices.{remove_vertex}
use Rattle.sf_features.specs.Features.{change_geometry}
use Rattle.sf_layers.specs.Content.{change_feature}
use Rattle.sf_steps.specs.declared.edit.Edit.TheVariants as edits
use Rattle.sf_steps.specs.declared.inverse.Inverse.TheVariants as inverses
use Rattle.sf_edits.proofs.FeatureLaws.{place-unwrapped}
use Rattle.sf_edits.proofs.RedoLaws.{done-again, fits-again, removed-again, place-again, vertex-again}
use Rattle.sf_edits.proofs.VertexLaws.{back-there}
use Rattle.sf_edits.proofs.redo.redo_remove_vertex.Goals as goal

pub unwrap-place-requires : goal.unwrap-place-requires
unwrap-place-requires c = place-again c.args.store.now (edits.RemoveVertex c.args.layer c.args.id c.args.part c.args.ring c.args.index) c.args.layer c.as_str.result.now _ _ refl c.requires c.as_str.ensures c.place.ensures.found

pub take_vertex_back-old-requires-clause-there : goal.take_vertex_back-old-requires-clause-there
take_vertex_back-old-requires-clause-there c =
    back-there c.args.store.now c.args.layer c.args.id c.unwrap-place.result (λ g. remove_vertex g c.args.part c.args.ring c.args.index)
    (place-unwrapped c.args.store.now c.args.layer c.as_str.result.now c.place.result c.unwrap-place.result c.as_str.ensures c.unwrap-place.ensures c.place.ensures.there)
    (removed-again c.args.store.now c.args.layer c.args.id c.args.part c.args.ring c.args.index c.requires)

pub take_vertex_back-old-requires-clause-fits : goal.take_vertex_back-old-requires-clause-fits
take_vertex_back-old-requires-clause-fits c =
    fits-again c.args.store.now (edits.RemoveVertex c.args.layer c.args.id c.args.part c.args.ring c.args.index) c.args.layer c.unwrap-place.result (change_feature c.args.id (change_geometry (λ g. remove_vertex g c.args.part c.args.ring c.args.index))) refl tt c.place.ensures.well_formed c.requires
    (place-unwrapped c.args.store.now c.args.layer c.as_str.result.now c.place.result c.unwrap-place.result c.as_str.ensures c.unwrap-place.ensures c.place.ensures.there)

pub returns : goal.returns
returns c =
    done-again c.args.store.now c.take_vertex_back-old.new.self (edits.RemoveVertex c.args.layer c.args.id c.args.part c.args.ring c.args.index) (inverses.PutVertex c.args.layer c.args.id c.args.part c.args.ring c.args.index c.take_vertex_back-old.result) c.args.layer c.unwrap-place.result
    (change_feature c.args.id (change_geometry (λ g. remove_vertex g c.args.part c.args.ring c.args.index))) refl c.place.ensures.well_formed c.requires
    (place-unwrapped c.args.store.now c.args.layer c.as_str.result.now c.place.result c.unwrap-place.result c.as_str.ensures c.unwrap-place.ensures c.place.ensures.there)
    c.take_vertex_back-old.ensures.removed
    (ap (inverses.PutVertex c.args.layer c.args.id c.args.part c.args.ring c.args.index) (vertex-again c.args.store.now c.args.layer c.args.id c.unwrap-place.result c.args.part c.args.ring c.args.index (λ g. remove_vertex g c.args.part c.args.ring c.args.index) c.take_vertex_back-old.result
    (place-unwrapped c.args.store.now c.args.layer c.as_str.result.now c.place.result c.unwrap-place.result c.as_str.ensures c.unwrap-place.ensures c.place.ensures.there)
    (removed-again c.args.store.now c.args.layer c.args.id c.args.part c.args.ring c.args.index c.requires) c.take_vertex_back-old.ensures.given))
