use Rattle.sf_geometry.specs.Vertices.{remove_vertex}
use Rattle.sf_features.specs.Features.{change_geometry}
use Rattle.sf_layers.specs.Content.{change_feature}
use Rattle.sf_edits.proofs.Carrying.{fits-at}
use Rattle.sf_edits.proofs.FeatureLaws.{place-unwrapped}
use Rattle.sf_edits.proofs.VertexLaws.{back-there, inserted-back, inserted-undone}
use Rattle.sf_edits.proofs.vertex_edits.undo_insert_vertex.Goals as goal

pub take_vertex_back-point-requires-clause-there : goal.take_vertex_back-point-requires-clause-there
take_vertex_back-point-requires-clause-there c =
    back-there c.args.store.now c.args.layer c.args.id c.unwrap-place.result (λ g. remove_vertex g c.args.part c.args.ring c.args.index)
    (place-unwrapped c.args.store.now c.args.layer c.as_str.result.now c.place.result c.unwrap-place.result c.as_str.ensures c.unwrap-place.ensures c.place.ensures.there)
    (inserted-back c.args.store.now c.args.layer c.args.id c.args.part c.args.ring c.args.index c.requires)

pub take_vertex_back-point-requires-clause-fits : goal.take_vertex_back-point-requires-clause-fits
take_vertex_back-point-requires-clause-fits c =
    fits-at c.args.store.now c.args.layer c.unwrap-place.result (change_feature c.args.id (change_geometry (λ g. remove_vertex g c.args.part c.args.ring c.args.index)))
    (place-unwrapped c.args.store.now c.args.layer c.as_str.result.now c.place.result c.unwrap-place.result c.as_str.ensures c.unwrap-place.ensures c.place.ensures.there)
    c.requires.well_formed

pub returns : goal.returns
returns c =
    inserted-undone c.args.store.now c.take_vertex_back-point.new.self c.args.layer c.args.id c.unwrap-place.result c.args.part c.args.ring c.args.index c.take_vertex_back-point.result c.requires
    (place-unwrapped c.args.store.now c.args.layer c.as_str.result.now c.place.result c.unwrap-place.result c.as_str.ensures c.unwrap-place.ensures c.place.ensures.there)
    c.take_vertex_back-point.ensures.removed c.take_vertex_back-point.ensures.given
