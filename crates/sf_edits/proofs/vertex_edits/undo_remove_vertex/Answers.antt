use Rattle.sf_geometry.specs.Vertices.{insert_vertex}
use Rattle.sf_features.specs.Features.{change_geometry}
use Rattle.sf_layers.specs.Content.{change_feature}
use Rattle.sf_edits.proofs.Carrying.{fits-at}
use Rattle.sf_edits.proofs.FeatureLaws.{place-found, place-unwrapped}
use Rattle.sf_edits.proofs.VertexLaws.{back-layer, back-there, removed-back, removed-undone}
use Rattle.sf_edits.proofs.vertex_edits.undo_remove_vertex.Goals as goal

pub put_vertex_back-requires-clause-there : goal.put_vertex_back-requires-clause-there
put_vertex_back-requires-clause-there c =
    back-there c.args.store.now c.args.layer c.args.id c.unwrap-place.result (λ g. insert_vertex g c.args.part c.args.ring c.args.index c.args.old)
    (place-unwrapped c.args.store.now c.args.layer c.as_str.result.now c.place.result c.unwrap-place.result c.as_str.ensures c.unwrap-place.ensures c.place.ensures.there)
    (removed-back c.args.store.now c.args.layer c.args.id c.args.part c.args.ring c.args.index c.args.old c.requires)

pub put_vertex_back-requires-clause-fits : goal.put_vertex_back-requires-clause-fits
put_vertex_back-requires-clause-fits c =
    fits-at c.args.store.now c.args.layer c.unwrap-place.result (change_feature c.args.id (change_geometry (λ g. insert_vertex g c.args.part c.args.ring c.args.index c.args.old)))
    (place-unwrapped c.args.store.now c.args.layer c.as_str.result.now c.place.result c.unwrap-place.result c.as_str.ensures c.unwrap-place.ensures c.place.ensures.there)
    c.requires.well_formed

pub returns-in-Ok : goal.returns-in-Ok
returns-in-Ok c =
    removed-undone c.args.store.now c.put_vertex_back.new.self c.args.layer c.args.id c.unwrap-place.result c.args.part c.args.ring c.args.index c.args.old c.requires
    (place-unwrapped c.args.store.now c.args.layer c.as_str.result.now c.place.result c.unwrap-place.result c.as_str.ensures c.unwrap-place.ensures c.place.ensures.there)
    c.in-Ok.ensures.inserted

pub unwrap-place-requires : goal.unwrap-place-requires
unwrap-place-requires c =
    let there = back-layer c.args.store.now c.args.layer c.args.id (λ g. insert_vertex g c.args.part c.args.ring c.args.index c.args.old)
    (removed-back c.args.store.now c.args.layer c.args.id c.args.part c.args.ring c.args.index c.args.old c.requires) in
    place-found c.args.store.now c.args.layer c.as_str.result.now _ there.0 c.as_str.ensures c.place.ensures.found there.1
