use Rattle.sf_geometry.specs.Vertices.{move_vertex}
use Rattle.sf_features.specs.Features.{change_geometry}
use Rattle.sf_layers.specs.Content.{change_feature}
use Rattle.sf_edits.proofs.Carrying.{fits-at}
use Rattle.sf_edits.proofs.FeatureLaws.{place-unwrapped}
use Rattle.sf_edits.proofs.VertexLaws.{back-there, moved-back, moved-undone}
use Rattle.sf_edits.proofs.vertex_edits.undo_move_vertex.Goals as goal

pub move_vertex_back-point-requires-clause-there : goal.move_vertex_back-point-requires-clause-there
move_vertex_back-point-requires-clause-there c =
    back-there c.args.store.now c.args.layer c.args.id c.unwrap-place.result (λ g. move_vertex g c.args.part c.args.ring c.args.index c.args.old)
    (place-unwrapped c.args.store.now c.args.layer c.as_str.result.now c.place.result c.unwrap-place.result c.as_str.ensures c.unwrap-place.ensures c.place.ensures.there)
    (moved-back c.args.store.now c.args.layer c.args.id c.args.part c.args.ring c.args.index c.args.old c.requires)

pub move_vertex_back-point-requires-clause-fits : goal.move_vertex_back-point-requires-clause-fits
move_vertex_back-point-requires-clause-fits c =
    fits-at c.args.store.now c.args.layer c.unwrap-place.result (change_feature c.args.id (change_geometry (λ g. move_vertex g c.args.part c.args.ring c.args.index c.args.old)))
    (place-unwrapped c.args.store.now c.args.layer c.as_str.result.now c.place.result c.unwrap-place.result c.as_str.ensures c.unwrap-place.ensures c.place.ensures.there)
    c.requires.well_formed

pub returns : goal.returns
returns c =
    moved-undone c.args.store.now c.move_vertex_back-point.new.self c.args.layer c.args.id c.unwrap-place.result c.args.part c.args.ring c.args.index c.args.old c.move_vertex_back-point.result c.requires
    (place-unwrapped c.args.store.now c.args.layer c.as_str.result.now c.place.result c.unwrap-place.result c.as_str.ensures c.unwrap-place.ensures c.place.ensures.there)
    c.move_vertex_back-point.ensures.moved c.move_vertex_back-point.ensures.given
