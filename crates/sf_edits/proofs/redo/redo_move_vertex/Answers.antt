use Rattle.std.proofs.Common.{refl, ap}
use Rattle.sf_geometry.specs.Vertices.{move_vertex}
use Rattle.sf_features.specs.Features.{change_geometry}
use Rattle.sf_layers.specs.Content.{change_feature}
use Rattle.sf_steps.specs.declared.edit.Edit.TheVariants as edits
use Rattle.sf_steps.specs.declared.inverse.Inverse.TheVariants as inverses
use Rattle.sf_edits.proofs.FeatureLaws.{place-unwrapped}
use Rattle.sf_edits.proofs.RedoLaws.{done-again, fits-again, moved-again, place-again, vertex-again}
use Rattle.sf_edits.proofs.VertexLaws.{back-there}
use Rattle.sf_edits.proofs.redo.redo_move_vertex.Goals as goal

pub unwrap-place-requires : goal.unwrap-place-requires
unwrap-place-requires c = place-again c.args.store.now (edits.MoveVertex c.args.layer c.args.id c.args.part c.args.ring c.args.index c.args.point) c.args.layer c.as_str.result.now _ _ refl c.requires c.as_str.ensures c.place.ensures.found

pub move_vertex_back-old-requires-clause-there : goal.move_vertex_back-old-requires-clause-there
move_vertex_back-old-requires-clause-there c =
    back-there c.args.store.now c.args.layer c.args.id c.unwrap-place.result (λ g. move_vertex g c.args.part c.args.ring c.args.index c.args.point)
    (place-unwrapped c.args.store.now c.args.layer c.as_str.result.now c.place.result c.unwrap-place.result c.as_str.ensures c.unwrap-place.ensures c.place.ensures.there)
    (moved-again c.args.store.now c.args.layer c.args.id c.args.part c.args.ring c.args.index c.args.point c.requires)

pub move_vertex_back-old-requires-clause-fits : goal.move_vertex_back-old-requires-clause-fits
move_vertex_back-old-requires-clause-fits c =
    fits-again c.args.store.now (edits.MoveVertex c.args.layer c.args.id c.args.part c.args.ring c.args.index c.args.point) c.args.layer c.unwrap-place.result (change_feature c.args.id (change_geometry (λ g. move_vertex g c.args.part c.args.ring c.args.index c.args.point))) refl c.x.ensures.on_grid c.place.ensures.well_formed c.requires
    (place-unwrapped c.args.store.now c.args.layer c.as_str.result.now c.place.result c.unwrap-place.result c.as_str.ensures c.unwrap-place.ensures c.place.ensures.there)

pub returns : goal.returns
returns c =
    done-again c.args.store.now c.move_vertex_back-old.new.self (edits.MoveVertex c.args.layer c.args.id c.args.part c.args.ring c.args.index c.args.point) (inverses.MoveVertex c.args.layer c.args.id c.args.part c.args.ring c.args.index c.move_vertex_back-old.result) c.args.layer c.unwrap-place.result
    (change_feature c.args.id (change_geometry (λ g. move_vertex g c.args.part c.args.ring c.args.index c.args.point))) refl c.place.ensures.well_formed c.requires
    (place-unwrapped c.args.store.now c.args.layer c.as_str.result.now c.place.result c.unwrap-place.result c.as_str.ensures c.unwrap-place.ensures c.place.ensures.there)
    c.move_vertex_back-old.ensures.moved
    (ap (inverses.MoveVertex c.args.layer c.args.id c.args.part c.args.ring c.args.index) (vertex-again c.args.store.now c.args.layer c.args.id c.unwrap-place.result c.args.part c.args.ring c.args.index (λ g. move_vertex g c.args.part c.args.ring c.args.index c.args.point) c.move_vertex_back-old.result
    (place-unwrapped c.args.store.now c.args.layer c.as_str.result.now c.place.result c.unwrap-place.result c.as_str.ensures c.unwrap-place.ensures c.place.ensures.there)
    (moved-again c.args.store.now c.args.layer c.args.id c.args.part c.args.ring c.args.index c.args.point c.requires) c.move_vertex_back-old.ensures.given))
