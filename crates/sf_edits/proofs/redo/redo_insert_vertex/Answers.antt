use Rattle.std.proofs.Common.{refl}
use Rattle.sf_geometry.specs.Vertices.{insert_vertex}
use Rattle.sf_features.specs.Features.{change_geometry}
use Rattle.sf_layers.specs.Content.{change_feature}
use Rattle.sf_steps.specs.declared.edit.Edit.TheVariants as edits
use Rattle.sf_steps.specs.declared.inverse.Inverse.TheVariants as inverses
use Rattle.sf_edits.proofs.FeatureLaws.{place-unwrapped}
use Rattle.sf_edits.proofs.RedoLaws.{CarriesOrKeeps-done, done-again, fits-again, inserted-again, place-again}
use Rattle.sf_edits.proofs.VertexLaws.{back-there}
use Rattle.sf_edits.proofs.redo.redo_insert_vertex.Goals as goal

pub unwrap-place-requires : goal.unwrap-place-requires
unwrap-place-requires c = place-again c.args.store.now (edits.InsertVertex c.args.layer c.args.id c.args.part c.args.ring c.args.index c.args.point) c.args.layer c.as_str.result.now _ _ refl c.requires c.as_str.ensures c.place.ensures.found

pub put_vertex_back-requires-clause-there : goal.put_vertex_back-requires-clause-there
put_vertex_back-requires-clause-there c =
    back-there c.args.store.now c.args.layer c.args.id c.unwrap-place.result (λ g. insert_vertex g c.args.part c.args.ring c.args.index c.args.point)
    (place-unwrapped c.args.store.now c.args.layer c.as_str.result.now c.place.result c.unwrap-place.result c.as_str.ensures c.unwrap-place.ensures c.place.ensures.there)
    (inserted-again c.args.store.now c.args.layer c.args.id c.args.part c.args.ring c.args.index c.args.point c.requires)

pub put_vertex_back-requires-clause-fits : goal.put_vertex_back-requires-clause-fits
put_vertex_back-requires-clause-fits c =
    fits-again c.args.store.now (edits.InsertVertex c.args.layer c.args.id c.args.part c.args.ring c.args.index c.args.point) c.args.layer c.unwrap-place.result (change_feature c.args.id (change_geometry (λ g. insert_vertex g c.args.part c.args.ring c.args.index c.args.point))) refl c.x.ensures.on_grid c.place.ensures.well_formed c.requires
    (place-unwrapped c.args.store.now c.args.layer c.as_str.result.now c.place.result c.unwrap-place.result c.as_str.ensures c.unwrap-place.ensures c.place.ensures.there)

pub returns-in-Ok : goal.returns-in-Ok
returns-in-Ok c =
    CarriesOrKeeps-done c.args.store.now c.put_vertex_back.new.self (edits.InsertVertex c.args.layer c.args.id c.args.part c.args.ring c.args.index c.args.point) (inverses.TakeVertex c.args.layer c.args.id c.args.part c.args.ring c.args.index)
    (done-again c.args.store.now c.put_vertex_back.new.self (edits.InsertVertex c.args.layer c.args.id c.args.part c.args.ring c.args.index c.args.point) (inverses.TakeVertex c.args.layer c.args.id c.args.part c.args.ring c.args.index) c.args.layer c.unwrap-place.result
    (change_feature c.args.id (change_geometry (λ g. insert_vertex g c.args.part c.args.ring c.args.index c.args.point))) refl c.place.ensures.well_formed c.requires
    (place-unwrapped c.args.store.now c.args.layer c.as_str.result.now c.place.result c.unwrap-place.result c.as_str.ensures c.unwrap-place.ensures c.place.ensures.there)
    c.in-Ok.ensures.inserted refl)
