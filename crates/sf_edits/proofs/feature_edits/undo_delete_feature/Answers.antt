use Rattle.sf_edits.proofs.FeatureLaws.{place-found, place-unwrapped, undeleted, undeleted-done, undeleted-fits, undeleted-free}
use Rattle.sf_edits.proofs.feature_edits.undo_delete_feature.Goals as goal

pub unwrap-place-requires : goal.unwrap-place-requires
unwrap-place-requires c =
    let u = undeleted c.args.store.now c.args.layer c.args.id c.args.feature c.requires in
    place-found c.args.store.now c.args.layer c.as_str.result.now _ u.layer c.as_str.ensures c.place.ensures.found u.found

pub put_feature-requires-clause-free : goal.put_feature-requires-clause-free
put_feature-requires-clause-free c = undeleted-free c.args.store.now c.args.layer c.args.id c.unwrap-place.result c.args.feature c.requires (place-unwrapped c.args.store.now c.args.layer c.as_str.result.now c.place.result c.unwrap-place.result c.as_str.ensures c.unwrap-place.ensures c.place.ensures.there)

pub put_feature-requires-clause-fits : goal.put_feature-requires-clause-fits
put_feature-requires-clause-fits c = undeleted-fits c.args.store.now c.args.layer c.args.id c.unwrap-place.result c.args.feature c.requires (place-unwrapped c.args.store.now c.args.layer c.as_str.result.now c.place.result c.unwrap-place.result c.as_str.ensures c.unwrap-place.ensures c.place.ensures.there)

pub returns-in-Ok : goal.returns-in-Ok
returns-in-Ok c =
    undeleted-done c.args.store.now c.put_feature.new.self c.args.layer c.args.id c.unwrap-place.result c.args.feature c.requires (place-unwrapped c.args.store.now c.args.layer c.as_str.result.now c.place.result c.unwrap-place.result c.as_str.ensures c.unwrap-place.ensures c.place.ensures.there) c.in-Ok.ensures.put
