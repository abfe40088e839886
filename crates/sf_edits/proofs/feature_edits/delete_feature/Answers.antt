use Rattle.sf_edits.proofs.FeatureLaws.{deleted, is-placed}
use Rattle.sf_edits.proofs.feature_edits.delete_feature.Goals as goal

pub returns : goal.returns
returns c =
    deleted c.args.store.now c.take_feature-feature.new.self c.args.layer c.args.id c.in-Ok.place c.take_feature-feature.result
    (is-placed c.args.store.now c.args.layer c.as_str.result.now c.args.id c.in-Ok.place c.as_str.ensures c.in-Ok.ensures.place c.in-Ok.ensures.passed c.in-Ok.ensures.well_formed)
    c.take_feature-feature.ensures.taken c.take_feature-feature.ensures.rest
