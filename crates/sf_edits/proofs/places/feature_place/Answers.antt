use Rattle.std.proofs.Common.{sym}
use Rattle.sf_edits.proofs.FeatureLaws.{entry-there, feature-failed, feature-passed}
use Rattle.sf_edits.proofs.places.feature_place.Goals as goal

pub layer_there-requires : goal.layer_there-requires
layer_there-requires c = entry-there c.args.store.now c.args.name.now c.in-Some.place c.in-Some.ensures.there (sym c.in-Some.ensures.found)

pub returns-in-Some-feature-clause-passed : goal.returns-in-Some-feature-clause-passed
returns-in-Some-feature-clause-passed c =
    feature-passed c.args.store.now c.args.name.now c.args.id c.in-Some.place c.layer_there.result.now c.in-Some-feature.field-0.now c.in-Some.ensures.there c.layer_there.ensures (sym c.in-Some-feature.ensures)

pub returns-in-None-clause-refused : goal.returns-in-None-clause-refused
returns-in-None-clause-refused c =
    feature-failed c.args.store.now c.args.name.now c.args.id c.in-Some.place c.layer_there.result.now c.in-Some.ensures.there c.layer_there.ensures (sym c.in-None.ensures)
