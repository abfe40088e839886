use Rattle.std.proofs.Common.{◌∙◌, sym}
use Rattle.sf_edits.proofs.EntryLaws.{replacing-looked}
use Rattle.sf_edits.proofs.feature_edits.place_for_geometry.Goals as goal

pub returns-in-Some-clause-refused : goal.returns-in-Some-clause-refused
returns-in-Some-clause-refused c =
    replacing-looked c.args.store.now c.args.name.now c.args.id c.args.geometry.now c.in_ok-place.place c.layer_there.result.now c.in_ok-place.ensures.place c.layer_there.ensures c.in_ok-place.ensures.passed
    ∙ sym c.in-Some.ensures

pub returns-in-None-clause-passed : goal.returns-in-None-clause-passed
returns-in-None-clause-passed c =
    replacing-looked c.args.store.now c.args.name.now c.args.id c.args.geometry.now c.in_ok-place.place c.layer_there.result.now c.in_ok-place.ensures.place c.layer_there.ensures c.in_ok-place.ensures.passed
    ∙ sym c.in-None.ensures
