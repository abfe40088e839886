use Rattle.std.proofs.Common.{◌∙◌, sym}
use Rattle.sf_edits.proofs.EntryLaws.{adding-looked}
use Rattle.sf_edits.proofs.FeatureLaws.{entry-there}
use Rattle.sf_edits.proofs.feature_edits.place_for_feature.Goals as goal

pub layer_there-requires : goal.layer_there-requires
layer_there-requires c = entry-there c.args.store.now c.args.name.now c.in-Some.place c.in-Some.ensures.there (sym c.in-Some.ensures.found)

pub returns-in-Some-entry_fault-clause-refused : goal.returns-in-Some-entry_fault-clause-refused
returns-in-Some-entry_fault-clause-refused c =
    adding-looked c.args.store.now c.args.name.now c.args.geometry.now c.in-Some.place c.layer_there.result.now c.in-Some.ensures.there c.layer_there.ensures ∙ sym c.in-Some-entry_fault.ensures

pub returns-in-None-clause-passed : goal.returns-in-None-clause-passed
returns-in-None-clause-passed c =
    adding-looked c.args.store.now c.args.name.now c.args.geometry.now c.in-Some.place c.layer_there.result.now c.in-Some.ensures.there c.layer_there.ensures ∙ sym c.in-None.ensures
