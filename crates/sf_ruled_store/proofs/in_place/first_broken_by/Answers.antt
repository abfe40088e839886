use Rattle.std.proofs.Common.{sym, subst}
use Rattle.sf_rules.specs.Underway.{HeldBefore}
use Rattle.sf_ruled_store.specs.InPlace.{WasPut}
use Rattle.sf_ruled_store.proofs.InPlaceLaws.{put-feature, put-value}
use Rattle.sf_ruled_store.proofs.in_place.first_broken_by.Goals as goal

pub first_broken_at-requires : goal.first_broken_at-requires
first_broken_at-requires c =
    subst (λ name. HeldBefore name c.in-TakeFeature.id c.args.store.now c.as_slice.result.now) (sym c.as_str.ensures)
    (subst (λ rules. HeldBefore c.in-TakeFeature.layer c.in-TakeFeature.id c.args.store.now rules) (sym c.as_slice.ensures)
    (put-feature c.args.rules.now c.in-TakeFeature.layer c.in-TakeFeature.id c.args.store.now
    (subst (λ inverse. WasPut c.args.rules.now inverse c.args.store.now) c.in-TakeFeature.is c.requires)))

pub first_broken_at-requires-in-PutValue : goal.first_broken_at-requires-in-PutValue
first_broken_at-requires-in-PutValue c =
    subst (λ name. HeldBefore name c.in-PutValue.id c.args.store.now c.as_slice-in-PutValue.result.now) (sym c.as_str-in-PutValue.ensures)
    (subst (λ rules. HeldBefore c.in-PutValue.layer c.in-PutValue.id c.args.store.now rules) (sym c.as_slice-in-PutValue.ensures)
    (put-value c.args.rules.now c.in-PutValue.layer c.in-PutValue.id c.in-PutValue.column c.in-PutValue.old c.args.store.now
    (subst (λ inverse. WasPut c.args.rules.now inverse c.args.store.now) c.in-PutValue.is c.requires)))
