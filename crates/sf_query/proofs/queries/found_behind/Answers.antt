use Rattle.std.proofs.Common.{◌≡◌, ◌∙◌, IfOk, IsSome, nat_lt, refl, subst, sym}
use Rattle.std.specs.List.{AllByRecursion}
use Rattle.sf_layers.specs.Boxes.{boxes_of}
use Rattle.sf_layers.specs.Content.{feature_of}
use Rattle.sf_query.proofs.FilterLaws.{each-filter}
use Rattle.sf_query.proofs.QueryLaws.{AreNear, behind-asked, items-near, near-there}
use Rattle.sf_query.proofs.queries.found_behind.Goals as goal
use Rattle.sf_query.proofs.queries.found_behind.Goals.{Start}

-- what the index gave are the identifiers of the near features
near : (c : Start) → AreNear c.args.layer.now c.args.given.now c.args.near.now
near c = record { fits = c.requires.layer; are = items-near c.args.near.now (boxes_of c.args.layer.now.features) c.args.given.now c.args.layer.now.features c.requires.near refl }

pub ids_among-requires : goal.ids_among-requires
ids_among-requires c =
    subst (λ ids. AllByRecursion (λ id. IsSome (feature_of c.args.layer.now id)) ids) (sym (c.as_slice.ensures.value ∙ c.in_ok-behind.ensures))
    (each-filter (λ other. nat_lt c.args.id other) (λ id. IsSome (feature_of c.args.layer.now id)) c.args.near.now
    (near-there c.args.layer.now c.args.given.now c.args.near.now (near (goal.at.ids_among-requires c).Start)))

pub returns : goal.returns
returns c =
    subst (λ items. IfOk c.ids_among.result (λ ids. ids.items ≡ items))
    (behind-asked c.args.layer.now c.args.ask.now c.args.given.now c.args.near.now c.as_slice.result.now c.args.id (near (goal.at.returns c).Start) c.requires.valid c.requires.contact
    (c.as_slice.ensures.value ∙ c.in_ok-behind.ensures))
    c.ids_among.ensures
