use Rattle.std.proofs.Common.{◌≡◌, ◌∙◌, ℕ, IfSome, IsTrue, Some, ap, filter, nat_eq, subst, sym}
use Rattle.std.specs.List.{Contains}
use Rattle.std.specs.List.Sorted.{IsStrictlySortedBy}
use Rattle.std.specs.Map.{keys_of, lookup}
use Rattle.std.specs.Ordering.{nat_cmp}
use Rattle.sf_features.specs.Features.{FeatureContent}
use Rattle.sf_features.specs.Values.{same_value}
use Rattle.sf_layers.specs.Found.{has_value_that, ids_with_value}
use Rattle.sf_layers.specs.ValueIndexes.{AreListed}
use Rattle.sf_layers.proofs.ValueFound.{listed-rise, listed-there}
use Rattle.sf_layers.proofs.ValueRuns.{IfOk-map}
use Rattle.sf_layers.proofs.layer.Layer.ids_with_value.Goals as goal
use Rattle.sf_layers.proofs.layer.Layer.ids_with_value.Goals.{After-as_slice}

-- the index lists these identifiers
listed : (c : After-as_slice) → AreListed (same_value c.args.value.now) c.args.number c.self.inside.values c.in-Some.ids.items
listed c = subst (λ found. IfSome found (λ ids. AreListed (same_value c.args.value.now) c.args.number c.self.inside.values ids.items)) c.in-Some.is c.in_ok-ids.ensures

pub ids_among-requires-clause-rising : goal.ids_among-requires-clause-rising
ids_among-requires-clause-rising c =
    let listed = listed (goal.at.ids_among-requires-clause-rising c).After-as_slice in
    subst (IsStrictlySortedBy nat_cmp) (sym c.as_slice.ensures.value) (listed-rise c.args.number (same_value c.args.value.now) c.self.inside.values c.in-Some.ids.items listed)

-- and they have all that are asked for
pub ids_among-requires-clause-all : goal.ids_among-requires-clause-all
ids_among-requires-clause-all c =
    let listed = listed (goal.at.ids_among-requires-clause-all c).After-as_slice in
    let features = c.self.inside.features.entries in
    subst (λ given. (id : ℕ) → (feature : FeatureContent) → lookup (nat_eq id) features ≡ Some feature → IsTrue (has_value_that (same_value c.args.value.now) c.args.number feature) → Contains given id)
    (sym c.as_slice.ensures.value) (listed-there c.args.number (same_value c.args.value.now) c.self.inside.values features c.in-Some.ids.items c.self.invariant.1 listed)

pub returns-in-Some : goal.returns-in-Some
returns-in-Some c =
    IfOk-map (λ ids. ids.items ≡ keys_of (filter (λ entry. has_value_that (same_value c.args.value.now) c.args.number entry.1) c.self.inside.features.entries))
    (λ ids. ids.items ≡ ids_with_value c.args.number c.args.value.now c.args.self.now) c.ids_among.result (λ ids is. is ∙ ap (ids_with_value c.args.number c.args.value.now) c.self.view_is) c.ids_among.ensures

pub returns-in-None : goal.returns-in-None
returns-in-None c =
    IfOk-map (λ ids. ids.items ≡ keys_of (filter (λ entry. has_value_that (same_value c.args.value.now) c.args.number entry.1) c.self.inside.features.entries))
    (λ ids. ids.items ≡ ids_with_value c.args.number c.args.value.now c.args.self.now) c.ids_among_all.result (λ ids is. is ∙ ap (ids_with_value c.args.number c.args.value.now) c.self.view_is) c.ids_among_all.ensures
