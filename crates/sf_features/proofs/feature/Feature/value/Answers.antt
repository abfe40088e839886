use Rattle.std.proofs.Common.{◌≡◌, ◌∙◌, ap, sym, subst, length, get_or, slice_get, Some, arith}
use Rattle.std.specs.List.Sorted.{IsStrictlySortedBy}
use Rattle.std.specs.Map.{keys_of}
use Rattle.std.specs.Ordering.{nat_cmp}
use Rattle.sf_features.specs.Features.{AreByNumber}
use Rattle.sf_features.proofs.Entries.{answers-rise, lookup-at, lookup-gap, hit}
use Rattle.sf_features.proofs.feature.Feature.value.Goals as goal

pub index-requires : goal.index-requires
index-requires c = omega (arith, c.in-Ok.ensures.within, ap (λ f. length f.values) c.self.view_is, c.self.inside.values.ok.0)

pub returns-in-Ok : goal.returns-in-Ok
returns-in-Ok c =
    let values = c.args.self.now.values in
    let rising : IsStrictlySortedBy nat_cmp (keys_of values) = (subst (λ f. AreByNumber f.values) c.self.view_is c.self.invariant).rising in
    let entry = c.index.result.now in
    let at : slice_get values c.in-Ok.place ≡ Some (c.args.number, entry.1) = hit c.args.number values c.in-Ok.place entry c.in-Ok.ensures.within c.in-Ok.ensures.found
    (c.index.ensures ∙ ap (λ f. get_or f.values c.in-Ok.place entry) c.self.view_is) in
    sym (lookup-at c.args.number entry.1 values c.in-Ok.place rising at)

pub returns-in-Err : goal.returns-in-Err
returns-in-Err c =
    let values = c.args.self.now.values in
    let rising : IsStrictlySortedBy nat_cmp (keys_of values) = (subst (λ f. AreByNumber f.values) c.self.view_is c.self.invariant).rising in
    sym (lookup-gap c.args.number values c.in-Err.field-0 (c.in-Err.ensures.found (answers-rise c.args.number values rising)))
