use Rattle.std.proofs.Common.{◌≡◌, ◌∙◌, ap, sym, subst, length, get_or, remove, slice_get, Some, None, nat_eq, arith}
use Rattle.std.specs.List.Sorted.{IsStrictlySortedBy}
use Rattle.std.specs.Map.{keys_of, remove_entry}
use Rattle.std.specs.Ordering.{nat_cmp}
use Rattle.sf_features.specs.Features.{AreByNumber, FeatureContent, value_in}
use Rattle.sf_features.proofs.Entries.{answers-rise, lookup-at, lookup-gap, remove-at, remove_entry-none, AreByNumber-remove_entry, hit}
use Rattle.sf_features.proofs.feature.Feature.take_value.Goals as goal

pub remove-value-requires : goal.remove-value-requires
remove-value-requires c = omega (arith, c.in-Ok.ensures.within, ap (λ f. length f.values) c.self.view_is, c.self.inside.values.ok.0)

-- ---- a value that is there

fine : (c : goal.After-remove-value) → AreByNumber c.args.self.now.values
fine c = subst (λ f. AreByNumber f.values) c.self.view_is c.self.invariant

rising : (c : goal.After-remove-value) → IsStrictlySortedBy nat_cmp (keys_of c.args.self.now.values)
rising c = (fine c).rising

stands : (c : goal.After-remove-value) → slice_get c.args.self.now.values c.in-Ok.place ≡ Some (c.args.number, c.remove-value.result.1)
stands c =
    hit c.args.number c.args.self.now.values c.in-Ok.place c.remove-value.result c.in-Ok.ensures.within c.in-Ok.ensures.found
    (c.remove-value.ensures.value ∙ ap (λ f. get_or f.values c.in-Ok.place c.remove-value.result) c.self.view_is)

taken_out : (c : goal.After-remove-value) → c.remove-value.new.self.items ≡ remove_entry (nat_eq c.args.number) c.args.self.now.values
taken_out c =
    c.remove-value.ensures.items
    ∙ ap (λ f. remove f.values c.in-Ok.place) c.self.view_is
    ∙ remove-at c.args.number c.remove-value.result.1 c.args.self.now.values c.in-Ok.place (rising c) (stands c)

pub invariant_of-self : goal.invariant_of-self
invariant_of-self c =
    subst AreByNumber (sym (taken_out c)) (AreByNumber-remove_entry (nat_eq c.args.number) c.args.self.now.values (fine c))

pub returns-in-Ok-clause-taken : goal.returns-in-Ok-clause-taken
returns-in-Ok-clause-taken c = sym (lookup-at c.args.number c.remove-value.result.1 c.args.self.now.values c.in-Ok.place (rising c) (stands c))

pub returns-in-Ok-clause-rest : goal.returns-in-Ok-clause-rest
returns-in-Ok-clause-rest c =
    ap (λ es. let f : FeatureContent = record { geometry = c.self.inside.valid; values = es } in f) (taken_out c)
    ∙ ap (λ f. let g : FeatureContent = record { geometry = f.geometry; values = remove_entry (nat_eq c.args.number) c.args.self.now.values } in g) c.self.view_is

-- ---- a value that is not there

absent : (c : goal.In-Err) → value_in c.args.number c.args.self.now ≡ None
absent c =
    let values = c.args.self.now.values in
    let are : AreByNumber values = subst (λ f. AreByNumber f.values) c.self.view_is c.self.invariant in
    lookup-gap c.args.number values c.in-Err.field-0 (c.in-Err.ensures.found (answers-rise c.args.number values are.rising))

pub returns-in-Err-clause-taken : goal.returns-in-Err-clause-taken
returns-in-Err-clause-taken c = sym (absent c)

pub returns-in-Err-clause-rest : goal.returns-in-Err-clause-rest
returns-in-Err-clause-rest c =
    ap (λ es. let f : FeatureContent = record { geometry = c.args.self.now.geometry; values = es } in f) (sym (remove_entry-none c.args.number c.args.self.now.values (absent c)))
