use Rattle.std.proofs.Common.{◌≡◌, ◌∙◌, ap, sym, subst, length, get_or, insert, slice_get, slice_set, Some, None, arith}
use Rattle.std.specs.BTreeMap.{insert_entry}
use Rattle.std.specs.List.Sorted.{IsStrictlySortedBy}
use Rattle.std.specs.Map.{keys_of}
use Rattle.std.specs.Ordering.{nat_cmp}
use Rattle.sf_features.specs.Features.{AreByNumber, FeatureContent, value_in}
use Rattle.sf_features.proofs.Entries.{IsGap, answers-rise, lookup-at, lookup-gap, slice_set-at, insert-gap, AreByNumber-insert_entry, number-hit, hit}
use Rattle.sf_features.proofs.feature.Feature.put_value.Goals as goal
use Rattle.sf_features.proofs.feature.Feature.put_value.Goals.{in-Ok-insert, in-Err-insert}

pub index_mut-requires : goal.index_mut-requires
index_mut-requires c = omega (arith, c.in-Ok.ensures.within, ap (λ f. length f.values) c.self.view_is, c.self.inside.values.ok.0)

pub insert-requires : goal.insert-requires
insert-requires c = omega (arith, c.in-Err.ensures.within, ap (λ f. length f.values) c.self.view_is, c.self.inside.values.ok.0)

-- ---- over another value

is_read : (c : goal.After-self-1) → c.index_mut.result.now ≡ get_or c.args.self.now.values c.in-Ok.place c.index_mut.result.now
is_read c = c.index_mut.ensures.value ∙ ap (λ f. get_or f.values c.in-Ok.place c.index_mut.result.now) c.self.view_is

stands : (c : goal.After-self-1) → slice_get c.args.self.now.values c.in-Ok.place ≡ Some (c.args.number, c.index_mut.result.now.1)
stands c = hit c.args.number c.args.self.now.values c.in-Ok.place c.index_mut.result.now c.in-Ok.ensures.within c.in-Ok.ensures.found (is_read c)

fine : (c : goal.After-self-1) → AreByNumber c.args.self.now.values
fine c = subst (λ f. AreByNumber f.values) c.self.view_is c.self.invariant

rising : (c : goal.After-self-1) → IsStrictlySortedBy nat_cmp (keys_of c.args.self.now.values)
rising c = (fine c).rising

exchanged : (c : goal.After-self-1)
    → slice_set c.self.inside.values.items c.in-Ok.place (c.index_mut.result.now.0, c.replace-old.new.dest) ≡ insert_entry nat_cmp c.args.self.now.values c.args.number c.args.value
exchanged c =
    let values = c.args.self.now.values in
    let place = c.in-Ok.place in
    ap (λ f. slice_set f.values place (c.index_mut.result.now.0, c.replace-old.new.dest)) c.self.view_is
    ∙ ap (λ k. slice_set values place (k, c.replace-old.new.dest)) (number-hit c.args.number values place c.index_mut.result.now c.in-Ok.ensures.found (is_read c))
    ∙ ap (λ w. slice_set values place (c.args.number, w)) c.replace-old.ensures.after
    ∙ slice_set-at c.args.number c.index_mut.result.now.1 c.args.value values place (rising c) (stands c)

pub invariant_of-self : goal.invariant_of-self
invariant_of-self c =
    subst AreByNumber (sym (exchanged c)) (AreByNumber-insert_entry c.args.number c.args.value c.args.self.now.values (omega (arith, c.ranges.number)) (fine c))

pub returns-in-Ok-clause-put : goal.returns-in-Ok-clause-put
returns-in-Ok-clause-put c =
    ap (λ es. let f : FeatureContent = record { geometry = c.self.inside.valid; values = es } in f) (exchanged c)
    ∙ ap (λ f. let g : FeatureContent = record { geometry = f.geometry; values = insert_entry nat_cmp c.args.self.now.values c.args.number c.args.value } in g) c.self.view_is

pub returns-in-Ok-clause-old : goal.returns-in-Ok-clause-old
returns-in-Ok-clause-old c =
    ap Some c.replace-old.ensures.value ∙ sym (lookup-at c.args.number c.index_mut.result.now.1 c.args.self.now.values c.in-Ok.place (rising c) (stands c))

-- ---- where none is there

by_number : (c : goal.Joined-insert) → AreByNumber c.args.self.now.values
by_number c = subst (λ f. AreByNumber f.values) c.self.view_is c.self.invariant

rises : (c : goal.Joined-insert) → IsStrictlySortedBy nat_cmp (keys_of c.args.self.now.values)
rises c = (by_number c).rising

is_gap : (c : goal.Joined-insert) → IsGap c.args.number c.args.self.now.values c.in-Err.place
is_gap c = c.in-Err.ensures.found (answers-rise c.args.number c.args.self.now.values (rises c))

absent : (c : goal.Joined-insert) → value_in c.args.number c.args.self.now ≡ None
absent c = lookup-gap c.args.number c.args.self.now.values c.in-Err.place (is_gap c)

added : (c : goal.Joined-insert) → insert c.self.inside.values.items c.in-Err.place (c.args.number, c.args.value) ≡ insert_entry nat_cmp c.args.self.now.values c.args.number c.args.value
added c =
    ap (λ f. insert f.values c.in-Err.place (c.args.number, c.args.value)) c.self.view_is
    ∙ insert-gap c.args.number c.args.value c.args.self.now.values c.in-Err.place (is_gap c)

pub invariant_of-self-in-Err : goal.invariant_of-self-in-Err
invariant_of-self-in-Err c = elim c.match-insert.branch [
  | in-Ok-insert w ↦ subst AreByNumber (sym (rw w.in-Ok-insert.is at c.insert.ensures.items ∙ added c)) (AreByNumber-insert_entry c.args.number c.args.value c.args.self.now.values (omega (arith, c.ranges.number)) (by_number c))
  | in-Err-insert w ↦ subst AreByNumber (sym (rw w.in-Err-insert.is at c.insert.ensures.items)) c.self.invariant
]

pub returns-after-insert-clause-put : goal.returns-after-insert-clause-put
returns-after-insert-clause-put c = elim c.match-insert.branch [
  | in-Ok-insert w ↦ rw w.result-is (
      ap (λ es. let f : FeatureContent = record { geometry = c.self.inside.valid; values = es } in f) (rw w.in-Ok-insert.is at c.insert.ensures.items ∙ added c)
      ∙ ap (λ f. let g : FeatureContent = record { geometry = f.geometry; values = insert_entry nat_cmp c.args.self.now.values c.args.number c.args.value } in g) c.self.view_is)
  | in-Err-insert w ↦ rw w.result-is tt
]

pub returns-after-insert-clause-old : goal.returns-after-insert-clause-old
returns-after-insert-clause-old c = elim c.match-insert.branch [
  | in-Ok-insert w ↦ rw w.result-is (sym (absent c))
  | in-Err-insert w ↦ rw w.result-is tt
]

pub returns-after-insert-clause-none : goal.returns-after-insert-clause-none
returns-after-insert-clause-none c = elim c.match-insert.branch [
  | in-Ok-insert w ↦ rw w.result-is tt
  | in-Err-insert w ↦ rw w.result-is (absent c)
]
