-- What was found: one more behind the others, and all of them rising.
use Rattle.std.proofs.Common.{◌≡◌, ◌∙◌, ℕ, Bool, true, false, cond, not, ◌||◌, List, [], ◌∷◌, ◌++◌, append-nil, nat_eq, inl, refl, ap, sym, subst}
use Rattle.std.specs.BTreeMap.{is_at}
use Rattle.std.specs.BTreeSet.{BTreeSet, contains}
use Rattle.std.specs.List.{Contains, IsDistinct, list_any}
use Rattle.std.specs.List.Sorted.{IsStrictlySortedBy}
use Rattle.std.specs.Ordering.{nat_cmp}
use Rattle.std.proofs.lemmas.Bool.{eq-eqb, eqb-true}
use Rattle.std.proofs.lemmas.Cmp.{nat_cmp_total, nat_eq_equiv}
use Rattle.std.proofs.lemmas.List.Folds.{list_any-append}
use Rattle.std.proofs.lemmas.Map.Keys.{IsDistinct-push}
use Rattle.std.proofs.lemmas.Map.Lookups.{exact_unsigned}
use Rattle.std.proofs.lemmas.Map.Views.{btree_set_contains_iff}
use Rattle.sf_layers.proofs.Changed.{is_at-nat_eq}
use Rattle.sf_reach.specs.Added.{AreAdded}
use Rattle.sf_reach.specs.Found.{AreRising, IsSetOf}
use Rattle.sf_reach.proofs.ListLaws.{among-contains, contains-among}

pub set-none : (ids : BTreeSet ℕ) (order : List ℕ) → ids.keys ≡ [] → order ≡ [] → IsSetOf ids order
unfolding IsDistinct
set-none ids order none empty = subst (IsSetOf ids) (sym empty) (record {
  once = tt;
  same = λ id. ap (list_any (is_at (nat_cmp id))) none;
})

-- ---- one more

not-was : (b : Bool) → true ≡ not b → b ≡ false
not-was true h = h
not-was false h = refl

was : (b : Bool) → false ≡ not b → b ≡ true
was true h = refl
was false h = h

or-turned : (n m : ℕ) (b : Bool) → cond (nat_eq n m) true b ≡ (b || (nat_eq m n || false))
or-turned n m b = by (nat_eq n m) (nat_eq m n) b (λ yes. eq-eqb m n (sym (eqb-true n m yes))) (λ yes. eq-eqb n m (sym (eqb-true m n yes)))
  where
    by : (x y c : Bool) → (x ≡ true → y ≡ true) → (y ≡ true → x ≡ true) → cond x true c ≡ (c || (y || false))
    by true y true to from = refl
    by true true false to from = refl
    by true false false to from = sym (to refl)
    by false y true to from = refl
    by false true false to from = from refl
    by false false false to from = refl

-- the set takes it, and behind the others it stands once
pub set-more : (ids new : BTreeSet ℕ) (order more : List ℕ) (id : ℕ) → IsSetOf ids order → true ≡ not (contains nat_cmp ids id)
    → ((q : ℕ) → contains nat_cmp new q ≡ cond (is_at (nat_cmp id) q) true (contains nat_cmp ids q)) → more ≡ order ++ id ∷ [] → IsSetOf new more
set-more ids new order more id held absent updates behind = subst (IsSetOf new) (sym behind) (record {
  once = IsDistinct-push nat_eq_equiv order id held.once (sym (held.same id) ∙ not-was (contains nat_cmp ids id) absent);
  same = same;
})
  where
    same : (q : ℕ) → contains nat_cmp new q ≡ list_any (nat_eq q) (order ++ id ∷ [])
    same q =
        updates q
        ∙ ap (λ b. cond b true (contains nat_cmp ids q)) (is_at-nat_eq id q)
        ∙ ap (λ b. cond (nat_eq id q) true b) (held.same q)
        ∙ or-turned id q (list_any (nat_eq q) order)
        ∙ sym (list_any-append (nat_eq q) order (id ∷ []))

-- the set has it, so it stands there
pub added-before : (ids : BTreeSet ℕ) (order more : List ℕ) (id : ℕ) → IsSetOf ids order → false ≡ not (contains nat_cmp ids id) → more ≡ order → AreAdded (λ other. id ≡ other) order more
added-before ids order more id held present same = subst (AreAdded (λ other. id ≡ other) order) (sym same) (record {
  more = [];
  behind = sym (append-nil order);
  all = λ other is. subst (Contains order) is (among-contains order id (sym (held.same id) ∙ was (contains nat_cmp ids id) present));
  only = λ other c. inl c;
})

-- ---- rising

pub set-rising : (ids : BTreeSet ℕ) (order items : List ℕ) → IsSetOf ids order → IsStrictlySortedBy nat_cmp ids.keys → items ≡ ids.keys → AreRising order items
set-rising ids order items held rises are = subst (AreRising order) (sym are) (record {
  rising = rises;
  just = λ id. (to id, from id);
})
  where
    to : (id : ℕ) → Contains ids.keys id → Contains order id
    to id c = among-contains order id (sym (held.same id) ∙ (btree_set_contains_iff nat_cmp_total exact_unsigned ids id).1 c)

    from : (id : ℕ) → Contains order id → Contains ids.keys id
    from id c = (btree_set_contains_iff nat_cmp_total exact_unsigned ids id).0 (held.same id ∙ contains-among order id c)
