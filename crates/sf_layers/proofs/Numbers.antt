-- Layers under their numbers: which one a name finds, and what a change makes of them.
use Rattle.std.proofs.Common.{◌≡◌, ℕ, zero, suc, ◌+◌, ◌<◌, Bool, true, false, cond, not, List, [], ◌∷◌, length, insert, remove, slice_get, Option, None, Some, is_some, bytes_eq, nat_eq, refl, ap, sym, subst, ◌∙◌, arith}
use Rattle.std.proofs.lemmas.Bool.{eq-eqb}
use Rattle.std.proofs.lemmas.Bool.Decides.{nat_tests}
use Rattle.std.proofs.lemmas.Slice.Eq.{bytes_eq-Decides}
use Rattle.std.specs.Cmp.Lexicographic.{nat_list_eq_equiv}
use Rattle.std.specs.List.{AllByRecursion, list_any, position_or_len, IsDistinct as IsUnique}
use Rattle.std.specs.Map.{lookup, keys_of, values_of, update}
use Rattle.indexmap.specs.IndexMap.{set_value_at}
use Rattle.sf_layers.specs.Content.{LayerContent, place_of, change_at}
use Rattle.sf_features.specs.Columns.{IsDistinct}
use Rattle.sf_layers.specs.WellFormed.{IsWellFormed}
use Rattle.sf_layers.specs.Numbers.{Numbered, numbers_of, IsNumbered}
use Rattle.sf_layers.proofs.Issued.{nat_eq-above}
use Rattle.sf_layers.proofs.Kept.{none_or, all-remove}
use Rattle.sf_layers.proofs.Orders.{map-insert, map-remove}

-- ---- which layer a name finds

-- a name is found just where a layer has it
pub found-numbers_of : (entries : Numbered) (name : List ℕ) → is_some (lookup (bytes_eq name) (numbers_of entries)) ≡ is_some (lookup (bytes_eq name) (values_of entries))
found-numbers_of [] name = refl
found-numbers_of (e ∷ es) name = at_entry (bytes_eq name e.1.0) (found-numbers_of es name)
  where
    at_entry : (b : Bool) → is_some (lookup (bytes_eq name) (numbers_of es)) ≡ is_some (lookup (bytes_eq name) (values_of es))
        → is_some (cond b (Some e.0) (lookup (bytes_eq name) (numbers_of es))) ≡ is_some (cond b (Some e.1.1) (lookup (bytes_eq name) (values_of es)))
    at_entry true h = refl
    at_entry false h = h

-- what holds of all numbers holds of the one of a name
number-all : (P : ℕ → Type 0) (entries : Numbered) (name : List ℕ) (n : ℕ) → AllByRecursion P (keys_of entries) → lookup (bytes_eq name) (numbers_of entries) ≡ Some n → P n
number-all P [] name n all found = cc
number-all P (e ∷ es) name n all found = at_entry (bytes_eq name e.1.0) found (number-all P es name n all.1)
  where
    at_entry : (b : Bool) → cond b (Some e.0) (lookup (bytes_eq name) (numbers_of es)) ≡ Some n → (lookup (bytes_eq name) (numbers_of es) ≡ Some n → P n) → P n
    at_entry true h later = let is : e.0 ≡ n = cc in subst P is all.0
    at_entry false h later = later h

nat_eq-other : (m n : ℕ) → nat_eq m n ≡ false → nat_eq n m ≡ false
nat_eq-other m n h = grind (arith, nat_tests)

-- a layer's number stands where its name does
pub place-number : (entries : Numbered) (name : List ℕ) (n : ℕ) → IsUnique nat_eq (keys_of entries) → lookup (bytes_eq name) (numbers_of entries) ≡ Some n
    → (position_or_len (nat_eq n) (keys_of entries) ≡ place_of (values_of entries) name) × (position_or_len (nat_eq n) (keys_of entries) < length (keys_of entries))
unfolding IsUnique
place-number [] name n unique found = cc
place-number (e ∷ es) name n unique found = at_entry (bytes_eq name e.1.0) refl found (place-number es name n unique.1)
  where
    at_entry : (b : Bool) → bytes_eq name e.1.0 ≡ b → cond b (Some e.0) (lookup (bytes_eq name) (numbers_of es)) ≡ Some n
        → (lookup (bytes_eq name) (numbers_of es) ≡ Some n → (position_or_len (nat_eq n) (keys_of es) ≡ place_of (values_of es) name) × (position_or_len (nat_eq n) (keys_of es) < length (keys_of es)))
        → (position_or_len (nat_eq n) (e.0 ∷ keys_of es) ≡ place_of ((e.1.0, e.1.1) ∷ values_of es) name) × (position_or_len (nat_eq n) (e.0 ∷ keys_of es) < length (e.0 ∷ keys_of es))
    at_entry true is h later =
        let same : e.0 ≡ n = cc in
        let here : position_or_len (nat_eq n) (e.0 ∷ keys_of es) ≡ 0 = ap (λ b. cond (not b) (1 + position_or_len (nat_eq n) (keys_of es)) 0) (eq-eqb n e.0 (sym same)) in
        (here ∙ sym (ap (λ b. cond (not b) (1 + place_of (values_of es) name) 0) is), omega (arith, here))
    at_entry false is h later =
        let apart : nat_eq n e.0 ≡ false = nat_eq-other e.0 n (number-all (λ k. nat_eq e.0 k ≡ false) es name n unique.0 h) in
        let there : position_or_len (nat_eq n) (e.0 ∷ keys_of es) ≡ 1 + position_or_len (nat_eq n) (keys_of es) = ap (λ b. cond (not b) (1 + position_or_len (nat_eq n) (keys_of es)) 0) apart in
        let both = later h in
        (there ∙ ap (λ k. 1 + k) both.0 ∙ sym (ap (λ b. cond (not b) (1 + place_of (values_of es) name) 0) is), omega (arith, there, both.1))

-- ---- a layer put in at a place

pub cond-both : {X : Type 0} (a b : Bool) (x y z : X) → (a ≡ true → b ≡ true → ⊥) → cond a x (cond b y z) ≡ cond b y (cond a x z)
cond-both true true x y z apart = absurd (apart refl refl)
cond-both true false x y z apart = refl
cond-both false true x y z apart = refl
cond-both false false x y z apart = refl

none-head : {X : Type 0} (b : Bool) (x : X) (rest : Option X) → cond b (Some x) rest ≡ None → (b ≡ false) × (rest ≡ None)
none-head true x rest h = cc
none-head false x rest h = (refl, h)

pub lookup-insert : (entries : Numbered) (place n : ℕ) (name : List ℕ) (layer : LayerContent) (other : List ℕ) → lookup (bytes_eq name) (numbers_of entries) ≡ None
    → lookup (bytes_eq other) (numbers_of (insert entries place (n, (name, layer)))) ≡ cond (bytes_eq name other) (Some n) (lookup (bytes_eq other) (numbers_of entries))
lookup-insert [] zero n name layer other absent = ap (λ b. cond b (Some n) None) (nat_list_eq_equiv.symm other name)
lookup-insert [] (suc i) n name layer other absent = ap (λ b. cond b (Some n) None) (nat_list_eq_equiv.symm other name)
lookup-insert (e ∷ es) zero n name layer other absent =
    ap (λ b. cond b (Some n) (cond (bytes_eq other e.1.0) (Some e.0) (lookup (bytes_eq other) (numbers_of es)))) (nat_list_eq_equiv.symm other name)
lookup-insert (e ∷ es) (suc i) n name layer other absent =
    let both = none-head (bytes_eq name e.1.0) e.0 (lookup (bytes_eq name) (numbers_of es)) absent in
    ap (λ o. cond (bytes_eq other e.1.0) (Some e.0) o) (lookup-insert es i n name layer other both.1)
    ∙ cond-both (bytes_eq other e.1.0) (bytes_eq name other) (Some e.0) (Some n) (lookup (bytes_eq other) (numbers_of es)) (λ p q.
    let same : bytes_eq name e.1.0 ≡ true = nat_list_eq_equiv.congr name other e.1.0 q ∙ p in
    let clash : true ≡ false = sym same ∙ both.0 in
    absurd cc)

-- ---- a layer taken out of its place

none-at : (test : List ℕ → Bool) (entries : Numbered) (place n : ℕ) (name : List ℕ) (layer : LayerContent) → list_any test (keys_of (values_of entries)) ≡ false
    → slice_get entries place ≡ Some (n, (name, layer)) → test name ≡ false
none-at test [] place n name layer none at = cc
none-at test (e ∷ es) zero n name layer none at =
    let entry : ◌≡◌ {A = ℕ × (List ℕ × LayerContent)} e (n, (name, layer)) = cc in
    subst (λ k. test k ≡ false) (ap (λ p. p.1.0) entry) (none_or (test e.1.0) (list_any test (keys_of (values_of es))) none).0
none-at test (e ∷ es) (suc i) n name layer none at =
    none-at test es i n name layer (none_or (test e.1.0) (list_any test (keys_of (values_of es))) none).1 at

lookup-none : (entries : Numbered) (name : List ℕ) → list_any (bytes_eq name) (keys_of (values_of entries)) ≡ false → lookup (bytes_eq name) (numbers_of entries) ≡ None
lookup-none [] name none = refl
lookup-none (e ∷ es) name none =
    let both = none_or (bytes_eq name e.1.0) (list_any (bytes_eq name) (keys_of (values_of es))) none in
    ap (λ b. cond b (Some e.0) (lookup (bytes_eq name) (numbers_of es))) both.0 ∙ lookup-none es name both.1

pub lookup-remove : (entries : Numbered) (place n : ℕ) (name : List ℕ) (layer : LayerContent) (other : List ℕ) → slice_get entries place ≡ Some (n, (name, layer))
    → IsDistinct bytes_eq (keys_of (values_of entries))
    → lookup (bytes_eq other) (numbers_of (remove entries place)) ≡ cond (bytes_eq name other) None (lookup (bytes_eq other) (numbers_of entries))
lookup-remove [] place n name layer other at distinct = cc
lookup-remove (e ∷ es) zero n name layer other at distinct =
    let entry : ◌≡◌ {A = ℕ × (List ℕ × LayerContent)} e (n, (name, layer)) = cc in
    by (ap (λ p. p.1.0) entry) (bytes_eq name other) refl
  where
    by : e.1.0 ≡ name → (b : Bool) → bytes_eq name other ≡ b → lookup (bytes_eq other) (numbers_of es) ≡ cond b None (cond (bytes_eq other e.1.0) (Some e.0) (lookup (bytes_eq other) (numbers_of es)))
    by head true is =
        let same : name ≡ other = (bytes_eq-Decides name other).0 is in
        lookup-none es other (subst (λ k. list_any (bytes_eq k) (keys_of (values_of es)) ≡ false) (head ∙ same) distinct.0)
    by head false is = sym (ap (λ b. cond b (Some e.0) (lookup (bytes_eq other) (numbers_of es))) (ap (bytes_eq other) head ∙ nat_list_eq_equiv.symm other name ∙ is))
lookup-remove (e ∷ es) (suc i) n name layer other at distinct =
    ap (λ o. cond (bytes_eq other e.1.0) (Some e.0) o) (lookup-remove es i n name layer other at distinct.1)
    ∙ cond-both (bytes_eq other e.1.0) (bytes_eq name other) (Some e.0) None (lookup (bytes_eq other) (numbers_of es)) (λ p q.
    let apart : bytes_eq e.1.0 name ≡ false = none-at (bytes_eq e.1.0) es i n name layer distinct.0 at in
    let same : bytes_eq e.1.0 name ≡ true = nat_list_eq_equiv.symm e.1.0 name ∙ nat_list_eq_equiv.congr name other e.1.0 q ∙ p in
    let clash : true ≡ false = sym same ∙ apart in
    absurd cc)

-- ---- a layer changed in its place

pub values-set_value_at : (entries : Numbered) (place : ℕ) (name : List ℕ) (layer new : LayerContent) (f : LayerContent → LayerContent)
    → slice_get (values_of entries) place ≡ Some (name, layer) → new ≡ f layer → values_of (set_value_at entries place (name, new)) ≡ change_at place f (values_of entries)
values-set_value_at [] place name layer new f at is = refl
values-set_value_at (e ∷ es) zero name layer new f at is =
    let same : ◌≡◌ {A = List ℕ × LayerContent} e.1 (name, layer) = cc in
    ap (λ l. (name, l) ∷ values_of es) is ∙ sym (ap (λ p. (p.0, f p.1) ∷ values_of es) same)
values-set_value_at (e ∷ es) (suc i) name layer new f at is = ap (λ rest. e.1 ∷ rest) (values-set_value_at es i name layer new f at is)

-- the layer written over itself
pub values-set_value_at-same : (entries : Numbered) (place : ℕ) (name : List ℕ) (layer new : LayerContent)
    → slice_get (values_of entries) place ≡ Some (name, layer) → new ≡ layer → values_of (set_value_at entries place (name, new)) ≡ values_of entries
values-set_value_at-same [] place name layer new at is = refl
values-set_value_at-same (e ∷ es) zero name layer new at is =
    let same : ◌≡◌ {A = List ℕ × LayerContent} e.1 (name, layer) = cc in
    ap (λ l. (name, l) ∷ values_of es) is ∙ sym (ap (λ p. p ∷ values_of es) same)
values-set_value_at-same (e ∷ es) (suc i) name layer new at is = ap (λ rest. e.1 ∷ rest) (values-set_value_at-same es i name layer new at is)

numbers_of-set_value_at : (entries : Numbered) (place : ℕ) (name : List ℕ) (layer new : LayerContent)
    → slice_get (values_of entries) place ≡ Some (name, layer) → numbers_of (set_value_at entries place (name, new)) ≡ numbers_of entries
numbers_of-set_value_at [] place name layer new at = refl
numbers_of-set_value_at (e ∷ es) zero name layer new at =
    let same : ◌≡◌ {A = List ℕ × LayerContent} e.1 (name, layer) = cc in
    sym (ap (λ p. (p.0, e.0) ∷ numbers_of es) same)
numbers_of-set_value_at (e ∷ es) (suc i) name layer new at = ap (λ rest. (e.1.0, e.0) ∷ rest) (numbers_of-set_value_at es i name layer new at)

keys-set_value_at : (entries : Numbered) (place : ℕ) (w : List ℕ × LayerContent) → keys_of (set_value_at entries place w) ≡ keys_of entries
keys-set_value_at [] place w = refl
keys-set_value_at (e ∷ es) zero w = refl
keys-set_value_at (e ∷ es) (suc i) w = ap (λ rest. e.0 ∷ rest) (keys-set_value_at es i w)

-- ---- numbers and layers fit together after each

pub IsNumbered-set_value_at : (number : List ℕ → Option ℕ) (entries : Numbered) (next place : ℕ) (name : List ℕ) (layer new : LayerContent) → IsNumbered number entries next
    → slice_get (values_of entries) place ≡ Some (name, layer) → IsWellFormed (values_of (set_value_at entries place (name, new)))
    → IsNumbered number (set_value_at entries place (name, new)) next
IsNumbered-set_value_at number entries next place name layer new h at fine = record {
  well_formed = fine;
  found = λ n. h.found n ∙ ap (lookup (bytes_eq n)) (sym (numbers_of-set_value_at entries place name layer new at));
  below = subst (AllByRecursion (λ k. k < next)) (sym (keys-set_value_at entries place (name, new))) h.below;
}

below-insert : (entries : Numbered) (place n : ℕ) (entry : List ℕ × LayerContent) → AllByRecursion (λ k. k < n) (keys_of entries) → AllByRecursion (λ k. k < n + 1) (keys_of (insert entries place (n, entry)))
below-insert [] zero n entry h = (omega arith, tt)
below-insert [] (suc i) n entry h = (omega arith, tt)
below-insert (e ∷ es) zero n entry h = (omega arith, below-insert-all (e ∷ es) h)
  where
    below-insert-all : (xs : Numbered) → AllByRecursion (λ k. k < n) (keys_of xs) → AllByRecursion (λ k. k < n + 1) (keys_of xs)
    below-insert-all [] a = tt
    below-insert-all (x ∷ xs) a = (omega (arith, a.0), below-insert-all xs a.1)
below-insert (e ∷ es) (suc i) n entry h = (omega (arith, h.0), below-insert es i n entry h.1)

-- no layer has the next number
pub lookup-below : (entries : Numbered) (next : ℕ) → AllByRecursion (λ k. k < next) (keys_of entries) → lookup (nat_eq next) entries ≡ None
lookup-below [] next below = refl
lookup-below (e ∷ es) next below =
    let apart : nat_eq next e.0 ≡ false = nat_eq-above e.0 next below.0 in
    ap (λ b. cond b (Some e.1) (lookup (nat_eq next) es)) apart ∙ lookup-below es next below.1

pub IsNumbered-insert : (old new : List ℕ → Option ℕ) (entries : Numbered) (next place : ℕ) (name : List ℕ) (layer : LayerContent) → IsNumbered old entries next
    → lookup (bytes_eq name) (values_of entries) ≡ None → ((other : List ℕ) → new other ≡ update bytes_eq old name (Some next) other)
    → IsWellFormed (insert (values_of entries) place (name, layer)) → IsNumbered new (insert entries place (next, (name, layer))) (next + 1)
IsNumbered-insert old new entries next place name layer h absent updated fine =
    let free : lookup (bytes_eq name) (numbers_of entries) ≡ None = none_from (lookup (bytes_eq name) (numbers_of entries)) (found-numbers_of entries name ∙ ap is_some absent) in
    record {
      well_formed = subst IsWellFormed (sym (map-insert (λ e. e.1) entries place (next, (name, layer)))) fine;
      found = λ other. updated other ∙ ap (λ o. cond (bytes_eq name other) (Some next) o) (h.found other) ∙ sym (lookup-insert entries place next name layer other free);
      below = below-insert entries place next (name, layer) h.below;
    }
  where
    none_from : (o : Option ℕ) → is_some o ≡ false → o ≡ None
    none_from None e = refl
    none_from (Some x) e = cc

pub IsNumbered-remove : (old new : List ℕ → Option ℕ) (entries : Numbered) (next place n : ℕ) (name : List ℕ) (layer : LayerContent) → IsNumbered old entries next
    → slice_get entries place ≡ Some (n, (name, layer)) → ((other : List ℕ) → new other ≡ update bytes_eq old name None other)
    → IsWellFormed (remove (values_of entries) place) → IsNumbered new (remove entries place) next
IsNumbered-remove old new entries next place n name layer h at updated fine = record {
  well_formed = subst IsWellFormed (sym (map-remove (λ e. e.1) entries place)) fine;
  found = λ other. updated other ∙ ap (λ o. cond (bytes_eq name other) None o) (h.found other) ∙ sym (lookup-remove entries place n name layer other at h.well_formed.distinct);
  below = all-remove (λ k. k < next) (λ e. e.0) entries place h.below;
}
