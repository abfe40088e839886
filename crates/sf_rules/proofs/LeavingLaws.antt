-- A set of the features that exchanges are of.
use Rattle.std.proofs.Common.{◌≡◌, ◌≢◌, ◌∙◌, ℕ, ◌+◌, ◌<◌, ◌≤◌, Bool, true, false, cond, ◌&&◌, ◌||◌, List, [], ◌∷◌, ◌++◌, length, take, get_or, Option, nat_eq, refl, ap, sym, subst, arith}
use Rattle.std.proofs.lemmas.Bool.{eq-eqb, ne_eqb}
use Rattle.std.proofs.lemmas.List.{take_all, take_more}
use Rattle.std.specs.declared.cmp.Ordering.{Ordering}
use Rattle.std.specs.declared.cmp.Ordering.TheVariants.{Less, Equal, Greater}
use Rattle.std.specs.BTreeMap.{is_at}
use Rattle.std.specs.BTreeSet.{BTreeSet, contains}
use Rattle.std.specs.List.{list_any}
use Rattle.std.specs.Ordering.{is_eq, nat_cmp, ordering_then}
use Rattle.sf_features.specs.Features.{FeatureContent}
use Rattle.sf_layers.proofs.Values.{equal-same, greater-above, less-below}
use Rattle.sf_patches.specs.declared.slot.Slot.{Slot}
use Rattle.sf_patches.specs.declared.slot.Slot.TheVariants.{State}
use Rattle.sf_patches.specs.Merged.{is_of_id}
use Rattle.sf_rules.specs.Leaving.{HasAlso, HasIds, by_place}

-- ---- one feature

cmp-is : (m n : ℕ) → is_eq (nat_cmp m n) ≡ nat_eq m n
cmp-is m n = by (nat_cmp m n) refl
  where
    by : (o : Ordering) → nat_cmp m n ≡ o → is_eq o ≡ nat_eq m n
    by Less is = let apart : m ≢ n = omega (arith, less-below m n is) in sym (ne_eqb m n apart)
    by Equal is = sym (eq-eqb m n (equal-same m n is))
    by Greater is = let apart : m ≢ n = omega (arith, greater-above m n is) in sym (ne_eqb m n apart)

then-is : (a b : Ordering) → is_eq (ordering_then a b) ≡ (is_eq a && is_eq b)
then-is Less b = refl
then-is Equal b = refl
then-is Greater b = refl

-- two features compare equal where both of their numbers are
one-feature : (p i place id : ℕ) → is_at (by_place (p, i)) (place, id) ≡ (nat_eq p place && nat_eq i id)
one-feature p i place id =
    then-is (nat_cmp p place) (nat_cmp i id) ∙ ap (λ b. b && is_eq (nat_cmp i id)) (cmp-is p place) ∙ ap (λ b. nat_eq p place && b) (cmp-is i id)

or-turned : (a b : Bool) → cond a true b ≡ (b || a)
or-turned true true = refl
or-turned true false = refl
or-turned false true = refl
or-turned false false = refl

-- a feature that is put is there beside the others
pub put-also : (old new : BTreeSet (ℕ × ℕ)) (p i : ℕ) (state : Option FeatureContent) → ((q : ℕ × ℕ) → contains by_place new q ≡ cond (is_at (by_place (p, i)) q) true (contains by_place old q))
    → HasAlso old (State p i state) new
put-also old new p i state put place id =
    put (place, id) ∙ ap (λ b. cond b true (contains by_place old (place, id))) (one-feature p i place id) ∙ or-turned (nat_eq p place && nat_eq i id) (contains by_place old (place, id))

or-none : (b : Bool) → b ≡ (b || false)
or-none true = refl
or-none false = refl

-- ---- all of them

-- none is there at first
pub ids-none : (ids : BTreeSet (ℕ × ℕ)) → ids.keys ≡ [] → HasIds ids []
ids-none ids none place id = ap (list_any (is_at (by_place (place, id)))) none

or-assoc : (a b c : Bool) → (a || (b || c)) ≡ ((a || b) || c)
or-assoc true b c = refl
or-assoc false b c = refl

any-end : (p : Slot → Bool) (xs : List Slot) (x : Slot) → list_any p (xs ++ x ∷ []) ≡ (list_any p xs || p x)
any-end p [] x = sym (or-none (p x))
any-end p (y ∷ ys) x = ap (λ b. p y || b) (any-end p ys x) ∙ or-assoc (p y) (list_any p ys) (p x)

-- and those of one more exchange
pub ids-more : (old new : BTreeSet (ℕ × ℕ)) (slots : List Slot) (i : ℕ) (item : Slot) → i < length slots → item ≡ get_or slots i item → HasIds old (take i slots) → HasAlso old item new
    → HasIds new (take (i + 1) slots)
ids-more old new slots i item within is held also place id =
    also place id
    ∙ ap (λ b. b || is_of_id place id item) (held place id)
    ∙ sym (any-end (is_of_id place id) (take i slots) item)
    ∙ ap (λ x. list_any (is_of_id place id) (take i slots ++ x ∷ [])) is
    ∙ ap (list_any (is_of_id place id)) (sym (take_more slots i item within))

pub ids-all : (ids : BTreeSet (ℕ × ℕ)) (slots : List Slot) (i : ℕ) → length slots ≤ i → HasIds ids (take i slots) → HasIds ids slots
ids-all ids slots i past held = subst (HasIds ids) (take_all i slots past) held
