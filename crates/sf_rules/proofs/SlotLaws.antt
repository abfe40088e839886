-- What exchanges leave under each identifier.
use Rattle.std.proofs.Common.{◌≡◌, ◌∙◌, ◌⊎◌, inl, inr, ℕ, zero, suc, Bool, true, false, ◌&&◌, ◌||◌, List, [], ◌∷◌, Option, Some, None, option_map, option_and_then, nat_eq, refl, ap, sym, subst}
use Rattle.std.specs.Prelude.{if◌then◌else◌}
use Rattle.std.specs.List.{Contains, list_any}
use Rattle.std.specs.Map.{keys_of}
use Rattle.std.proofs.lemmas.Bool.{eqb-true}
use Rattle.sf_patches.specs.declared.slot.Slot.{Slot}
use Rattle.sf_patches.specs.declared.slot.Slot.TheVariants.{Counter, State}
use Rattle.sf_layers.specs.Content.{Content, LayerContent, layer_at, change_at, feature_of, feature_at}
use Rattle.sf_features.specs.Features.{FeatureContent}
use Rattle.sf_patches.specs.Patches.{put_state, with_slot, patched, before}
use Rattle.sf_patches.specs.Merged.{is_of_id}
use Rattle.sf_rules.specs.Leaving.{is_leaving}
use Rattle.sf_patches.specs.Halves.{RemovesOnly}
use Rattle.sf_patches.proofs.Rising.{AreRising, KeepRising}
use Rattle.sf_patches.proofs.Undoing.{undoing_onto}
use Rattle.sf_patches.proofs.MergedLaws.{feature_at-counter, feature_at-other, state-found, layer_at-change_at, layer_at-rising}
use Rattle.sf_joins.proofs.PairLaws.{contains-here, contains-there}

and_true : (a b : Bool) → a && b ≡ true → (a ≡ true) × (b ≡ true)
and_true true true h = (refl, refl)
and_true true false h = cc
and_true false b h = cc

or_false : (a b : Bool) → a || b ≡ false → (a ≡ false) × (b ≡ false)
or_false true b h = cc
or_false false b h = (refl, h)

-- ---- exchanges that remove

-- none is left where one was removed
none-left : (content : Content) (place id : ℕ) → AreRising content → feature_at (with_slot (State place id None) content) place id ≡ None
none-left content place id rising = ap (option_and_then (λ layer. feature_of layer id)) (layer_at-change_at content place (put_state id None)) ∙ by (layer_at content place) refl
  where
    by : (o : Option LayerContent) → layer_at content place ≡ o → option_and_then (λ layer. feature_of layer id) (option_map (put_state id None) o) ≡ None
    by None at = refl
    by (Some layer) at = state-found id None layer (layer_at-rising content place layer rising at)

-- what is left under each identifier
pub left-by-removals : (content : Content) (leaving : List Slot) (place id : ℕ) → AreRising content → KeepRising content leaving → RemovesOnly leaving
    → feature_at (patched content leaving) place id ≡ (if is_leaving leaving place id then None else feature_at content place id)
left-by-removals content [] place id rising keep only = refl
left-by-removals content (Counter p n ∷ slots) place id rising keep only = absurd only.0
left-by-removals content (State p i (Some f) ∷ slots) place id rising keep only = absurd only.0
left-by-removals content (State p i None ∷ slots) place id rising keep only =
    left-by-removals (with_slot (State p i None) content) slots place id keep.0 keep.1 only.1
    ∙ by (nat_eq p place && nat_eq i id) refl
  where
    after : Option FeatureContent
    after = feature_at (with_slot (State p i None) content) place id

    gone : nat_eq p place && nat_eq i id ≡ true → feature_at (with_slot (State p i None) content) place id ≡ None
    gone is =
        let both = and_true (nat_eq p place) (nat_eq i id) is in
        ap (λ q. feature_at (with_slot (State q i None) content) place id) (eqb-true p place both.0)
        ∙ ap (λ j. feature_at (with_slot (State place j None) content) place id) (eqb-true i id both.1)
        ∙ none-left content place id rising

    none_of : (b : Bool) (o : Option FeatureContent) → o ≡ None → (if b then None else o) ≡ None
    none_of true o is = refl
    none_of false o is = is

    by : (b : Bool) → nat_eq p place && nat_eq i id ≡ b
        → (if is_leaving slots place id then None else feature_at (with_slot (State p i None) content) place id) ≡ (if b || is_leaving slots place id then None else feature_at content place id)
    by true is = none_of (is_leaving slots place id) (feature_at (with_slot (State p i None) content) place id) (gone is)
    by false is = ap (λ (o : Option FeatureContent). if is_leaving slots place id then None else o) (feature_at-other content place id p i None is)

-- ---- exchanges that were made

-- one exchange leaves what it is not of
left-alone : (content : Content) (slot : Slot) (place id : ℕ) → is_of_id place id slot ≡ false → feature_at (with_slot slot content) place id ≡ feature_at content place id
left-alone content (Counter p n) place id apart = feature_at-counter content place id p n
left-alone content (State p i state) place id apart = feature_at-other content place id p i state apart

of-before : (content : Content) (slot : Slot) (place id : ℕ) → is_of_id place id (before content slot) ≡ is_of_id place id slot
of-before content (Counter p n) place id = refl
of-before content (State p i state) place id = refl

-- what none of the exchanges is of, is as it was
kept-onto : (content : Content) (slots others : List Slot) (place id : ℕ) → list_any (is_of_id place id) (undoing_onto content slots others) ≡ false
    → (list_any (is_of_id place id) others ≡ false) × (feature_at (patched content slots) place id ≡ feature_at content place id)
kept-onto content [] others place id none = (none, refl)
kept-onto content (slot ∷ slots) others place id none =
    let later = kept-onto (with_slot slot content) slots (before content slot ∷ others) place id none in
    let both = or_false (is_of_id place id (before content slot)) (list_any (is_of_id place id) others) later.0 in
    (both.1, later.1 ∙ left-alone content slot place id (sym (of-before content slot place id) ∙ both.0))

pub kept-by : (content : Content) (slots : List Slot) (place id : ℕ) → list_any (is_of_id place id) (undoing_onto content slots []) ≡ false
    → feature_at (patched content slots) place id ≡ feature_at content place id
kept-by content slots place id none = (kept-onto content slots [] place id none).1

others-there : (content : Content) (slots others : List Slot) (x : Slot) → Contains others x → Contains (undoing_onto content slots others) x
others-there content [] others x c = c
others-there content (slot ∷ slots) others x c =
    others-there (with_slot slot content) slots (before content slot ∷ others) x (contains-there (before content slot) others x c)

-- what was there is as it was, or is recorded
recorded-onto : (content : Content) (slots others : List Slot) (place id : ℕ)
    → (feature_at (patched content slots) place id ≡ feature_at content place id) ⊎ Contains (undoing_onto content slots others) (State place id (feature_at content place id))
recorded-onto content [] others place id = inl refl
recorded-onto content (slot ∷ slots) others place id =
    by (is_of_id place id slot) refl (recorded-onto (with_slot slot content) slots (before content slot ∷ others) place id)
  where
    is-before : (s : Slot) → is_of_id place id s ≡ true → before content s ≡ State place id (feature_at content place id)
    is-before (Counter p n) is = cc
    is-before (State p i state) is =
        let both = and_true (nat_eq p place) (nat_eq i id) is in
        ap (λ q. State q i (feature_at content q i)) (eqb-true p place both.0) ∙ ap (λ j. State place j (feature_at content place j)) (eqb-true i id both.1)

    by : (b : Bool) → is_of_id place id slot ≡ b
        → (feature_at (patched (with_slot slot content) slots) place id ≡ feature_at (with_slot slot content) place id)
        ⊎ Contains (undoing_onto (with_slot slot content) slots (before content slot ∷ others)) (State place id (feature_at (with_slot slot content) place id))
        → (feature_at (patched (with_slot slot content) slots) place id ≡ feature_at content place id)
        ⊎ Contains (undoing_onto (with_slot slot content) slots (before content slot ∷ others)) (State place id (feature_at content place id))
    by true is h =
        inr (others-there (with_slot slot content) slots (before content slot ∷ others) (State place id (feature_at content place id))
        (subst (Contains (before content slot ∷ others)) (is-before slot is) (contains-here (before content slot) others)))
    by false is (inl kept) = inl (kept ∙ left-alone content slot place id is)
    by false is (inr there) =
        inr (subst (λ o. Contains (undoing_onto (with_slot slot content) slots (before content slot ∷ others)) (State place id o)) (left-alone content slot place id is) there)

pub recorded-by : (content : Content) (slots : List Slot) (place id : ℕ)
    → (feature_at (patched content slots) place id ≡ feature_at content place id) ⊎ Contains (undoing_onto content slots []) (State place id (feature_at content place id))
recorded-by content slots place id = recorded-onto content slots [] place id

-- an exchange of an identifier, where there is one
pub of-id-there : (slots : List Slot) (place id : ℕ) → list_any (is_of_id place id) slots ≡ true → (state : Option FeatureContent) × Contains slots (State place id state)
of-id-there [] place id h = cc
of-id-there (slot ∷ slots) place id h = by slot (is_of_id place id slot) refl h (λ rest. of-id-there slots place id rest)
  where
    by : (s : Slot) (b : Bool) → is_of_id place id s ≡ b → b || list_any (is_of_id place id) slots ≡ true
        → (list_any (is_of_id place id) slots ≡ true → (state : Option FeatureContent) × Contains slots (State place id state))
        → (state : Option FeatureContent) × Contains (s ∷ slots) (State place id state)
    by s false is g later = let t = later g in (t.0, contains-there s slots (State place id t.0) t.1)
    by (Counter p n) true is g later = cc
    by (State p i state) true is g later =
        let both = and_true (nat_eq p place) (nat_eq i id) is in (
          state,
          subst (Contains (State p i state ∷ slots)) (ap (λ q. State q i state) (eqb-true p place both.0) ∙ ap (λ j. State place j state) (eqb-true i id both.1))
              (contains-here (State p i state) slots),
        )

-- ---- names

keys-change_at : (content : Content) (place : ℕ) (f : LayerContent → LayerContent) → keys_of (change_at place f content) ≡ keys_of content
keys-change_at [] place f = refl
keys-change_at (e ∷ es) zero f = refl
keys-change_at (e ∷ es) (suc place) f = ap (λ ks. e.0 ∷ ks) (keys-change_at es place f)

keys-with_slot : (content : Content) (slot : Slot) → keys_of (with_slot slot content) ≡ keys_of content
keys-with_slot content (Counter place next_id) = keys-change_at content place _
keys-with_slot content (State place id state) = keys-change_at content place (put_state id state)

-- exchanges leave the layers' names
pub keys-patched : (content : Content) (slots : List Slot) → keys_of (patched content slots) ≡ keys_of content
keys-patched content [] = refl
keys-patched content (slot ∷ slots) = keys-patched (with_slot slot content) slots ∙ keys-with_slot content slot
