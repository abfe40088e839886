-- A patch with all in which two contents differ leads from the one to the other.
use Rattle.std.proofs.Common.{◌≡◌, ℕ, zero, suc, Bool, true, false, ◌&&◌, ◌||◌, cond, List, [], ◌∷◌, Option, Some, None, option_map, option_and_then, nat_eq, refl, ap, sym, subst, ◌∙◌, arith}
use Rattle.std.proofs.lemmas.Bool.{eq-eqb, eqb-true}
use Rattle.std.specs.declared.cmp.Ordering.{Ordering}
use Rattle.std.specs.declared.cmp.Ordering.TheVariants.{Less, Equal, Greater}
use Rattle.std.specs.BTreeMap.{insert_entry}
use Rattle.std.specs.List.{AllByRecursion, list_any}
use Rattle.std.specs.List.Sorted.{IsStrictlySortedBy}
use Rattle.std.specs.Map.{keys_of, lookup, remove_entry}
use Rattle.std.specs.Option.{option_map_or}
use Rattle.std.specs.Ordering.{nat_cmp, match_ordering}
use Rattle.sf_layers.specs.Content.{Content, LayerContent, layer_at, change_at, with_next_id, feature_of, feature_at}
use Rattle.sf_features.specs.Features.{FeatureContent}
use Rattle.sf_patches.specs.declared.slot.Slot.{Slot}
use Rattle.sf_patches.specs.declared.slot.Slot.TheVariants.{Counter, State}
use Rattle.sf_patches.specs.Patches.{next_id_at, put_state, with_slot, patched}
use Rattle.sf_patches.proofs.Rising.{AreRising, KeepRising}
use Rattle.sf_patches.specs.Merged.{HaveOneHead, HaveOneOrder, is_of_id, is_of_counter, HasAllChanges}
use Rattle.sf_layers.proofs.Values.{equal-same, lookup-below, lookup-insert_entry}
use Rattle.sf_patches.proofs.SameMaps.{same-lookups}

-- ---- what is found after an exchange

pub lookup-insert_entry-other : {X : Type 0} (k j : ℕ) (v : X) (es : List (ℕ × X)) → nat_eq k j ≡ false → lookup (nat_eq k) (insert_entry nat_cmp es j v) ≡ lookup (nat_eq k) es
lookup-insert_entry-other k j v [] apart = ap (λ b. cond b (Some v) None) apart
lookup-insert_entry-other {X} k j v (e ∷ es) apart = by (lookup-insert_entry-other k j v es apart) (nat_cmp j e.0) refl
  where
    by : lookup (nat_eq k) (insert_entry nat_cmp es j v) ≡ lookup (nat_eq k) es → (o : Ordering) → nat_cmp j e.0 ≡ o
        → lookup (nat_eq k) (match_ordering o ((j, v) ∷ e ∷ es) ((e.0, v) ∷ es) (e ∷ insert_entry nat_cmp es j v)) ≡ lookup (nat_eq k) (e ∷ es)
    by later Less is = ap (λ b. cond b (Some v) (lookup (nat_eq k) (e ∷ es))) apart
    by later Equal is =
        let no : nat_eq k e.0 ≡ false = ap (nat_eq k) (sym (equal-same j e.0 is)) ∙ apart in
        ap (λ b. cond b (Some v) (lookup (nat_eq k) es)) no ∙ sym (ap (λ b. cond b (Some e.1) (lookup (nat_eq k) es)) no)
    by later Greater is = ap (λ o. cond (nat_eq k e.0) (Some e.1) o) later

pub lookup-remove_entry-other : {X : Type 0} (k j : ℕ) (es : List (ℕ × X)) → nat_eq k j ≡ false → lookup (nat_eq k) (remove_entry (nat_eq j) es) ≡ lookup (nat_eq k) es
lookup-remove_entry-other k j [] apart = refl
lookup-remove_entry-other {X} k j (e ∷ es) apart = by (lookup-remove_entry-other k j es apart) (nat_eq j e.0) refl
  where
    by : lookup (nat_eq k) (remove_entry (nat_eq j) es) ≡ lookup (nat_eq k) es → (b : Bool) → nat_eq j e.0 ≡ b
        → lookup (nat_eq k) (cond b es (e ∷ remove_entry (nat_eq j) es)) ≡ lookup (nat_eq k) (e ∷ es)
    by later true is =
        let no : nat_eq k e.0 ≡ false = ap (nat_eq k) (sym (eqb-true j e.0 is)) ∙ apart in
        sym (ap (λ b. cond b (Some e.1) (lookup (nat_eq k) es)) no)
    by later false is = ap (λ o. cond (nat_eq k e.0) (Some e.1) o) later

module _ {X : Type 0} where
  pub lookup-remove_entry-same : (k : ℕ) (es : List (ℕ × X)) → IsStrictlySortedBy nat_cmp (keys_of es) → lookup (nat_eq k) (remove_entry (nat_eq k) es) ≡ None
  unfolding IsStrictlySortedBy
  lookup-remove_entry-same k [] rising = refl
  lookup-remove_entry-same k (e ∷ es) rising = by (lookup-remove_entry-same k es rising.1) (nat_eq k e.0) refl
    where
      by : lookup (nat_eq k) (remove_entry (nat_eq k) es) ≡ None → (b : Bool) → nat_eq k e.0 ≡ b → lookup (nat_eq k) (cond b es (e ∷ remove_entry (nat_eq k) es)) ≡ None
      by later true is = lookup-below k es (subst (λ m. AllByRecursion (λ n. nat_cmp m n ≡ Less) (keys_of es)) (sym (eqb-true k e.0 is)) rising.0)
      by later false is = ap (λ b. cond b (Some e.1) (lookup (nat_eq k) (remove_entry (nat_eq k) es))) is ∙ later

-- what was put is found, or none is
pub state-found : (id : ℕ) (state : Option FeatureContent) (layer : LayerContent) → IsStrictlySortedBy nat_cmp (keys_of layer.features) → feature_of (put_state id state layer) id ≡ state
state-found id None layer rising = lookup-remove_entry-same id layer.features rising
state-found id (Some feature) layer rising = lookup-insert_entry id feature layer.features

-- and all others are as they were
pub state-other : (id other : ℕ) (state : Option FeatureContent) (layer : LayerContent) → nat_eq id other ≡ false → feature_of (put_state id state layer) other ≡ feature_of layer other
state-other id other None layer apart = lookup-remove_entry-other other id layer.features (apart-turned id other apart)
  where
    apart-turned : (m n : ℕ) → nat_eq m n ≡ false → nat_eq n m ≡ false
    apart-turned m n h = by (nat_eq n m) refl
      where
        by : (b : Bool) → nat_eq n m ≡ b → b ≡ false
        by true is = let yes : nat_eq m n ≡ true = eq-eqb m n (sym (eqb-true n m is)) in cc
        by false is = refl
state-other id other (Some feature) layer apart = lookup-insert_entry-other other id feature layer.features (apart-turned id other apart)
  where
    apart-turned : (m n : ℕ) → nat_eq m n ≡ false → nat_eq n m ≡ false
    apart-turned m n h = by (nat_eq n m) refl
      where
        by : (b : Bool) → nat_eq n m ≡ b → b ≡ false
        by true is = let yes : nat_eq m n ≡ true = eq-eqb m n (sym (eqb-true n m is)) in cc
        by false is = refl

-- ---- places

nat_eq-suc : (m n : ℕ) → nat_eq (suc m) (suc n) ≡ nat_eq m n
nat_eq-suc m n = by (nat_eq m n) (nat_eq (suc m) (suc n)) refl refl
  where
    by : (a b : Bool) → nat_eq m n ≡ a → nat_eq (suc m) (suc n) ≡ b → b ≡ a
    by true true is js = refl
    by false false is js = refl
    by true false is js = let yes : nat_eq (suc m) (suc n) ≡ true = eq-eqb (suc m) (suc n) (ap suc (eqb-true m n is)) in cc
    by false true is js = let same : suc m ≡ suc n = eqb-true (suc m) (suc n) js in let less : m ≡ n = omega (arith, same) in let yes : nat_eq m n ≡ true = eq-eqb m n less in cc

-- a change at one place leaves the layers at others
pub layer_at-change_at-other : (content : Content) (place other : ℕ) (f : LayerContent → LayerContent) → nat_eq place other ≡ false → layer_at (change_at place f content) other ≡ layer_at content other
layer_at-change_at-other [] place other f apart = refl
layer_at-change_at-other (e ∷ es) zero zero f apart = cc
layer_at-change_at-other (e ∷ es) zero (suc other) f apart = refl
layer_at-change_at-other (e ∷ es) (suc place) zero f apart = refl
layer_at-change_at-other (e ∷ es) (suc place) (suc other) f apart = layer_at-change_at-other es place other f (sym (nat_eq-suc place other) ∙ apart)

pub layer_at-change_at : (content : Content) (place : ℕ) (f : LayerContent → LayerContent) → layer_at (change_at place f content) place ≡ option_map f (layer_at content place)
layer_at-change_at [] place f = refl
layer_at-change_at (e ∷ es) zero f = refl
layer_at-change_at (e ∷ es) (suc place) f = layer_at-change_at es place f

pub layer_at-rising : (content : Content) (place : ℕ) (layer : LayerContent) → AreRising content → layer_at content place ≡ Some layer → IsStrictlySortedBy nat_cmp (keys_of layer.features)
layer_at-rising [] place layer rising there = cc
layer_at-rising (e ∷ es) zero layer rising there = let is : e.1 ≡ layer = cc in subst (λ l. IsStrictlySortedBy nat_cmp (keys_of l.features)) is rising.0
layer_at-rising (e ∷ es) (suc place) layer rising there = layer_at-rising es place layer rising.1 there

-- ---- contents with the same layers

-- an exchange leaves order and heads
HaveOneOrder-change_at : (c d : Content) (place : ℕ) (f : LayerContent → LayerContent) → ((layer : LayerContent) → HaveOneHead (f layer) layer) → HaveOneOrder c d → HaveOneOrder (change_at place f c) d
HaveOneOrder-change_at [] [] place f keeps h = h
HaveOneOrder-change_at [] (b ∷ d) place f keeps h = absurd h
HaveOneOrder-change_at (a ∷ c) [] place f keeps h = absurd h
HaveOneOrder-change_at (a ∷ c) (b ∷ d) zero f keeps h = let k = keeps a.1 in (h.0, (k.0 ∙ h.1.0, k.1 ∙ h.1.1, k.2 ∙ h.1.2), h.2)
HaveOneOrder-change_at (a ∷ c) (b ∷ d) (suc place) f keeps h = (h.0, h.1, HaveOneOrder-change_at c d place f keeps h.2)

put_state-head : (id : ℕ) (state : Option FeatureContent) (layer : LayerContent) → HaveOneHead (put_state id state layer) layer
put_state-head id None layer = (refl, refl, refl)
put_state-head id (Some feature) layer = (refl, refl, refl)

pub HaveOneOrder-with_slot : (c d : Content) (slot : Slot) → HaveOneOrder c d → HaveOneOrder (with_slot slot c) d
HaveOneOrder-with_slot c d (Counter place next_id) h = HaveOneOrder-change_at c d place (with_next_id next_id) (λ layer. (refl, refl, refl)) h
HaveOneOrder-with_slot c d (State place id state) h = HaveOneOrder-change_at c d place (put_state id state) (put_state-head id state) h

-- where the one has no layer the other has none
pub none-there : (c d : Content) (place : ℕ) → HaveOneOrder c d → layer_at c place ≡ None → layer_at d place ≡ None
none-there [] [] place h none = refl
none-there [] (b ∷ d) place h none = absurd h
none-there (a ∷ c) [] place h none = absurd h
none-there (a ∷ c) (b ∷ d) zero h none = cc
none-there (a ∷ c) (b ∷ d) (suc place) h none = none-there c d place h.2 none

-- layers of one head, with the same counter and the same features
same-layer : (a b : LayerContent) → HaveOneHead a b → a.next_id ≡ b.next_id → a.features ≡ b.features → a ≡ b
same-layer a b head counter features =
    ap (λ k. let l : LayerContent = record a { kind = k } in l) head.0
    ∙ ap (λ n. let l : LayerContent = record a { kind = b.kind; next_id = n } in l) counter
    ∙ ap (λ n. let l : LayerContent = record a { kind = b.kind; next_id = b.next_id; next_column = n } in l) head.1
    ∙ ap (λ cs. let l : LayerContent = record a { kind = b.kind; next_id = b.next_id; next_column = b.next_column; columns = cs } in l) head.2
    ∙ ap (λ fs. let l : LayerContent = record b { features = fs } in l) features

-- contents that show the same everywhere are the same
same-contents : (c d : Content) → HaveOneOrder c d → AreRising c → AreRising d → ((place id : ℕ) → feature_at c place id ≡ feature_at d place id)
    → ((place : ℕ) → next_id_at c place ≡ next_id_at d place) → c ≡ d
same-contents [] [] h rising rising' features counters = refl
same-contents [] (b ∷ d) h rising rising' features counters = absurd h
same-contents (a ∷ c) [] h rising rising' features counters = absurd h
same-contents (a ∷ c) (b ∷ d) h rising rising' features counters =
    let first : a.1 ≡ b.1 = same-layer a.1 b.1 h.1 (counters 0) (same-lookups a.1.features b.1.features rising.0 rising'.0 (features 0)) in
    let rest : c ≡ d = same-contents c d h.2 rising.1 rising'.1 (λ place. features (suc place)) (λ place. counters (suc place)) in
    ap (λ n. (n, a.1) ∷ c) h.0 ∙ ap (λ l. (b.0, l) ∷ c) first ∙ ap (λ xs. b ∷ xs) rest

-- ---- one exchange nearer

or_false : (a b : Bool) → a || b ≡ false → (a ≡ false) × (b ≡ false)
or_false true b h = cc
or_false false b h = (refl, h)

-- the state that an exchange leaves is the one of the content that it is read off
feature_at-with_state : (c d : Content) (place id : ℕ) (state : Option FeatureContent) → HaveOneOrder c d → AreRising c → state ≡ feature_at d place id
    → feature_at (with_slot (State place id state) c) place id ≡ feature_at d place id
feature_at-with_state c d place id state h rising is = ap (option_and_then (λ layer. feature_of layer id)) (layer_at-change_at c place (put_state id state)) ∙ by (layer_at c place) refl
  where
    by : (o : Option LayerContent) → layer_at c place ≡ o → option_and_then (λ layer. feature_of layer id) (option_map (put_state id state) o) ≡ feature_at d place id
    by None at = sym (ap (option_and_then (λ layer. feature_of layer id)) (none-there c d place h at))
    by (Some layer) at = state-found id state layer (layer_at-rising c place layer rising at) ∙ is

-- under other identifiers all is as it was
pub feature_at-other : (c : Content) (place id p i : ℕ) (state : Option FeatureContent) → nat_eq p place && nat_eq i id ≡ false → feature_at (with_slot (State p i state) c) place id ≡ feature_at c place id
feature_at-other c place id p i state apart = by (nat_eq p place) refl apart
  where
    by : (b : Bool) → nat_eq p place ≡ b → b && nat_eq i id ≡ false → feature_at (with_slot (State p i state) c) place id ≡ feature_at c place id
    by false is h = ap (option_and_then (λ layer. feature_of layer id)) (layer_at-change_at-other c p place (put_state i state) is)
    by true is h =
        let place_is : p ≡ place = eqb-true p place is in
        ap (λ q. feature_at (with_slot (State q i state) c) place id) place_is
        ∙ ap (option_and_then (λ layer. feature_of layer id)) (layer_at-change_at c place (put_state i state))
        ∙ there (layer_at c place)
      where
        there : (o : Option LayerContent) → option_and_then (λ layer. feature_of layer id) (option_map (put_state i state) o) ≡ option_and_then (λ layer. feature_of layer id) o
        there None = refl
        there (Some layer) = state-other i id state layer h

-- a counter that is set leaves the features
pub feature_at-counter : (c : Content) (place id p n : ℕ) → feature_at (with_slot (Counter p n) c) place id ≡ feature_at c place id
feature_at-counter c place id p n = by (nat_eq p place) refl
  where
    by : (b : Bool) → nat_eq p place ≡ b → feature_at (with_slot (Counter p n) c) place id ≡ feature_at c place id
    by false is = ap (option_and_then (λ layer. feature_of layer id)) (layer_at-change_at-other c p place (with_next_id n) is)
    by true is =
        ap (λ q. feature_at (with_slot (Counter q n) c) place id) (eqb-true p place is)
        ∙ ap (option_and_then (λ layer. feature_of layer id)) (layer_at-change_at c place (with_next_id n))
        ∙ there (layer_at c place)
      where
        there : (o : Option LayerContent) → option_and_then (λ layer. feature_of layer id) (option_map (with_next_id n) o) ≡ option_and_then (λ layer. feature_of layer id) o
        there None = refl
        there (Some layer) = refl

pub next_id_at-state : (c : Content) (place p i : ℕ) (state : Option FeatureContent) → next_id_at (with_slot (State p i state) c) place ≡ next_id_at c place
next_id_at-state c place p i state = by (nat_eq p place) refl
  where
    by : (b : Bool) → nat_eq p place ≡ b → next_id_at (with_slot (State p i state) c) place ≡ next_id_at c place
    by false is = ap (λ o. option_map_or (λ layer. layer.next_id) o 0) (layer_at-change_at-other c p place (put_state i state) is)
    by true is =
        ap (λ q. next_id_at (with_slot (State q i state) c) place) (eqb-true p place is)
        ∙ ap (λ o. option_map_or (λ layer. layer.next_id) o 0) (layer_at-change_at c place (put_state i state))
        ∙ there (layer_at c place) state
      where
        there : (o : Option LayerContent) (s : Option FeatureContent) → option_map_or (λ layer. layer.next_id) (option_map (put_state i s) o) 0 ≡ option_map_or (λ layer. layer.next_id) o 0
        there None s = refl
        there (Some layer) None = refl
        there (Some layer) (Some feature) = refl

pub next_id_at-other : (c : Content) (place p n : ℕ) → nat_eq p place ≡ false → next_id_at (with_slot (Counter p n) c) place ≡ next_id_at c place
next_id_at-other c place p n apart = ap (λ o. option_map_or (λ layer. layer.next_id) o 0) (layer_at-change_at-other c p place (with_next_id n) apart)

pub next_id_at-counter : (c d : Content) (place n : ℕ) → HaveOneOrder c d → n ≡ next_id_at d place → next_id_at (with_slot (Counter place n) c) place ≡ next_id_at d place
next_id_at-counter c d place n h is = ap (λ o. option_map_or (λ layer. layer.next_id) o 0) (layer_at-change_at c place (with_next_id n)) ∙ by (layer_at c place) refl
  where
    by : (o : Option LayerContent) → layer_at c place ≡ o → option_map_or (λ layer. layer.next_id) (option_map (with_next_id n) o) 0 ≡ next_id_at d place
    by None at = sym (ap (λ o. option_map_or (λ layer. layer.next_id) o 0) (none-there c d place h at))
    by (Some layer) at = is

HasAllChanges-with_slot : (old new : Content) (slot : Slot) (slots : List Slot) → AreRising old → HasAllChanges old new (slot ∷ slots) → HasAllChanges (with_slot slot old) new slots
HasAllChanges-with_slot old new (Counter p n) slots rising changes = record {
  order = HaveOneOrder-with_slot old new (Counter p n) changes.order;
  read_off = changes.read_off.1;
  features = λ place id none. feature_at-counter old place id p n ∙ changes.features place id none;
  counters = λ place none. by place none (nat_eq p place) refl;
}
  where
    by : (place : ℕ) → list_any (is_of_counter place) slots ≡ false → (b : Bool) → nat_eq p place ≡ b → next_id_at (with_slot (Counter p n) old) place ≡ next_id_at new place
    by place none false is = next_id_at-other old place p n is ∙ changes.counters place (ap (λ b. b || list_any (is_of_counter place) slots) is ∙ none)
    by place none true is =
        let p_is : p ≡ place = eqb-true p place is in
        ap (λ q. next_id_at (with_slot (Counter q n) old) place) p_is ∙ next_id_at-counter old new place n changes.order (changes.read_off.0 ∙ ap (next_id_at new) p_is)
HasAllChanges-with_slot old new (State p i state) slots rising changes = record {
  order = HaveOneOrder-with_slot old new (State p i state) changes.order;
  read_off = changes.read_off.1;
  features = λ place id none. by place id none (nat_eq p place && nat_eq i id) refl;
  counters = λ place none. next_id_at-state old place p i state ∙ changes.counters place none;
}
  where
    and_true : (a b : Bool) → a && b ≡ true → (a ≡ true) × (b ≡ true)
    and_true true true h = (refl, refl)
    and_true true false h = cc
    and_true false b h = cc

    by : (place id : ℕ) → list_any (is_of_id place id) slots ≡ false → (b : Bool) → nat_eq p place && nat_eq i id ≡ b → feature_at (with_slot (State p i state) old) place id ≡ feature_at new place id
    by place id none false is = feature_at-other old place id p i state is ∙ changes.features place id (ap (λ b. b || list_any (is_of_id place id) slots) is ∙ none)
    by place id none true is =
        let both = and_true (nat_eq p place) (nat_eq i id) is in
        let p_is : p ≡ place = eqb-true p place both.0 in
        let i_is : i ≡ id = eqb-true i id both.1 in
        ap (λ q. feature_at (with_slot (State q i state) old) place id) p_is
        ∙ ap (λ j. feature_at (with_slot (State place j state) old) place id) i_is
        ∙ feature_at-with_state old new place id state changes.order rising (changes.read_off.0 ∙ ap (λ q. feature_at new q i) p_is ∙ ap (feature_at new place) i_is)

-- the patch with all changes leads there
pub patched-all_changes : (old new : Content) (slots : List Slot) → AreRising old → AreRising new → KeepRising old slots → HasAllChanges old new slots → patched old slots ≡ new
patched-all_changes old new [] rising rising' keep changes = same-contents old new changes.order rising rising' (λ place id. changes.features place id refl) (λ place. changes.counters place refl)
patched-all_changes old new (slot ∷ slots) rising rising' keep changes =
    patched-all_changes (with_slot slot old) new slots keep.0 rising' keep.1 (HasAllChanges-with_slot old new slot slots rising changes)
