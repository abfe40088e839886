-- What a patch holds that was exchanged: as much as the features that members name.
use Rattle.std.proofs.Common.{◌≡◌, ℕ, zero, suc, ◌+◌, Bool, true, false, not, cond, ◌&&◌, ◌||◌, if◌then◌else◌, List, [], ◌∷◌, ◌++◌, map, filter, reverse, sum_by, Option, None, Some, is_some, option_and_then, nat_eq, bytes_eq, slice_get, refl, ap, sym, subst, ◌∙◌, arith}
use Rattle.std.proofs.lemmas.Bool.{eq-eqb, eqb-true}
use Rattle.std.proofs.lemmas.List.{reverse-append}
use Rattle.std.proofs.lemmas.List.Sums.{sum_by-append, sum_by-cons}
use Rattle.std.proofs.lemmas.Slice.Eq.{bytes_eq-Decides}
use Rattle.std.specs.declared.cmp.Ordering.TheVariants.{Less}
use Rattle.std.specs.Prelude.{IsSome}
use Rattle.std.specs.List.{AllByRecursion, list_any}
use Rattle.std.specs.List.Sorted.{IsStrictlySortedBy}
use Rattle.std.specs.Map.{keys_of, lookup, remove_entry}
use Rattle.std.specs.Ordering.{nat_cmp}
use Rattle.std.specs.BTreeMap.{insert_entry}
use Rattle.sf_features.specs.Columns.{IsDistinct}
use Rattle.sf_features.specs.Features.{FeatureContent}
use Rattle.sf_layers.specs.Content.{Content, LayerContent, change_at, change_layer, feature_at, feature_of, has_layer, head_of, layer_of, place_of, with_feature, with_next_id}
use Rattle.sf_layers.specs.WellFormed.{IsWellFormed}
use Rattle.sf_layers.proofs.Changes.{IsLayer-layer_of}
use Rattle.sf_layers.proofs.Kept.{all-weaker}
use Rattle.sf_layers.proofs.Values.{less-below, nat_eq-apart-above}
use Rattle.sf_patches.specs.declared.slot.Slot.{Slot}
use Rattle.sf_patches.specs.declared.slot.Slot.TheVariants.{Counter, State}
use Rattle.sf_patches.specs.Patches.{before, befores, patched, put_state, undoing, with_slot}
use Rattle.sf_patches.specs.Fits.{IsAt, StayFine}
use Rattle.sf_patches.specs.declared.halves.Halves.{Halves}
use Rattle.sf_patches.specs.Halves.{after_growing, back_halves}
use Rattle.sf_patches.proofs.HalvesLaws.{undoing-append}
use Rattle.sf_patches.proofs.ExchangeLaws.{AreRising-fine}
use Rattle.sf_patches.proofs.MergedLaws.{layer_at-rising}
use Rattle.sf_patches.proofs.Rising.{AreRising}
use Rattle.sf_steps.specs.Inverses.{feature_weight}
use Rattle.sf_steps.specs.Steps.{edit_layer}
use Rattle.sf_groups.specs.declared.member.Member.{Member}
use Rattle.sf_groups.specs.Groups.{content_weight, features_weight, halves_weight, patch_weight, slot_weight, together_touched}
use Rattle.sf_groups.specs.Local.{edit_id}
use Rattle.sf_groups.specs.Members.{names}
use Rattle.sf_groups.proofs.Pushed.{any-push}
use Rattle.sf_groups.proofs.WeightLaws.{change_layer-weight, changed-here, changed-later, content-cons, features-cons, insert-weight, remove-weight, state_weight}
use Rattle.sf_together.specs.declared.removals.Key.{Key}
use Rattle.sf_together.specs.Copies.{IsScratchOf, named_feature, with_feature_shown, with_head, with_layer_shown, with_shown}
use Rattle.sf_together.specs.Exchanges.{has_key, layer_slots, put_at, puts, removal, removals_of}
use Rattle.sf_together.proofs.Parts.{slots_between}
use Rattle.sf_together.proofs.ListLaws.{all-found_rising, all-none, all-of_map}
use Rattle.sf_together.proofs.FitLaws.{entry-there, layer-there}
use Rattle.sf_together.proofs.CallLaws.{none-any}
use Rattle.sf_together.proofs.ChangeLaws.{feature-in}
use Rattle.sf_together.proofs.CopyLaws.{HasCopy, head-copied, names-own}

-- ---- one exchange

at-weight : (content : Content) (place : ℕ) (f : LayerContent → LayerContent) (entry : List ℕ × LayerContent) → slice_get content place ≡ Some entry
    → content_weight (change_at place f content) + features_weight entry.1.features ≡ content_weight content + features_weight (f entry.1).features
at-weight [] place f entry is = cc
at-weight (e ∷ es) zero f entry is =
    let same : e ≡ entry = cc in
    subst (λ x. content_weight ((e.0, f e.1) ∷ es) + features_weight x.1.features ≡ content_weight (e ∷ es) + features_weight (f x.1).features) same
    (changed-here (content_weight ((e.0, f e.1) ∷ es)) (content_weight (e ∷ es)) (content_weight es) (features_weight e.1.features) (features_weight (f e.1).features) (content-cons (e.0, f e.1) es) (content-cons e es))
at-weight (e ∷ es) (suc place) f entry is =
    changed-later (content_weight (e ∷ change_at place f es)) (content_weight (e ∷ es)) (content_weight (change_at place f es)) (features_weight e.1.features) (content_weight es)
    (features_weight entry.1.features) (features_weight (f entry.1).features) (content-cons e (change_at place f es)) (content-cons e es) (at-weight es place f entry is)

state-weight : (place id : ℕ) (o : Option FeatureContent) → slot_weight (State place id o) ≡ state_weight o
state-weight place id None = refl
state-weight place id (Some feature) = refl

none-moved : (a b l : ℕ) → a + l ≡ b + l → a + 0 ≡ b + 0
none-moved a b l h = omega (arith, h)

one-out : (a b l r s : ℕ) → a + l ≡ b + r → r + s ≡ l → a + s ≡ b + 0
one-out a b l r s h out = omega (arith, h, out)

one-in : (a b l r s v : ℕ) → a + l ≡ b + r → r + s ≡ l + v → a + s ≡ b + v
one-in a b l r s v h out = omega (arith, h, out)

slot-moves : (content : Content) (slot : Slot) → IsAt content slot → AreRising content → content_weight (with_slot slot content) + slot_weight (before content slot) ≡ content_weight content + slot_weight slot
slot-moves content (Counter place n) at rising =
    let there = entry-there content place at in
    none-moved (content_weight (change_at place (with_next_id n) content)) (content_weight content) (features_weight there.entry.1.features) (at-weight content place (with_next_id n) there.entry there.is)
slot-moves content (State place id None) at rising =
    let there = entry-there content place at in
    ap (λ n. content_weight (change_at place (put_state id None) content) + n)
    (state-weight place id (feature_at content place id) ∙ ap (λ o. state_weight (option_and_then (λ layer. feature_of layer id) o)) (layer-there content place there))
    ∙ one-out (content_weight (change_at place (put_state id None) content)) (content_weight content) (features_weight there.entry.1.features) (features_weight (remove_entry (nat_eq id) there.entry.1.features))
    (state_weight (feature_of there.entry.1 id)) (at-weight content place (put_state id None) there.entry there.is) (remove-weight id there.entry.1.features)
slot-moves content (State place id (Some feature)) at rising =
    let there = entry-there content place at in
    ap (λ n. content_weight (change_at place (put_state id (Some feature)) content) + n)
    (state-weight place id (feature_at content place id) ∙ ap (λ o. state_weight (option_and_then (λ layer. feature_of layer id) o)) (layer-there content place there))
    ∙ one-in (content_weight (change_at place (put_state id (Some feature)) content)) (content_weight content) (features_weight there.entry.1.features)
    (features_weight (insert_entry nat_cmp there.entry.1.features id feature)) (state_weight (feature_of there.entry.1 id)) (feature_weight feature)
    (at-weight content place (put_state id (Some feature)) there.entry there.is)
    (insert-weight id there.entry.1.features feature (layer_at-rising content place there.entry.1 rising (layer-there content place there)))

-- ---- all exchanges

patch-cons : (slot : Slot) (slots : List Slot) → patch_weight (slot ∷ slots) ≡ slot_weight slot + patch_weight slots
patch-cons slot slots = sum_by-cons slot_weight slot slots

moved-on : (a b c p q r s v w : ℕ) → a + p ≡ b + q → b + s ≡ c + v → r ≡ s + p → w ≡ v + q → a + r ≡ c + w
moved-on a b c p q r s v w rest one r_is w_is = omega (arith, rest, one, r_is, w_is)

slots-move : (content : Content) (slots : List Slot) → AreRising content → StayFine content slots → content_weight (patched content slots) + patch_weight (befores content slots) ≡ content_weight content + patch_weight slots
slots-move content [] rising stay = refl
slots-move content (slot ∷ slots) rising stay =
    moved-on (content_weight (patched (with_slot slot content) slots)) (content_weight (with_slot slot content)) (content_weight content) (patch_weight (befores (with_slot slot content) slots)) (patch_weight slots)
    (patch_weight (before content slot ∷ befores (with_slot slot content) slots)) (slot_weight (before content slot)) (slot_weight slot) (patch_weight (slot ∷ slots))
    (slots-move (with_slot slot content) slots (AreRising-fine (with_slot slot content) stay.1) stay.2) (slot-moves content slot stay.0 rising)
    (patch-cons (before content slot) (befores (with_slot slot content) slots)) (patch-cons slot slots)

behind : (a b r s : ℕ) → a ≡ b + r → r ≡ s + 0 → a ≡ s + b
behind a b r s a_is r_is = omega (arith, a_is, r_is)

reverse-weight : (slots : List Slot) → patch_weight (reverse slots) ≡ patch_weight slots
reverse-weight [] = refl
reverse-weight (slot ∷ slots) =
    ap patch_weight (reverse-append (slot ∷ []) slots)
    ∙ behind (patch_weight (reverse slots ++ slot ∷ [])) (patch_weight (reverse slots)) (patch_weight (slot ∷ [])) (slot_weight slot) (sum_by-append slot_weight (reverse slots) (slot ∷ [])) (patch-cons slot [])
    ∙ ap (λ n. slot_weight slot + n) (reverse-weight slots) ∙ sym (patch-cons slot slots)

-- ---- what is put

states-weigh : (place : ℕ) (es : List (ℕ × FeatureContent)) → patch_weight (map (put_at place) es) ≡ features_weight es
states-weigh place [] = refl
states-weigh place (e ∷ es) =
    patch-cons (put_at place e) (map (put_at place) es) ∙ ap (λ n. feature_weight e.1 + n) (states-weigh place es) ∙ sym (features-cons e es)

no_more : (a b : ℕ) → a ≡ 0 + b → a ≡ b
no_more a b h = omega (arith, h)

turned : (a p l w s : ℕ) → a ≡ p + l → p ≡ s → l ≡ w → a ≡ w + s
turned a p l w s a_is p_is l_is = omega (arith, a_is, p_is, l_is)

puts-weigh : (whole es : Content) → patch_weight (puts whole es) ≡ content_weight es
puts-weigh whole [] = refl
puts-weigh whole (e ∷ es) =
    turned (patch_weight (puts whole es ++ layer_slots (place_of whole e.0) e.1)) (patch_weight (puts whole es)) (patch_weight (layer_slots (place_of whole e.0) e.1)) (features_weight e.1.features) (content_weight es)
    (sum_by-append slot_weight (puts whole es) (layer_slots (place_of whole e.0) e.1)) (puts-weigh whole es)
    (no_more (patch_weight (layer_slots (place_of whole e.0) e.1)) (patch_weight (map (put_at (place_of whole e.0)) e.1.features))
    (patch-cons (Counter (place_of whole e.0) e.1.next_id) (map (put_at (place_of whole e.0)) e.1.features)) ∙ states-weigh (place_of whole e.0) e.1.features)
    ∙ sym (content-cons e es)

removals-weigh : (keys : List Key) → patch_weight (map removal keys) ≡ 0
removals-weigh [] = refl
removals-weigh (key ∷ keys) = no_more (patch_weight (removal key ∷ map removal keys)) (patch_weight (map removal keys)) (patch-cons (removal key) (map removal keys)) ∙ removals-weigh keys

and_none : (a b r c : ℕ) → a ≡ b + r → b ≡ c → r ≡ 0 → a ≡ c
and_none a b r c a_is b_is r_is = omega (arith, a_is, b_is, r_is)

slots-weigh : (whole after : Content) (keys : List Key) → patch_weight (slots_between whole after keys) ≡ content_weight after
slots-weigh whole after keys =
    and_none (patch_weight (slots_between whole after keys)) (patch_weight (puts whole after)) (patch_weight (removals_of whole after keys)) (content_weight after)
    (sum_by-append slot_weight (puts whole after) (removals_of whole after keys)) (puts-weigh whole after) (removals-weigh (filter (λ key. not (has_key whole after key)) keys))

cancelled : (new whole scratch after held : ℕ) → new + held ≡ whole + after → new + scratch ≡ whole + after → held ≡ scratch
cancelled new whole scratch after held a b = omega (arith, a, b)

-- what takes the patch back holds what the scratch content has
pub undoing-weight : (whole new scratch after : Content) (slots : List Slot) → IsWellFormed whole → StayFine whole slots → patched whole slots ≡ new → patch_weight slots ≡ content_weight after
    → content_weight new + content_weight scratch ≡ content_weight whole + content_weight after → patch_weight (undoing whole slots) ≡ content_weight scratch
undoing-weight whole new scratch after slots fine stay leads holds gains =
    reverse-weight (befores whole slots)
    ∙ cancelled (content_weight new) (content_weight whole) (content_weight scratch) (content_weight after) (patch_weight (befores whole slots))
    (subst (λ c. content_weight c + patch_weight (befores whole slots) ≡ content_weight whole + content_weight after) leads
    (slots-move whole slots (AreRising-fine whole fine) stay ∙ ap (λ n. content_weight whole + n) holds)) gains

-- as much as its halves
pub halves-weigh : (content : Content) (halves : Halves) → halves_weight (back_halves content halves) ≡ patch_weight (undoing content (halves.growing ++ halves.removing))
halves-weigh content halves =
    sym (sum_by-append slot_weight (undoing (after_growing content halves) halves.removing) (undoing content halves.growing))
    ∙ ap patch_weight (sym (undoing-append content halves.growing halves.removing))

pub slots_between-weight : (whole after : Content) (keys : List Key) → patch_weight (slots_between whole after keys) ≡ content_weight after
slots_between-weight whole after keys = slots-weigh whole after keys

-- ---- what members name

abbrev named_weight : List Member → List ℕ → ℕ × FeatureContent → ℕ
named_weight members name f = if list_any (names name f.0) members then feature_weight f.1 else 0

abbrev layer_touched : List Member → List ℕ → List (ℕ × FeatureContent) → ℕ
layer_touched members name features = sum_by (named_weight members name) features

touched-cons : (members : List Member) (e : List ℕ × LayerContent) (es : Content) → together_touched (e ∷ es) members ≡ layer_touched members e.0 e.1.features + together_touched es members
touched-cons members e es = sum_by-cons (λ entry. layer_touched members entry.0 entry.1.features) e es

layer-cons : (members : List Member) (name : List ℕ) (f : ℕ × FeatureContent) (fs : List (ℕ × FeatureContent)) → layer_touched members name (f ∷ fs) ≡ named_weight members name f + layer_touched members name fs
layer-cons members name f fs = sum_by-cons (named_weight members name) f fs

-- the same is named
same-named : (members : List Member) (member : Member) (name : List ℕ) (f : ℕ × FeatureContent) → (names name f.0 member ≡ true → list_any (names name f.0) members ≡ true)
    → named_weight (members ++ member ∷ []) name f ≡ named_weight members name f
same-named members member name f further = ap (λ b. if b then feature_weight f.1 else 0) (any-push (names name f.0) members member ∙ by (list_any (names name f.0) members) (names name f.0 member) further)
  where
    by : (a b : Bool) → (b ≡ true → a ≡ true) → (a || b) ≡ a
    by true b h = refl
    by false true h = sym (h refl)
    by false false h = refl

layer-same : (members : List Member) (member : Member) (name : List ℕ) (fs : List (ℕ × FeatureContent)) → AllByRecursion (λ f. names name f.0 member ≡ true → list_any (names name f.0) members ≡ true) fs
    → layer_touched (members ++ member ∷ []) name fs ≡ layer_touched members name fs
layer-same members member name [] all = refl
layer-same members member name (f ∷ fs) all =
    layer-cons (members ++ member ∷ []) name f fs ∙ ap (λ n. n + layer_touched (members ++ member ∷ []) name fs) (same-named members member name f all.0)
    ∙ ap (λ n. named_weight members name f + n) (layer-same members member name fs all.1) ∙ sym (layer-cons members name f fs)

-- one feature more is named
first-gains : (a b w r s z : ℕ) → a ≡ w + r → b ≡ z + s → z ≡ 0 → r ≡ s → a ≡ b + w
first-gains a b w r s z a_is b_is none same = omega (arith, a_is, b_is, none, same)

later-gains : (a b x y r s w : ℕ) → a ≡ x + r → b ≡ y + s → x ≡ y → r ≡ s + w → a ≡ b + w
later-gains a b x y r s w a_is b_is same rest = omega (arith, a_is, b_is, same, rest)

layer-gains : (members : List Member) (member : Member) (name : List ℕ) (fs : List (ℕ × FeatureContent)) (feature : FeatureContent) → IsStrictlySortedBy nat_cmp (keys_of fs)
    → ((id : ℕ) → names name id member ≡ nat_eq (edit_id member.edit) id) → list_any (names name (edit_id member.edit)) members ≡ false → lookup (nat_eq (edit_id member.edit)) fs ≡ Some feature
    → layer_touched (members ++ member ∷ []) name fs ≡ layer_touched members name fs + feature_weight feature
unfolding IsStrictlySortedBy
layer-gains members member name [] feature rising own none found = cc
layer-gains members member name (f ∷ fs) feature rising own none found =
    by (λ there. layer-gains members member name fs feature rising.1 own none there) (nat_eq (edit_id member.edit) f.0) refl found
  where
    -- those behind it are not named
    behind_it : edit_id member.edit ≡ f.0 → AllByRecursion (λ g. names name g.0 member ≡ true → list_any (names name g.0) members ≡ true) fs
    behind_it is =
        all-weaker (λ g. nat_cmp f.0 g.0 ≡ Less) (λ g. names name g.0 member ≡ true → list_any (names name g.0) members ≡ true)
        (λ g less h.
        let apart : nat_eq g.0 f.0 ≡ false = nat_eq-apart-above g.0 f.0 (less-below f.0 g.0 less) in
        let yes : nat_eq g.0 f.0 ≡ true = eq-eqb g.0 f.0 (sym (eqb-true (edit_id member.edit) g.0 (sym (own g.0) ∙ h)) ∙ is) in cc)
        fs (all-of_map (λ n. nat_cmp f.0 n ≡ Less) (λ g. g.0) fs rising.0)

    by : (lookup (nat_eq (edit_id member.edit)) fs ≡ Some feature → layer_touched (members ++ member ∷ []) name fs ≡ layer_touched members name fs + feature_weight feature) → (b : Bool)
        → nat_eq (edit_id member.edit) f.0 ≡ b → cond b (Some f.1) (lookup (nat_eq (edit_id member.edit)) fs) ≡ Some feature
        → layer_touched (members ++ member ∷ []) name (f ∷ fs) ≡ layer_touched members name (f ∷ fs) + feature_weight feature
    by later true is h =
        let there : f.1 ≡ feature = cc in
        let id_is : edit_id member.edit ≡ f.0 = eqb-true (edit_id member.edit) f.0 is in
        let was : list_any (names name f.0) members ≡ false = ap (λ i. list_any (names name i) members) (sym id_is) ∙ none in
        let now : (list_any (names name f.0) members || names name f.0 member) ≡ true = ap (λ b. b || names name f.0 member) was ∙ own f.0 ∙ is in
        subst (λ x. layer_touched (members ++ member ∷ []) name (f ∷ fs) ≡ layer_touched members name (f ∷ fs) + feature_weight x) there
        (first-gains (layer_touched (members ++ member ∷ []) name (f ∷ fs)) (layer_touched members name (f ∷ fs)) (feature_weight f.1) (layer_touched (members ++ member ∷ []) name fs) (layer_touched members name fs)
        (named_weight members name f)
        (layer-cons (members ++ member ∷ []) name f fs
        ∙ ap (λ b. (if b then feature_weight f.1 else 0) + layer_touched (members ++ member ∷ []) name fs) (any-push (names name f.0) members member ∙ now))
        (layer-cons members name f fs) (ap (λ b. if b then feature_weight f.1 else 0) was) (layer-same members member name fs (behind_it id_is)))
    by later false is h =
        later-gains (layer_touched (members ++ member ∷ []) name (f ∷ fs)) (layer_touched members name (f ∷ fs)) (named_weight (members ++ member ∷ []) name f) (named_weight members name f)
        (layer_touched (members ++ member ∷ []) name fs) (layer_touched members name fs) (feature_weight feature) (layer-cons (members ++ member ∷ []) name f fs) (layer-cons members name f fs)
        (same-named members member name f (λ named. let no : false ≡ true = sym (own f.0 ∙ is) ∙ named in cc)) (later h)

-- a member names no feature of another layer
apart-names : (member : Member) (name : List ℕ) (id : ℕ) → bytes_eq (edit_layer member.edit) name ≡ false → names name id member ≡ false
apart-names member name id apart = ap (λ b. not member.of_last && b && nat_eq (edit_id member.edit) id) apart ∙ by (not member.of_last)
  where
    by : (a : Bool) → a && false && nat_eq (edit_id member.edit) id ≡ false
    by true = refl
    by false = refl

other-layer : (members : List Member) (member : Member) (name : List ℕ) (fs : List (ℕ × FeatureContent)) → bytes_eq (edit_layer member.edit) name ≡ false
    → layer_touched (members ++ member ∷ []) name fs ≡ layer_touched members name fs
other-layer members member name [] apart = refl
other-layer members member name (f ∷ fs) apart =
    layer-cons (members ++ member ∷ []) name f fs
    ∙ ap (λ n. n + layer_touched (members ++ member ∷ []) name fs) (same-named members member name f (λ named. let no : false ≡ true = sym (apart-names member name f.0 apart) ∙ named in cc))
    ∙ ap (λ n. named_weight members name f + n) (other-layer members member name fs apart) ∙ sym (layer-cons members name f fs)

-- contents: the layer that the member names gains, if one has its name, and no other one does
touched-apart : (members : List Member) (member : Member) (es : Content) → AllByRecursion (λ e. bytes_eq (edit_layer member.edit) e.0 ≡ false) es → together_touched es (members ++ member ∷ []) ≡ together_touched es members
touched-apart members member [] all = refl
touched-apart members member (e ∷ es) all =
    touched-cons (members ++ member ∷ []) e es ∙ ap (λ n. n + together_touched es (members ++ member ∷ [])) (other-layer members member e.0 e.1.features all.0)
    ∙ ap (λ n. layer_touched members e.0 e.1.features + n) (touched-apart members member es all.1) ∙ sym (touched-cons members e es)

front-gains : (a b x y r s w : ℕ) → a ≡ x + r → b ≡ y + s → x ≡ y + w → r ≡ s → a ≡ b + w
front-gains a b x y r s w a_is b_is more same = omega (arith, a_is, b_is, more, same)

touched-gains : (members : List Member) (member : Member) (es : Content) (layer : LayerContent) (gain : ℕ) → IsDistinct bytes_eq (keys_of es) → layer_of es (edit_layer member.edit) ≡ Some layer
    → layer_touched (members ++ member ∷ []) (edit_layer member.edit) layer.features ≡ layer_touched members (edit_layer member.edit) layer.features + gain
    → together_touched es (members ++ member ∷ []) ≡ together_touched es members + gain
touched-gains members member [] layer gain distinct found gains = cc
touched-gains members member (e ∷ es) layer gain distinct found gains = by (λ there. touched-gains members member es layer gain distinct.1 there gains) (bytes_eq (edit_layer member.edit) e.0) refl found
  where
    rest_apart : edit_layer member.edit ≡ e.0 → AllByRecursion (λ f. bytes_eq (edit_layer member.edit) f.0 ≡ false) es
    rest_apart is =
        subst (λ n. AllByRecursion (λ f. bytes_eq n f.0 ≡ false) es) (sym is) (all-of_map (λ n. bytes_eq e.0 n ≡ false) (λ f. f.0) es (all-none (bytes_eq e.0) (keys_of es) distinct.0))

    by : (layer_of es (edit_layer member.edit) ≡ Some layer → together_touched es (members ++ member ∷ []) ≡ together_touched es members + gain) → (b : Bool) → bytes_eq (edit_layer member.edit) e.0 ≡ b
        → cond b (Some e.1) (layer_of es (edit_layer member.edit)) ≡ Some layer → together_touched (e ∷ es) (members ++ member ∷ []) ≡ together_touched (e ∷ es) members + gain
    by later true is h =
        let there : e.1 ≡ layer = cc in
        let name_is : edit_layer member.edit ≡ e.0 = (bytes_eq-Decides (edit_layer member.edit) e.0).0 is in
        front-gains (together_touched (e ∷ es) (members ++ member ∷ [])) (together_touched (e ∷ es) members) (layer_touched (members ++ member ∷ []) e.0 e.1.features) (layer_touched members e.0 e.1.features)
        (together_touched es (members ++ member ∷ [])) (together_touched es members) gain (touched-cons (members ++ member ∷ []) e es) (touched-cons members e es)
        (subst (λ n. layer_touched (members ++ member ∷ []) n e.1.features ≡ layer_touched members n e.1.features + gain) name_is
        (subst (λ l. layer_touched (members ++ member ∷ []) (edit_layer member.edit) l.features ≡ layer_touched members (edit_layer member.edit) l.features + gain) (sym there) gains))
        (touched-apart members member es (rest_apart name_is))
    by later false is h =
        later-gains (together_touched (e ∷ es) (members ++ member ∷ [])) (together_touched (e ∷ es) members) (layer_touched (members ++ member ∷ []) e.0 e.1.features) (layer_touched members e.0 e.1.features)
        (together_touched es (members ++ member ∷ [])) (together_touched es members) gain (touched-cons (members ++ member ∷ []) e es) (touched-cons members e es)
        (other-layer members member e.0 e.1.features is) (later h)

no_gain : (a b : ℕ) → a ≡ b → a ≡ b + 0
no_gain a b h = omega (arith, h)

gain_none : (a b : ℕ) → a ≡ b + 0 → a ≡ b
gain_none a b h = omega (arith, h)

-- where it names none that is not named already, nothing is gained
touched-same : (members : List Member) (member : Member) (whole : Content) (w : LayerContent) → IsWellFormed whole → layer_of whole (edit_layer member.edit) ≡ Some w
    → ((id : ℕ) (feature : FeatureContent) → feature_of w id ≡ Some feature → names (edit_layer member.edit) id member ≡ true → list_any (names (edit_layer member.edit) id) members ≡ true)
    → together_touched whole (members ++ member ∷ []) ≡ together_touched whole members
touched-same members member whole w fine found further =
    gain_none (together_touched whole (members ++ member ∷ [])) (together_touched whole members)
    (touched-gains members member whole w 0 fine.distinct found
    (no_gain (layer_touched (members ++ member ∷ []) (edit_layer member.edit) w.features) (layer_touched members (edit_layer member.edit) w.features)
    (layer-same members member (edit_layer member.edit) w.features
    (all-weaker (λ f. feature_of w f.0 ≡ Some f.1) (λ f. names (edit_layer member.edit) f.0 member ≡ true → list_any (names (edit_layer member.edit) f.0) members ≡ true) (λ f is. further f.0 f.1 is) w.features
    (all-found_rising w.features (IsLayer-layer_of whole (edit_layer member.edit) w found fine.layers).rising)))))

-- ---- what a scratch content holds

pushed-weight : (content : Content) (name : List ℕ) (w : LayerContent) → content_weight (content ++ (name, head_of w) ∷ []) ≡ content_weight content
pushed-weight content name w =
    gain_none (content_weight (content ++ (name, head_of w) ∷ [])) (content_weight content) (sum_by-append (λ entry. features_weight entry.1.features) content ((name, head_of w) ∷ []))

head-weight : (scratch : Content) (name : List ℕ) (w : LayerContent) → content_weight (with_head name w scratch) ≡ content_weight scratch
head-weight scratch name w = by (has_layer scratch name)
  where
    by : (b : Bool) → content_weight (if b then scratch else scratch ++ (name, head_of w) ∷ []) ≡ content_weight scratch
    by true = refl
    by false = pushed-weight scratch name w

copied-more : (c a i l s w : ℕ) → c + l ≡ a + i → i + s ≡ l + w → s ≡ 0 → c ≡ a + w
copied-more c a i l s w h k none = omega (arith, h, k, none)

-- a feature that is copied adds what it holds
copied-weight : (scratch : Content) (name : List ℕ) (p : LayerContent) (id : ℕ) (feature : FeatureContent) → layer_of scratch name ≡ Some p → IsStrictlySortedBy nat_cmp (keys_of p.features) → feature_of p id ≡ None
    → content_weight (change_layer scratch name (with_feature id feature)) ≡ content_weight scratch + feature_weight feature
copied-weight scratch name p id feature found rising free =
    copied-more (content_weight (change_layer scratch name (with_feature id feature))) (content_weight scratch) (features_weight (insert_entry nat_cmp p.features id feature)) (features_weight p.features)
    (state_weight (feature_of p id)) (feature_weight feature) (change_layer-weight scratch name p (with_feature id feature) found) (insert-weight id p.features feature rising) (ap state_weight free)

names-none : (member : Member) (id : ℕ) → member.of_last ≡ true → names (edit_layer member.edit) id member ≡ false
names-none member id last = names-own member id ∙ ap (λ b. not b && nat_eq (edit_id member.edit) id) last

names-id : (member : Member) → member.of_last ≡ false → (id : ℕ) → names (edit_layer member.edit) id member ≡ nat_eq (edit_id member.edit) id
names-id member first id = names-own member id ∙ ap (λ b. not b && nat_eq (edit_id member.edit) id) first

-- a layer with its head, and what a member names of it
shown-weight : (members : List Member) (member : Member) (whole s : Content) (w : LayerContent) → IsWellFormed whole → IsWellFormed s → layer_of whole (edit_layer member.edit) ≡ Some w
    → HasCopy members (edit_layer member.edit) w s → content_weight s ≡ together_touched whole members
    → content_weight (with_feature_shown (edit_layer member.edit) (edit_id member.edit) (named_feature w member) s) ≡ together_touched whole (members ++ member ∷ [])
shown-weight members member whole s w fine fine' found has holds = by member.of_last refl (feature_of w (edit_id member.edit)) refl
  where
    unnamed : (b : Bool) → list_any (names (edit_layer member.edit) (edit_id member.edit)) members ≡ b → feature_of has.p (edit_id member.edit) ≡ None → IsSome (feature_of w (edit_id member.edit)) → b ≡ false
    unnamed true is free there =
        let none : feature_of w (edit_id member.edit) ≡ None = sym (has.copies.features (edit_id member.edit) ∙ ap (λ b. if b then feature_of w (edit_id member.edit) else None) is) ∙ free in
        let no : false ≡ true = sym (ap is_some none) ∙ there in cc
    unnamed false is free there = refl

    named : (feature : FeatureContent) → feature_of has.p (edit_id member.edit) ≡ Some feature → (b : Bool) → list_any (names (edit_layer member.edit) (edit_id member.edit)) members ≡ b → b ≡ true
    named feature there true is = refl
    named feature there false is =
        let no : ◌≡◌ {A = Option FeatureContent} None (Some feature) = sym (has.copies.features (edit_id member.edit) ∙ ap (λ b. if b then feature_of w (edit_id member.edit) else None) is) ∙ there in cc

    put : (feature : FeatureContent) → member.of_last ≡ false → feature_of w (edit_id member.edit) ≡ Some feature → (o : Option FeatureContent) → feature_of has.p (edit_id member.edit) ≡ o
        → content_weight (if is_some o then s else change_layer s (edit_layer member.edit) (with_feature (edit_id member.edit) feature)) ≡ together_touched whole (members ++ member ∷ [])
    put feature first is None free =
        copied-weight s (edit_layer member.edit) has.p (edit_id member.edit) feature has.is (IsLayer-layer_of s (edit_layer member.edit) has.p has.is fine'.layers).rising free
        ∙ ap (λ n. n + feature_weight feature) holds
        ∙ sym (touched-gains members member whole w (feature_weight feature) fine.distinct found
        (layer-gains members member (edit_layer member.edit) w.features feature (IsLayer-layer_of whole (edit_layer member.edit) w found fine.layers).rising (names-id member first)
        (unnamed (list_any (names (edit_layer member.edit) (edit_id member.edit)) members) refl free (ap is_some is)) is))
    put feature first is (Some there) there_is =
        holds
        ∙ sym (touched-same members member whole w fine found (λ id f f_is h.
        subst (λ i. list_any (names (edit_layer member.edit) i) members ≡ true) (eqb-true (edit_id member.edit) id (sym (names-id member first id) ∙ h))
        (named there there_is (list_any (names (edit_layer member.edit) (edit_id member.edit)) members) refl)))

    by : (a : Bool) → member.of_last ≡ a → (o : Option FeatureContent) → feature_of w (edit_id member.edit) ≡ o
        → content_weight (with_feature_shown (edit_layer member.edit) (edit_id member.edit) (if member.of_last then None else feature_of w (edit_id member.edit)) s) ≡ together_touched whole (members ++ member ∷ [])
    by true last o is =
        ap (λ a. content_weight (with_feature_shown (edit_layer member.edit) (edit_id member.edit) (if a then None else feature_of w (edit_id member.edit)) s)) last
        ∙ holds ∙ sym (touched-same members member whole w fine found (λ id f f_is h. let no : false ≡ true = sym (names-none member id last) ∙ h in cc))
    by false first None is =
        ap (λ a. content_weight (with_feature_shown (edit_layer member.edit) (edit_id member.edit) (if a then None else feature_of w (edit_id member.edit)) s)) first
        ∙ ap (λ o. content_weight (with_feature_shown (edit_layer member.edit) (edit_id member.edit) o s)) is
        ∙ holds
        ∙ sym (touched-same members member whole w fine found (λ id f f_is h.
        let same : edit_id member.edit ≡ id = eqb-true (edit_id member.edit) id (sym (names-id member first id) ∙ h) in
        let no : ◌≡◌ {A = Option FeatureContent} None (Some f) = sym is ∙ ap (feature_of w) same ∙ f_is in cc))
    by false first (Some feature) is =
        ap (λ a. content_weight (with_feature_shown (edit_layer member.edit) (edit_id member.edit) (if a then None else feature_of w (edit_id member.edit)) s)) first
        ∙ ap (λ o. content_weight (with_feature_shown (edit_layer member.edit) (edit_id member.edit) o s)) is
        ∙ ap (λ o. content_weight (if is_some o then s else change_layer s (edit_layer member.edit) (with_feature (edit_id member.edit) feature))) (feature-in s (edit_layer member.edit) (edit_id member.edit) has.p has.is)
        ∙ put feature first is (feature_of has.p (edit_id member.edit)) refl

-- no member names nothing
pub touched-none : (whole : Content) → together_touched whole [] ≡ 0
touched-none [] = refl
touched-none (e ∷ es) = touched-cons [] e es ∙ ap (λ n. n + together_touched es []) (none e.1.features) ∙ ap (λ n. 0 + n) (touched-none es)
  where
    none : (fs : List (ℕ × FeatureContent)) → layer_touched [] e.0 fs ≡ 0
    none [] = refl
    none (f ∷ fs) = layer-cons [] e.0 f fs ∙ ap (λ n. 0 + n) (none fs)

-- one member more
pub scratch-weight : (whole scratch : Content) (members : List Member) (member : Member) → IsWellFormed whole → ((w : LayerContent) → layer_of whole (edit_layer member.edit) ≡ Some w → IsWellFormed (with_head (edit_layer member.edit) w scratch))
    → IsScratchOf whole members scratch → content_weight scratch ≡ together_touched whole members → content_weight (with_shown whole member scratch) ≡ together_touched whole (members ++ member ∷ [])
scratch-weight whole scratch members member fine heads copied holds = by (layer_of whole (edit_layer member.edit)) refl
  where
    by : (o : Option LayerContent) → layer_of whole (edit_layer member.edit) ≡ o → content_weight (with_layer_shown member o scratch) ≡ together_touched whole (members ++ member ∷ [])
    by None is = holds ∙ sym (touched-apart members member whole (all-of_map (λ n. bytes_eq (edit_layer member.edit) n ≡ false) (λ e. e.0) whole (all-none (bytes_eq (edit_layer member.edit)) (keys_of whole) (none-any whole (edit_layer member.edit) is))))
    by (Some w) is =
        shown-weight members member whole (with_head (edit_layer member.edit) w scratch) w fine (heads w is) is (head-copied whole scratch members (edit_layer member.edit) w copied is)
        (head-weight scratch (edit_layer member.edit) w ∙ holds)
