-- Patches take one another back.
use Rattle.std.proofs.Common.{◌≡◌, ℕ, zero, suc, false, not, List, [], ◌∷◌, ◌++◌, append_assoc, Option, None, Some, is_some, option_and_then, nat_eq, refl, ap, sym, subst, ◌∙◌}
use Rattle.std.specs.List.Sorted.{IsStrictlySortedBy}
use Rattle.std.specs.Map.{keys_of, lookup}
use Rattle.std.specs.Ordering.{nat_cmp}
use Rattle.std.specs.Option.{option_map_or}
use Rattle.sf_layers.specs.Content.{Content, LayerContent, layer_at, change_at, with_feature, without_feature, with_next_id, feature_of, feature_at}
use Rattle.sf_features.specs.Features.{FeatureContent}
use Rattle.sf_patches.specs.declared.slot.Slot.{Slot}
use Rattle.sf_patches.specs.declared.slot.Slot.TheVariants.{Counter, State}
use Rattle.sf_patches.specs.Patches.{put_state, with_slot, before, patched, grows, removes, NoneRemoves, NoneGrows, GrowsFirst}
use Rattle.sf_patches.proofs.Undoing.{undoing_onto, undone_by}
use Rattle.sf_patches.proofs.Rising.{AreRising, KeepRising}
use Rattle.sf_layers.proofs.Values.{insert_entry-insert_entry, remove_entry-insert_entry, insert_entry-remove_entry, remove_entry-none, lookup-insert_entry}

abbrev with_features : LayerContent → List (ℕ × FeatureContent) → LayerContent
with_features layer es = record layer { features = es }

-- what stood in a layer is put back
put_state-back : (id : ℕ) (state : Option FeatureContent) (layer : LayerContent) → IsStrictlySortedBy nat_cmp (keys_of layer.features)
    → put_state id (feature_of layer id) (put_state id state layer) ≡ layer
put_state-back id state layer rising = by state (feature_of layer id) refl
  where
    by : (s old : Option FeatureContent) → feature_of layer id ≡ old → put_state id old (put_state id s layer) ≡ layer
    by None None is = ap (with_features layer) (remove_entry-none id _ (ap (lookup (nat_eq id)) (remove_entry-none id layer.features is) ∙ is) ∙ remove_entry-none id layer.features is)
    by None (Some f) is = ap (with_features layer) (insert_entry-remove_entry id f layer.features rising is)
    by (Some s) None is = ap (with_features layer) (remove_entry-insert_entry id s layer.features is)
    by (Some s) (Some f) is = ap (with_features layer) (insert_entry-insert_entry id f s layer.features rising is)

-- a change of the layer at a place that another one takes back, read off the content before
change_at-back : (content : Content) (place : ℕ) (f : LayerContent → LayerContent) (g : Option LayerContent → LayerContent → LayerContent)
    → ((layer : LayerContent) → IsStrictlySortedBy nat_cmp (keys_of layer.features) → g (Some layer) (f layer) ≡ layer)
    → AreRising content → change_at place (g (layer_at content place)) (change_at place f content) ≡ content
change_at-back [] place f g back rising = refl
change_at-back (e ∷ es) zero f g back rising = ap (λ l. (e.0, l) ∷ es) (back e.1 rising.0)
change_at-back (e ∷ es) (suc place) f g back rising = ap (λ rest. e ∷ rest) (change_at-back es place f g back rising.1)

-- an exchange is taken back by what stood there
pub with_slot-before : (content : Content) (slot : Slot) → AreRising content → with_slot (before content slot) (with_slot slot content) ≡ content
with_slot-before content (Counter place next_id) rising =
    change_at-back content place (with_next_id next_id) (λ o. with_next_id (option_map_or (λ layer. layer.next_id) o 0)) (λ layer is. refl) rising
with_slot-before content (State place id state) rising =
    change_at-back content place (put_state id state) (λ o. put_state id (option_and_then (λ layer. feature_of layer id) o)) (λ layer is. put_state-back id state layer is) rising

patched-undoing_onto : (content : Content) (slots others : List Slot) → AreRising content → KeepRising content slots
    → patched (patched content slots) (undoing_onto content slots others) ≡ patched content others
patched-undoing_onto content [] others rising keep = refl
patched-undoing_onto content (slot ∷ slots) others rising keep =
    patched-undoing_onto (with_slot slot content) slots (before content slot ∷ others) keep.0 keep.1
    ∙ ap (λ c. patched c others) (with_slot-before content slot rising)

-- a patch is taken back by the one that it leaves
pub patched-undoing : (content : Content) (slots : List Slot) → AreRising content → KeepRising content slots
    → patched (patched content slots) (undone_by content slots) ≡ content
patched-undoing content slots rising keep = patched-undoing_onto content slots [] rising keep

-- ---- what needs memory

-- what is read at the place after a change there
feature_at-change_at : (content : Content) (place id : ℕ) (f : LayerContent → LayerContent)
    → feature_at (change_at place f content) place id ≡ option_and_then (λ layer. feature_of (f layer) id) (layer_at content place)
feature_at-change_at [] place id f = refl
feature_at-change_at (e ∷ es) zero id f = refl
feature_at-change_at (e ∷ es) (suc place) id f = feature_at-change_at es place id f

-- where none was taken out, none is
none-after : (content : Content) (place id : ℕ) → feature_at content place id ≡ None → feature_at (with_slot (State place id None) content) place id ≡ None
none-after content place id none = feature_at-change_at content place id (without_feature id) ∙ by (layer_at content place) none
  where
    by : (o : Option LayerContent) → option_and_then (λ layer. feature_of layer id) o ≡ None → option_and_then (λ layer. feature_of (without_feature id layer) id) o ≡ None
    by None h = refl
    by (Some layer) h = ap (lookup (nat_eq id)) (remove_entry-none id layer.features h) ∙ h

-- what was put over another is there
some-after : (content : Content) (place id : ℕ) (feature old : FeatureContent) → feature_at content place id ≡ Some old
    → feature_at (with_slot (State place id (Some feature)) content) place id ≡ Some feature
some-after content place id feature old there = feature_at-change_at content place id (with_feature id feature) ∙ by (layer_at content place) there
  where
    by : (o : Option LayerContent) → option_and_then (λ layer. feature_of layer id) o ≡ Some old → option_and_then (λ layer. feature_of (with_feature id feature layer) id) o ≡ Some feature
    by None h = cc
    by (Some layer) h = lookup-insert_entry id feature layer.features

-- what takes back an exchange that does not grow does not remove
pub removes-before : (content : Content) (slot : Slot) → grows content slot ≡ false → removes (with_slot slot content) (before content slot) ≡ false
removes-before content (Counter place next_id) h = refl
removes-before content (State place id None) h = by (feature_at content place id) refl
  where
    by : (o : Option FeatureContent) → feature_at content place id ≡ o → removes (with_slot (State place id None) content) (State place id o) ≡ false
    by None is = ap (λ o. is_some o) (none-after content place id is)
    by (Some old) is = refl
removes-before content (State place id (Some feature)) h = by (feature_at content place id) h
  where
    by : (o : Option FeatureContent) → not (is_some o) ≡ false → removes (with_slot (State place id (Some feature)) content) (State place id o) ≡ false
    by None n = cc
    by (Some old) n = refl

-- and what takes back one that does not remove does not grow
pub grows-before : (content : Content) (slot : Slot) → removes content slot ≡ false → grows (with_slot slot content) (before content slot) ≡ false
grows-before content (Counter place next_id) h = refl
grows-before content (State place id None) h = by (feature_at content place id) h
  where
    by : (o : Option FeatureContent) → is_some o ≡ false → grows (with_slot (State place id None) content) (State place id o) ≡ false
    by None n = refl
    by (Some old) n = cc
grows-before content (State place id (Some feature)) h = by (feature_at content place id) refl
  where
    by : (o : Option FeatureContent) → feature_at content place id ≡ o → grows (with_slot (State place id (Some feature)) content) (State place id o) ≡ false
    by None is = refl
    by (Some old) is = ap (λ o. not (is_some o)) (some-after content place id feature old is)

-- what takes back exchanges that put nothing where none is removes nothing
pub NoneRemoves-undoing_onto : (content : Content) (slots others : List Slot) → AreRising content → KeepRising content slots → NoneGrows content slots → NoneRemoves content others
    → NoneRemoves (patched content slots) (undoing_onto content slots others)
NoneRemoves-undoing_onto content [] others rising keep none h = h
NoneRemoves-undoing_onto content (slot ∷ slots) others rising keep none h =
    NoneRemoves-undoing_onto (with_slot slot content) slots (before content slot ∷ others) keep.0 keep.1 none.1
    (removes-before content slot none.0, subst (λ c. NoneRemoves c others) (sym (with_slot-before content slot rising)) h)

-- and what takes back exchanges that remove nothing puts nothing where none is
pub NoneGrows-undoing_onto : (content : Content) (slots others : List Slot) → AreRising content → KeepRising content slots → NoneRemoves content slots → NoneGrows content others
    → NoneGrows (patched content slots) (undoing_onto content slots others)
NoneGrows-undoing_onto content [] others rising keep none h = h
NoneGrows-undoing_onto content (slot ∷ slots) others rising keep none h =
    NoneGrows-undoing_onto (with_slot slot content) slots (before content slot ∷ others) keep.0 keep.1 none.1
    (grows-before content slot none.0, subst (λ c. NoneGrows c others) (sym (with_slot-before content slot rising)) h)

-- patches one after another
pub patched-append : (content : Content) (a b : List Slot) → patched content (a ++ b) ≡ patched (patched content a) b
patched-append content [] b = refl
patched-append content (slot ∷ a) b = patched-append (with_slot slot content) a b

undoing_onto-append : (content : Content) (a b others : List Slot) → undoing_onto content (a ++ b) others ≡ undoing_onto (patched content a) b (undoing_onto content a others)
undoing_onto-append content [] b others = refl
undoing_onto-append content (slot ∷ a) b others = undoing_onto-append (with_slot slot content) a b (before content slot ∷ others)

undoing_onto-others : (content : Content) (slots others : List Slot) → undoing_onto content slots others ≡ undone_by content slots ++ others
undoing_onto-others content [] others = refl
undoing_onto-others content (slot ∷ slots) others =
    undoing_onto-others (with_slot slot content) slots (before content slot ∷ others)
    ∙ sym (append_assoc (undone_by (with_slot slot content) slots) (before content slot ∷ []) others)
    ∙ ap (λ xs. xs ++ others) (sym (undoing_onto-others (with_slot slot content) slots (before content slot ∷ [])))

KeepRising-front : (content : Content) (a b : List Slot) → KeepRising content (a ++ b) → KeepRising content a
KeepRising-front content [] b keep = tt
KeepRising-front content (slot ∷ a) b keep = (keep.0, KeepRising-front (with_slot slot content) a b keep.1)

KeepRising-back : (content : Content) (a b : List Slot) → KeepRising content (a ++ b) → KeepRising (patched content a) b
KeepRising-back content [] b keep = keep
KeepRising-back content (slot ∷ a) b keep = KeepRising-back (with_slot slot content) a b keep.1

AreRising-patched : (content : Content) (slots : List Slot) → AreRising content → KeepRising content slots → AreRising (patched content slots)
AreRising-patched content [] rising keep = rising
AreRising-patched content (slot ∷ slots) rising keep = AreRising-patched (with_slot slot content) slots keep.0 keep.1

-- a patch that needs memory first is taken back by one that does
pub GrowsFirst-undoing : (content : Content) (slots : List Slot) → AreRising content → KeepRising content slots → GrowsFirst content slots → GrowsFirst (patched content slots) (undone_by content slots)
GrowsFirst-undoing content slots rising keep first =
    let keeps : KeepRising content (first.front ++ first.back) = subst (KeepRising content) first.parts keep in
    let mid : Content = patched content first.front in
    let front_keeps = KeepRising-front content first.front first.back keeps in
    let back_keeps = KeepRising-back content first.front first.back keeps in
    let mid_rising = AreRising-patched content first.front rising front_keeps in
    let whole : patched content slots ≡ patched mid first.back = ap (patched content) first.parts ∙ patched-append content first.front first.back in
    let back_again : patched (patched mid first.back) (undone_by mid first.back) ≡ mid = patched-undoing mid first.back mid_rising back_keeps in
    record {
      front = undone_by mid first.back;
      back = undone_by content first.front;
      parts = ap (undone_by content) first.parts ∙ undoing_onto-append content first.front first.back [] ∙ undoing_onto-others mid first.back (undone_by content first.front);
      none_removes = subst (λ c. NoneRemoves c (undone_by mid first.back)) (sym whole) (NoneRemoves-undoing_onto mid first.back [] mid_rising back_keeps first.none_grows tt);
      none_grows = subst (λ c. NoneGrows c (undone_by content first.front))
          (sym (ap (λ c. patched c (undone_by mid first.back)) whole ∙ back_again))
          (NoneGrows-undoing_onto content first.front [] rising front_keeps first.none_removes tt);
    }
