-- The edits of whole features, and what takes them back.
use Rattle.std.proofs.Common.{◌≡◌, ℕ, Bool, true, List, [], ◌∷◌, Option, None, Some, is_some, option_map, option_and_then, Ok, IsSome, IsSomeAnd, IfSome, slice_get, refl, ap, sym, subst, ◌∙◌}
use Rattle.std.specs.Option.{option_map_or}
use Rattle.sf_features.specs.Features.{FeatureContent}
use Rattle.sf_layers.specs.Content.{Content, LayerContent, change_at, feature_at, feature_in, feature_of, has_layer, layer_at, layer_of, place_of, with_feature, without_feature}
use Rattle.sf_layers.specs.WellFormed.{IsWellFormed}
use Rattle.sf_layers.proofs.Changes.{IsLayer-layer_of, layer_of-change_layer}
use Rattle.sf_steps.specs.declared.edit.Edit.TheVariants as edits
use Rattle.sf_steps.specs.declared.inverse.Inverse.TheVariants as inverses
use Rattle.sf_steps.specs.declared.refusal.Refusal.TheVariants.{NoFeature, NoLayer}
use Rattle.sf_steps.specs.Steps.{feature_checks, first_refusal, has_feature, unless}
use Rattle.sf_steps.specs.Inverses.{Carries, Fits, RevertsOrKeeps, described, no_feature}
use Rattle.sf_steps.proofs.Passes.{FeatureThere, FeatureThere-feature_in, passed}
use Rattle.sf_steps.proofs.InverseLaws.{lookup-remove_entry}
use Rattle.sf_edits.proofs.Carrying.{Accepted-Fits, Carries-done, RevertsOrKeeps-described, changed-at, feature_at-place_of, fits-at, layer_at-place_of}

-- ---- places

-- what stands at the place of a name is its layer
pub layer_of-at : (content : Content) (name : List ℕ) (place : ℕ) (layer : LayerContent) → place ≡ place_of content name → layer_at content place ≡ Some layer → layer_of content name ≡ Some layer
layer_of-at content name place layer at there = sym (layer_at-place_of content name) ∙ ap (layer_at content) (sym at) ∙ there

-- a layer that is there has an entry at its place
pub entry-there : (content : Content) (name : List ℕ) (place : ℕ) → place ≡ place_of content name → has_layer content name ≡ true → IsSome (slice_get content place)
entry-there content name place at there = by (slice_get content place) (ap (λ n. is_some (layer_at content n)) at ∙ ap is_some (layer_at-place_of content name) ∙ there)
  where
    by : (o : Option (List ℕ × LayerContent)) → is_some (option_map (λ entry. entry.1) o) ≡ true → IsSome o
    by None h = h
    by (Some entry) h = h

-- what holds of the layer of a name holds of the entry at its place
pub at_place : (content : Content) (name : List ℕ) (place : ℕ) (layer : LayerContent) (P : LayerContent → Type 0) → place ≡ place_of content name → layer_of content name ≡ Some layer → P layer
    → IsSomeAnd (slice_get content place) (λ entry. P entry.1)
at_place content name place layer P at found h = by (slice_get content place) (ap (layer_at content) at ∙ layer_at-place_of content name ∙ found)
  where
    by : (o : Option (List ℕ × LayerContent)) → option_map (λ entry. entry.1) o ≡ Some layer → IsSomeAnd o (λ entry. P entry.1)
    by None is = cc
    by (Some entry) is = let same : entry.1 ≡ layer = cc in subst P (sym same) h

-- and what holds of that entry holds of the layer
pub from_place : (content : Content) (name : List ℕ) (place : ℕ) (layer : LayerContent) (P : LayerContent → Type 0) → place ≡ place_of content name → layer_of content name ≡ Some layer
    → IsSomeAnd (slice_get content place) (λ entry. P entry.1) → P layer
from_place content name place layer P at found h = by (slice_get content place) (ap (layer_at content) at ∙ layer_at-place_of content name ∙ found) h
  where
    by : (o : Option (List ℕ × LayerContent)) → option_map (λ entry. entry.1) o ≡ Some layer → IsSomeAnd o (λ entry. P entry.1) → P layer
    by None is h = absurd h
    by (Some entry) is h = let same : entry.1 ≡ layer = cc in subst P same h

-- what holds of a value that is there
pub of_some : {X : Type 0} (P : X → Type 0) (o : Option X) (x : X) → o ≡ Some x → IsSomeAnd o P → P x
of_some P o x is h = subst (λ p. IsSomeAnd p P) is h

pub to_some : {X : Type 0} (P : X → Type 0) (o : Option X) (x : X) → o ≡ Some x → P x → IsSomeAnd o P
to_some P o x is h = subst (λ p. IsSomeAnd p P) (sym is) h

pub some_is : {X : Type 0} (o : Option X) (x : X) → o ≡ Some x → IsSome o
some_is o x is = subst (λ p. IsSome p) (sym is) refl

-- the checks of a feature, where the layer is there
feature_checks-at : (content : Content) (name : List ℕ) (id place : ℕ) (layer : LayerContent) (o : Option FeatureContent) → place ≡ place_of content name → layer_at content place ≡ Some layer → feature_of layer id ≡ o
    → first_refusal (feature_checks content name id) ≡ first_refusal (unless (is_some o) NoFeature ∷ [])
feature_checks-at content name id place layer o at there held =
    ap (λ l. first_refusal (unless (is_some l) NoLayer ∷ unless (is_some (option_and_then (λ x. feature_of x id) l)) NoFeature ∷ [])) (layer_of-at content name place layer at there)
    ∙ ap (λ f. first_refusal (unless (is_some f) NoFeature ∷ [])) held

pub feature-passed : (content : Content) (name : List ℕ) (id place : ℕ) (layer : LayerContent) (feature : FeatureContent) → place ≡ place_of content name → layer_at content place ≡ Some layer
    → feature_of layer id ≡ Some feature → first_refusal (feature_checks content name id) ≡ None
feature-passed content name id place layer feature at there held = feature_checks-at content name id place layer (Some feature) at there held

pub feature-failed : (content : Content) (name : List ℕ) (id place : ℕ) (layer : LayerContent) → place ≡ place_of content name → layer_at content place ≡ Some layer
    → feature_of layer id ≡ None → first_refusal (feature_checks content name id) ≡ Some NoFeature
feature-failed content name id place layer at there held = feature_checks-at content name id place layer None at there held

-- ---- a feature that was found

-- the place is that of the layer of the name, and the feature is there
pub record IsPlaced (content : Content) (name : List ℕ) (id place : ℕ) : Type 0 where
  pub at : place ≡ place_of content name
  pub passes : first_refusal (feature_checks content name id) ≡ None
  pub fine : IsWellFormed content

pub is-placed : (content : Content) (name read : List ℕ) (id place : ℕ) → read ≡ name → place ≡ place_of content read → first_refusal (feature_checks content read id) ≡ None → IsWellFormed content
    → IsPlaced content name id place
is-placed content name read id place same at passes fine = record {
  at = at ∙ ap (place_of content) same;
  passes = subst (λ n. first_refusal (feature_checks content n id) ≡ None) same passes;
  fine = fine;
}

pub placed-there : (content : Content) (name : List ℕ) (id place : ℕ) → IsPlaced content name id place → FeatureThere content name id
placed-there content name id place p =
    FeatureThere-feature_in content name id (passed (has_feature content name id) NoFeature [] (passed (has_layer content name) NoLayer _ p.passes).1).0

-- the feature at the place
pub placed-at : (content : Content) (name : List ℕ) (id place : ℕ) (feature : FeatureContent) → place ≡ place_of content name → feature_in content name id ≡ Some feature → feature_at content place id ≡ Some feature
placed-at content name id place feature at held = ap (λ n. feature_at content n id) at ∙ feature_at-place_of content name id ∙ held

-- the place that was found for a name
pub place-unwrapped : (content : Content) (name read : List ℕ) (found : Option ℕ) (place : ℕ) → read ≡ name → found ≡ Some place → IfSome found (λ p. p ≡ place_of content read) → place ≡ place_of content name
place-unwrapped content name read found place same is there = subst (λ o. IfSome o (λ p. p ≡ place_of content read)) is there ∙ ap (place_of content) same

-- there is one where the layer is there
pub place-found : (content : Content) (name read : List ℕ) (found : Bool) (layer : LayerContent) → read ≡ name → found ≡ has_layer content read → layer_of content name ≡ Some layer → found ≡ true
place-found content name read found layer same is there = is ∙ ap (has_layer content) same ∙ ap is_some there

-- ---- features that are deleted

pub deleted : (content new : Content) (name : List ℕ) (id place : ℕ) (feature : FeatureContent) → IsPlaced content name id place
    → IsSomeAnd (slice_get content place) (λ entry. feature_of entry.1 id ≡ Some feature) → new ≡ change_at place (without_feature id) content
    → Carries content (edits.DeleteFeature name id) (Ok (inverses.PutFeature name id feature)) new
deleted content new name id place feature p taken is =
    let t = placed-there content name id place p in
    let held : feature_of t.layer id ≡ Some feature = from_place content name place t.layer (λ layer. feature_of layer id ≡ Some feature) p.at t.found taken in
    let found : feature_in content name id ≡ Some feature = ap (option_and_then (λ layer. feature_of layer id)) t.found ∙ held in
    Carries-done content new (edits.DeleteFeature name id) (inverses.PutFeature name id feature) p.fine
    p.passes
    (sym (changed-at content new name place (without_feature id) p.at is))
    (ap (inverses.PutFeature name id) (sym (ap (λ o. option_map_or (λ f. f) o no_feature) found)))

-- the layer that a deleted feature is put back into
pub record Undeleted (content : Content) (name : List ℕ) (id : ℕ) : Type 0 where
  pub layer : LayerContent
  pub found : layer_of content name ≡ Some layer
  pub free : feature_of layer id ≡ None

pub undeleted : (content : Content) (name : List ℕ) (id : ℕ) (feature : FeatureContent) → Fits content (inverses.PutFeature name id feature) → Undeleted content name id
undeleted content name id feature fits =
    let before = described content (inverses.PutFeature name id feature) in
    let accepted = Accepted-Fits content (inverses.PutFeature name id feature) fits in
    let first = passed (has_layer before name) NoLayer _ accepted.passed in
    let t = FeatureThere-feature_in before name id (passed (has_feature before name id) NoFeature [] first.1).0 in
    record {
      layer = without_feature id t.layer;
      found = ap (λ c. layer_of c name) (sym accepted.effect) ∙ layer_of-change_layer before name (without_feature id) ∙ ap (option_map (without_feature id)) t.found;
      free = lookup-remove_entry id t.layer.features (IsLayer-layer_of before name t.layer t.found fits.well_formed.layers).rising;
    }

pub undeleted-free : (content : Content) (name : List ℕ) (id place : ℕ) (feature : FeatureContent) → Fits content (inverses.PutFeature name id feature) → place ≡ place_of content name
    → IsSomeAnd (slice_get content place) (λ entry. feature_of entry.1 id ≡ None)
undeleted-free content name id place feature fits at =
    let u = undeleted content name id feature fits in
    at_place content name place u.layer (λ layer. feature_of layer id ≡ None) at u.found u.free

pub undeleted-fits : (content : Content) (name : List ℕ) (id place : ℕ) (feature : FeatureContent) → Fits content (inverses.PutFeature name id feature) → place ≡ place_of content name
    → IsWellFormed (change_at place (with_feature id feature) content)
undeleted-fits content name id place feature fits at = fits-at content name place (with_feature id feature) at fits.well_formed

pub undeleted-done : (content new : Content) (name : List ℕ) (id place : ℕ) (feature : FeatureContent) → Fits content (inverses.PutFeature name id feature) → place ≡ place_of content name
    → new ≡ change_at place (with_feature id feature) content → RevertsOrKeeps content (inverses.PutFeature name id feature) (Ok (edits.DeleteFeature name id)) new
undeleted-done content new name id place feature fits at is =
    RevertsOrKeeps-described content new (inverses.PutFeature name id feature) (edits.DeleteFeature name id) fits (changed-at content new name place (with_feature id feature) at is) refl
