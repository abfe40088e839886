-- A feature that is put over another.
use Rattle.std.proofs.Common.{◌≡◌, ℕ, Bool, true, false, cond, if◌then◌else◌, List, [], ◌∷◌, Some, nat_eq, refl, ap, sym, ◌∙◌}
use Rattle.std.proofs.lemmas.Bool.{eqb-true}
use Rattle.std.specs.BTreeMap.{insert_entry}
use Rattle.std.specs.List.Sorted.{IsStrictlySortedBy}
use Rattle.std.specs.Map.{keys_of, lookup}
use Rattle.std.specs.Ordering.{nat_cmp, match_ordering}
use Rattle.sf_features.specs.Features.{FeatureContent}
use Rattle.sf_layers.specs.Content.{LayerContent, change_value, change_feature, feature_of, with_feature}
use Rattle.sf_layers.proofs.Values.{found_above, nat_cmp-of_above, nat_cmp-of_same}

module _ {X : Type 0} where
  -- in the place of an entry that is there
  pub change_value-insert_entry : (k : ℕ) (v w : X) (es : List (ℕ × X)) → IsStrictlySortedBy nat_cmp (keys_of es) → lookup (nat_eq k) es ≡ Some v
      → change_value (nat_eq k) es (λ old. w) ≡ insert_entry nat_cmp es k w
  unfolding IsStrictlySortedBy
  change_value-insert_entry k v w [] rising found = cc
  change_value-insert_entry k v w (e ∷ es) rising found = by (change_value-insert_entry k v w es rising.1) (nat_eq k e.0) refl found
    where
      by : (lookup (nat_eq k) es ≡ Some v → change_value (nat_eq k) es (λ old. w) ≡ insert_entry nat_cmp es k w) → (b : Bool) → nat_eq k e.0 ≡ b
          → cond b (Some e.1) (lookup (nat_eq k) es) ≡ Some v
          → (if b then (e.0, w) ∷ es else e ∷ change_value (nat_eq k) es (λ old. w)) ≡ match_ordering (nat_cmp k e.0) ((k, w) ∷ e ∷ es) ((e.0, w) ∷ es) (e ∷ insert_entry nat_cmp es k w)
      by later true is h =
          sym (ap (λ o. match_ordering o ((k, w) ∷ e ∷ es) ((e.0, w) ∷ es) (e ∷ insert_entry nat_cmp es k w)) (ap (nat_cmp k) (sym (eqb-true k e.0 is)) ∙ nat_cmp-of_same k))
      by later false is h =
          ap (λ rest. e ∷ rest) (later h)
          ∙ sym (ap (λ o. match_ordering o ((k, w) ∷ e ∷ es) ((e.0, w) ∷ es) (e ∷ insert_entry nat_cmp es k w)) (nat_cmp-of_above k e.0 (found_above e.0 k v es rising.0 h)))

-- a feature in the place of another
pub put-over : (layer new : LayerContent) (id : ℕ) (before after feature : FeatureContent) → IsStrictlySortedBy nat_cmp (keys_of layer.features) → feature_of layer id ≡ Some before → after ≡ feature
    → new ≡ change_feature id (λ old. after) layer → new ≡ with_feature id feature layer
put-over layer new id before after feature rising found is changed =
    changed ∙ ap (λ f. change_feature id (λ old. f) layer) is
    ∙ ap (λ es. let l : LayerContent = record layer { features = es } in l) (change_value-insert_entry id before feature layer.features rising found)
