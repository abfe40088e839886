-- What is written through a map's entry is a change of the entry.
use Rattle.std.proofs.Common.{◌≡◌, ℕ, Bool, true, false, cond, if◌then◌else◌, List, [], ◌∷◌, Option, Some, IsSomeAnd, nat_eq, refl, ap, sym, subst, ◌∙◌, arith}
use Rattle.std.proofs.lemmas.Bool.Decides.{nat_tests}
use Rattle.std.specs.BTreeMap.{is_at}
use Rattle.std.specs.Map.{lookup, set_value}
use Rattle.std.specs.Ordering.{nat_cmp}
use Rattle.sf_features.specs.Features.{FeatureContent}
use Rattle.sf_layers.specs.Content.{LayerContent, change_value, change_feature, feature_of}

pub is_at-nat_eq : (k n : ℕ) → is_at (nat_cmp k) n ≡ nat_eq k n
is_at-nat_eq k n = grind (arith, nat_tests)

pub lookup-same : {X : Type 0} (t u : ℕ → Bool) → ((n : ℕ) → t n ≡ u n) → (es : List (ℕ × X)) → lookup t es ≡ lookup u es
lookup-same t u same [] = refl
lookup-same t u same (e ∷ es) = ap (λ b. cond b (Some e.1) (lookup t es)) (same e.0) ∙ ap (λ o. cond (u e.0) (Some e.1) o) (lookup-same t u same es)

pub set_value-change_value : {X : Type 0} (t u : ℕ → Bool) → ((n : ℕ) → t n ≡ u n) → (es : List (ℕ × X)) (v w : X) (f : X → X) → lookup t es ≡ Some v → w ≡ f v → set_value t es w ≡ change_value u es f
set_value-change_value t u same [] v w f found is = cc
set_value-change_value {X} t u same (e ∷ es) v w f found is = by (set_value-change_value t u same es v w f) (t e.0) (sym (same e.0)) found
  where
    by : (lookup t es ≡ Some v → w ≡ f v → set_value t es w ≡ change_value u es f) → (b : Bool) → u e.0 ≡ b → cond b (Some e.1) (lookup t es) ≡ Some v
        → cond b ((e.0, w) ∷ es) (e ∷ set_value t es w) ≡ (if u e.0 then (e.0, f e.1) ∷ es else e ∷ change_value u es f)
    by later true at h =
        let there : v ≡ e.1 = cc in
        ap (λ x. (e.0, x) ∷ es) (is ∙ ap f there) ∙ sym (ap (λ b. if b then (e.0, f e.1) ∷ es else e ∷ change_value u es f) at)
    by later false at h = ap (λ rest. e ∷ rest) (later h is) ∙ sym (ap (λ b. if b then (e.0, f e.1) ∷ es else e ∷ change_value u es f) at)

pub set_value-same : {X : Type 0} (t : ℕ → Bool) (es : List (ℕ × X)) (v w : X) → lookup t es ≡ Some v → w ≡ v → set_value t es w ≡ es
set_value-same t [] v w found is = cc
set_value-same {X} t (e ∷ es) v w found is = by (set_value-same t es v w) (t e.0) found
  where
    by : (lookup t es ≡ Some v → w ≡ v → set_value t es w ≡ es) → (b : Bool) → cond b (Some e.1) (lookup t es) ≡ Some v → cond b ((e.0, w) ∷ es) (e ∷ set_value t es w) ≡ e ∷ es
    by later true h = let there : v ≡ e.1 = cc in ap (λ x. (e.0, x) ∷ es) (is ∙ there)
    by later false h = ap (λ rest. e ∷ rest) (later h is)

-- a feature that the map gives is the one of the identifier
pub feature-found : (layer now : LayerContent) (id : ℕ) (feature : FeatureContent) → layer ≡ now → Some feature ≡ lookup (is_at (nat_cmp id)) layer.features → feature_of now id ≡ Some feature
feature-found layer now id feature same there =
    ap (λ l. feature_of l id) (sym same) ∙ sym (lookup-same (is_at (nat_cmp id)) (nat_eq id) (is_at-nat_eq id) layer.features) ∙ sym there

-- what is written to it changes it
pub feature-changed : (layer now : LayerContent) (id : ℕ) (feature new : FeatureContent) (f : FeatureContent → FeatureContent) (features : List (ℕ × FeatureContent))
    → layer ≡ now → Some feature ≡ lookup (is_at (nat_cmp id)) layer.features → features ≡ set_value (is_at (nat_cmp id)) layer.features new → new ≡ f feature
    → (let changed : LayerContent = record layer { features = features } in changed) ≡ change_feature id f now
feature-changed layer now id feature new f features same there written is =
    ap (λ es. let l : LayerContent = record layer { features = es } in l)
    (written ∙ set_value-change_value (is_at (nat_cmp id)) (nat_eq id) (is_at-nat_eq id) layer.features feature new f (sym there) is)
    ∙ ap (change_feature id f) same

-- and where it is the same, so is the layer
pub feature-kept : (layer now : LayerContent) (id : ℕ) (feature new : FeatureContent) (features : List (ℕ × FeatureContent))
    → layer ≡ now → Some feature ≡ lookup (is_at (nat_cmp id)) layer.features → features ≡ set_value (is_at (nat_cmp id)) layer.features new → new ≡ feature
    → (let changed : LayerContent = record layer { features = features } in changed) ≡ now
feature-kept layer now id feature new features same there written is =
    ap (λ es. let l : LayerContent = record layer { features = es } in l)
    (written ∙ set_value-same (is_at (nat_cmp id)) layer.features feature new (sym there) is)
    ∙ same

-- what a change leaves in the place of a feature is what is written there
written-there : (id : ℕ) (old : LayerContent) (before after : FeatureContent) → feature_of old id ≡ Some before →
    set_value (nat_eq id) old.features after ≡ change_value (nat_eq id) old.features (λ _. after)
written-there id old before after found = set_value-change_value (nat_eq id) (nat_eq id) (λ n. refl) old.features before after (λ _. after) found refl

-- a change that leaves what another would leave is that one
pub left-by : (id : ℕ) (f : FeatureContent → FeatureContent) (old new : LayerContent) (before after : FeatureContent) → feature_of old id ≡ Some before → after ≡ f before
    → new ≡ change_feature id (λ _. after) old → new ≡ change_feature id f old
left-by id f old new before after found is changed =
    changed
    ∙ ap (λ es. record old { features = es })
    (sym (written-there id old before after found) ∙ set_value-change_value (nat_eq id) (nat_eq id) (λ n. refl) old.features before after f found is)

-- and one that leaves the feature leaves the layer
pub left-same : (id : ℕ) (old new : LayerContent) (before after : FeatureContent) → feature_of old id ≡ Some before → after ≡ before → new ≡ change_feature id (λ _. after) old → new ≡ old
left-same id old new before after found is changed =
    changed ∙ ap (λ es. record old { features = es }) (sym (written-there id old before after found) ∙ set_value-same (nat_eq id) old.features before after found is)

-- what holds of a value that is there
pub holds-of : {X : Type 0} (P : X → Type 0) (o : Option X) (x : X) → o ≡ Some x → P x → IsSomeAnd o P
holds-of P o x is h = subst (λ p. IsSomeAnd p P) (sym is) h

pub holds-there : {X : Type 0} (P : X → Type 0) (o : Option X) (x : X) → o ≡ Some x → IsSomeAnd o P → P x
holds-there P o x is h = subst (λ p. IsSomeAnd p P) is h
