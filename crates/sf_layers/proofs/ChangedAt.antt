-- A change of the layer at a place, and of a feature in it.
use Rattle.std.proofs.Common.{◌≡◌, ℕ, zero, suc, Bool, true, false, cond, List, [], ◌∷◌, map, slice_get, Option, Some, None, option_map, option_and_then, Result, Ok, Err, IsOkAnd, IsSomeAnd, IsSome, nat_eq, refl, ap, sym, subst, ◌∙◌}
use Rattle.std.proofs.lemmas.Map.Made.{keys_of-map_values}
use Rattle.std.specs.List.{AllByRecursion}
use Rattle.std.specs.List.Sorted.{IsStrictlySortedBy}
use Rattle.std.specs.Map.{lookup, values_of}
use Rattle.std.specs.Ordering.{nat_cmp}
use Rattle.sf_geometry.specs.Vertices.{Change, changed, outcome}
use Rattle.sf_validity.specs.Held.{IsHeld}
use Rattle.sf_features.specs.Features.{FeatureContent, change_geometry, result_or, with_geometry, without_value}
use Rattle.sf_features.specs.Columns.{IsDistinct}
use Rattle.sf_features.proofs.VertexLaws.{kind_of-outcome}
use Rattle.sf_layers.specs.Content.{Content, LayerContent, admits, change_at, change_feature, feature_at, feature_of, without_values}
use Rattle.sf_layers.specs.WellFormed.{IsFeature, IsIssued, IsLayer, IsWellFormed}
use Rattle.sf_layers.proofs.Changes.{IsLayer-slice_get}
use Rattle.sf_layers.proofs.ColumnsAdded.{IsFeature-without_value}
use Rattle.sf_layers.proofs.Fine.{IsLayer-change_feature}
use Rattle.sf_layers.proofs.Kept.{keys-change_at, length-change_at}
use Rattle.std.proofs.Common.{arith}
use Rattle.std.specs.Prelude.{bytes_eq}

layers-at : (content : Content) (place : ℕ) (entry : List ℕ × LayerContent) (f : LayerContent → LayerContent) → slice_get content place ≡ Some entry → IsLayer (f entry.1)
    → AllByRecursion IsLayer (values_of content) → AllByRecursion IsLayer (values_of (change_at place f content))
layers-at [] place entry f at fits all = all
layers-at (e ∷ es) zero entry f at fits all = let is : ◌≡◌ {A = List ℕ × LayerContent} entry e = cc in (subst (λ x. IsLayer (f x.1)) is fits, all.1)
layers-at (e ∷ es) (suc i) entry f at fits all = (all.0, layers-at es i entry f at fits all.1)

-- a change of the layer at a place to a well-formed one
pub IsWellFormed-at : (content : Content) (place : ℕ) (entry : List ℕ × LayerContent) (f : LayerContent → LayerContent) → slice_get content place ≡ Some entry → IsLayer (f entry.1)
    → IsWellFormed content → IsWellFormed (change_at place f content)
IsWellFormed-at content place entry f at fits h = record {
  few = omega (arith, length-change_at content place f, h.few);
  named = subst (AllByRecursion _) (sym (keys-change_at content place f)) h.named;
  distinct = subst (IsDistinct bytes_eq) (sym (keys-change_at content place f)) h.distinct;
  layers = layers-at content place entry f at fits h.layers;
}

-- what holds of each feature holds of the one of an identifier
pub features-at : (P : FeatureContent → Type 0) (es : List (ℕ × FeatureContent)) (id : ℕ) (feature : FeatureContent) → lookup (nat_eq id) es ≡ Some feature → AllByRecursion P (values_of es) → P feature
features-at P [] id feature found all = cc
features-at P (e ∷ es) id feature found all = by (λ there. features-at P es id feature there all.1) (nat_eq id e.0) found
  where
    by : (lookup (nat_eq id) es ≡ Some feature → P feature) → (b : Bool) → cond b (Some e.1) (lookup (nat_eq id) es) ≡ Some feature → P feature
    by later true h = let is : e.1 ≡ feature = cc in subst P is all.0
    by later false h = later h

pub IsFeature-feature_of : (layer : LayerContent) (id : ℕ) (feature : FeatureContent) → feature_of layer id ≡ Some feature → IsLayer layer → IsFeature layer.kind layer.columns feature
IsFeature-feature_of layer id feature found h = features-at (IsFeature layer.kind layer.columns) layer.features id feature found h.features

pub some_of : {X : Type 0} (P : X → Type 0) (o : Option X) → IsSomeAnd o P → (x : X) × ((o ≡ Some x) × P x)
some_of P None h = absurd h
some_of P (Some x) h = (x, (refl, h))

-- a feature of a content that is there
pub record FeatureAt (content : Content) (place id : ℕ) : Type 0 where
  pub entry : List ℕ × LayerContent
  pub feature : FeatureContent
  pub at : slice_get content place ≡ Some entry
  pub held : feature_of entry.1 id ≡ Some feature

pub FeatureAt-feature_at : (content : Content) (place id : ℕ) (P : FeatureContent → Type 0) → IsSomeAnd (feature_at content place id) P → (t : FeatureAt content place id) × P t.feature
FeatureAt-feature_at content place id P h = by (slice_get content place) refl h
  where
    by : (o : Option (List ℕ × LayerContent)) → slice_get content place ≡ o → IsSomeAnd (option_and_then (λ layer. feature_of layer id) (option_map (λ e. e.1) o)) P → (t : FeatureAt content place id) × P t.feature
    by None at h = absurd h
    by (Some entry) at h =
        let found = some_of P (feature_of entry.1 id) h in
        (record { entry = entry; feature = found.0; at = at; held = found.1.0 }, found.1.1)

-- a content with a feature changed to a well-formed one
pub IsWellFormed-feature_at : (content : Content) (place id : ℕ) (t : FeatureAt content place id) (f : FeatureContent → FeatureContent) → IsFeature t.entry.1.kind t.entry.1.columns (f t.feature)
    → IsWellFormed content → IsWellFormed (change_at place (change_feature id f) content)
IsWellFormed-feature_at content place id t f fits h =
    IsWellFormed-at content place t.entry (change_feature id f) t.at
    (IsLayer-change_feature t.entry.1 id t.feature f t.held fits (IsLayer-slice_get content place t.entry t.at h.layers)) h

IsFeature-there : (content : Content) (place id : ℕ) (t : FeatureAt content place id) → IsWellFormed content → IsFeature t.entry.1.kind t.entry.1.columns t.feature
IsFeature-there content place id t h = IsFeature-feature_of t.entry.1 id t.feature t.held (IsLayer-slice_get content place t.entry t.at h.layers)

ok_of : {T E : Type 0} (P : T → Type 0) (r : Result T E) → IsOkAnd r P → (x : T) × ((r ≡ Ok x) × P x)
ok_of P (Ok x) h = (x, (refl, h))
ok_of P (Err e) h = absurd h

-- a feature's vertices changed to a valid geometry
pub IsWellFormed-vertex : (content : Content) (place id : ℕ) (change : Change) (part ring : ℕ) → IsSomeAnd (feature_at content place id) (λ feature. IsOkAnd (outcome (changed change part ring feature.geometry)) IsHeld)
    → IsWellFormed content → IsWellFormed (change_at place (change_feature id (change_geometry (λ g. outcome (changed change part ring g)))) content)
IsWellFormed-vertex content place id change part ring there h =
    let t = FeatureAt-feature_at content place id (λ feature. IsOkAnd (outcome (changed change part ring feature.geometry)) IsHeld) there in
    let feature = t.0.feature in
    let to = ok_of IsHeld (outcome (changed change part ring feature.geometry)) t.1 in
    let is = IsFeature-there content place id t.0 h in
    let same : with_geometry to.0 feature ≡ change_geometry (λ g. outcome (changed change part ring g)) feature =
    ap (λ r. with_geometry (result_or feature.geometry r) feature) (sym to.1.0) in
    IsWellFormed-feature_at content place id t.0 (change_geometry (λ g. outcome (changed change part ring g)))
    (subst (IsFeature t.0.entry.1.kind t.0.entry.1.columns) same (record {
      admitted = ap (admits t.0.entry.1.kind) (kind_of-outcome change part ring feature.geometry to.0 to.1.0) ∙ is.admitted;
      valid = to.1.1.valid;
      on_grid = to.1.1.on_grid;
      rising = is.rising;
      values = is.values;
    })) h

-- a feature less a value
pub IsWellFormed-without_value : (content : Content) (place id number : ℕ) → IsSome (feature_at content place id) → IsWellFormed content
    → IsWellFormed (change_at place (change_feature id (without_value number)) content)
IsWellFormed-without_value content place id number there h =
    let t = (FeatureAt-feature_at content place id (λ feature. Unit {0}) (held (feature_at content place id) there)).0 in
    IsWellFormed-feature_at content place id t (without_value number)
    (IsFeature-without_value t.entry.1.kind t.entry.1.columns number t.feature (IsFeature-there content place id t h)) h
  where
    held : (o : Option FeatureContent) → IsSome o → IsSomeAnd o (λ feature. Unit {0})
    held None h = cc
    held (Some x) h = tt

-- all features less the values of a column
all-without : (layer : LayerContent) (number : ℕ) (es : List (ℕ × FeatureContent)) → AllByRecursion (IsFeature layer.kind layer.columns) (values_of es)
    → AllByRecursion (IsFeature layer.kind layer.columns) (values_of (map (λ e. (e.0, without_value number e.1)) es))
all-without layer number [] all = tt
all-without layer number (e ∷ es) all = (IsFeature-without_value layer.kind layer.columns number e.1 all.0, all-without layer number es all.1)

pub IsLayer-without_values : (number : ℕ) (layer : LayerContent) → IsLayer layer → IsLayer (without_values number layer)
IsLayer-without_values number layer h =
    let same = sym (keys_of-map_values (without_value number) layer.features) in
    record {
      next_id = h.next_id;
      next_column = h.next_column;
      columns = h.columns;
      column_names = h.column_names;
      column_numbers = h.column_numbers;
      rising = subst (IsStrictlySortedBy nat_cmp) same h.rising;
      ids = subst (AllByRecursion (IsIssued layer.next_id)) same h.ids;
      features = all-without layer number layer.features h.features;
    }

-- what holds of the feature of the layer that stands at a place
pub feature_at-held : (content : Content) (place id : ℕ) (entry : List ℕ × LayerContent) → slice_get content place ≡ Some entry → (P : FeatureContent → Type 0)
    → IsSomeAnd (feature_of entry.1 id) P → IsSomeAnd (feature_at content place id) P
feature_at-held content place id entry at P h = subst (λ o. IsSomeAnd (option_and_then (λ layer. feature_of layer id) (option_map (λ e. e.1) o)) P) (sym at) h
