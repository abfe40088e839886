-- The inverses of the edits of features and their values describe the content before.
use Rattle.std.proofs.Common.{◌≡◌, ℕ, Bool, true, false, cond, if◌then◌else◌, List, [], ◌∷◌, Option, None, Some, is_some, option_map, option_and_then, nat_eq, refl, ap, sym, subst, ◌∙◌}
use Rattle.std.specs.List.{AllByRecursion}
use Rattle.std.specs.List.Sorted.{IsStrictlySortedBy}
use Rattle.std.specs.Map.{lookup, keys_of, values_of, remove_entry}
use Rattle.std.specs.Option.{option_map_or}
use Rattle.std.specs.Ordering.{nat_cmp}
use Rattle.sf_geometry.specs.declared.geometry.Geometry.{Geometry}
use Rattle.sf_features.specs.declared.attr_value.AttrValue.{AttrValue}
use Rattle.sf_features.specs.Features.{FeatureContent, value_in, with_geometry, with_value, without_value}
use Rattle.sf_layers.specs.Content.{Content, LayerContent, layer_of, has_layer, change_value, change_layer, change_feature, with_feature, without_feature, column_named, change_in, feature_in}
use Rattle.sf_layers.specs.WellFormed.{IsWellFormed, IsFeature}
use Rattle.sf_layers.proofs.Changes.{IsLayer-layer_of, layer_of-change_layer}
use Rattle.sf_layers.proofs.Values.{insert_entry-insert_entry, insert_entry-remove_entry, remove_entry-insert_entry, remove_entry-none}
use Rattle.sf_steps.specs.declared.edit.Edit.TheVariants as edits
use Rattle.sf_steps.specs.declared.refusal.Refusal.TheVariants.{NoLayer, NoFeature}
use Rattle.sf_steps.specs.Steps.{first_refusal, checks, effect, number_in}
use Rattle.sf_steps.specs.Inverses.{described, inverse_of, the_feature, put_value, value_under}
use Rattle.sf_steps.proofs.Passes.{passed, FeatureThere, FeatureThere-feature_in, feature_in-there}
use Rattle.sf_steps.proofs.LayersBack.{change_layer-back}

-- a change under a key that another one takes back
pub change_value-back : {K X : Type 0} (test : K → Bool) (es : List (K × X)) (x : X) (f g : X → X) → lookup test es ≡ Some x → g (f x) ≡ x → change_value test (change_value test es f) g ≡ es
change_value-back test [] x f g found back = cc
change_value-back {K} {X} test (e ∷ es) x f g found back = by (λ there. change_value-back test es x f g there back) (test e.0) refl found
  where
    by : (lookup test es ≡ Some x → change_value test (change_value test es f) g ≡ es) → (b : Bool) → test e.0 ≡ b → cond b (Some e.1) (lookup test es) ≡ Some x
        → change_value test (if b then (e.0, f e.1) ∷ es else e ∷ change_value test es f) g ≡ e ∷ es
    by later true is h =
        let there : x ≡ e.1 = cc in
        ap (λ t. if t then (e.0, g (f e.1)) ∷ es else (e.0, f e.1) ∷ change_value test es g) is
        ∙ ap (λ y. (e.0, y) ∷ es) (subst (λ y. g (f y) ≡ y) there back)
    by later false is h = ap (λ t. if t then (e.0, g e.1) ∷ change_value test es f else e ∷ change_value test (change_value test es f) g) is ∙ ap (λ rest. e ∷ rest) (later h)

-- a change of a feature that another one takes back
pub change_in-back : (content : Content) (name : List ℕ) (id : ℕ) (t : FeatureThere content name id) (f g : FeatureContent → FeatureContent) → g (f t.feature) ≡ t.feature
    → change_in (change_in content name id f) name id g ≡ content
change_in-back content name id t f g back =
    change_layer-back content name t.layer (change_feature id f) (change_feature id g) t.found
    (ap (λ es. let l : LayerContent = record t.layer { features = es } in l) (change_value-back (nat_eq id) t.layer.features t.feature f g t.held back))

-- a change of a feature leaves the columns as they are
pub number_in-change_in : (content : Content) (name : List ℕ) (id : ℕ) (f : FeatureContent → FeatureContent) (column : List ℕ) → number_in (change_in content name id f) name column ≡ number_in content name column
number_in-change_in content name id f column =
    ap (λ o. option_map_or (λ c. c.number) (option_and_then (λ layer. column_named layer column) o) 0) (layer_of-change_layer content name (change_feature id f)) ∙ by (layer_of content name)
  where
    by : (o : Option LayerContent) → option_map_or (λ c. c.number) (option_and_then (λ layer. column_named layer column) (option_map (change_feature id f) o)) 0
        ≡ option_map_or (λ c. c.number) (option_and_then (λ layer. column_named layer column) o) 0
    by None = refl
    by (Some layer) = refl

-- the feature before, where its value was exchanged or set
put_value-with_value : (number : ℕ) (value : AttrValue) (old : Option AttrValue) (feature : FeatureContent) → IsStrictlySortedBy nat_cmp (keys_of feature.values) → value_in number feature ≡ old
    → put_value number old (with_value number value feature) ≡ feature
put_value-with_value number value None feature rising was = ap (λ vs. let f : FeatureContent = record feature { values = vs } in f) (remove_entry-insert_entry number value feature.values was)
put_value-with_value number value (Some v) feature rising was = ap (λ vs. let f : FeatureContent = record feature { values = vs } in f) (insert_entry-insert_entry number v value feature.values rising was)

-- and where it was taken out
put_value-without_value : (number : ℕ) (old : Option AttrValue) (feature : FeatureContent) → IsStrictlySortedBy nat_cmp (keys_of feature.values) → value_in number feature ≡ old
    → put_value number old (without_value number feature) ≡ feature
put_value-without_value number None feature rising was =
    ap (λ vs. let f : FeatureContent = record feature { values = vs } in f) (ap (remove_entry (nat_eq number)) (remove_entry-none number feature.values was) ∙ remove_entry-none number feature.values was)
put_value-without_value number (Some v) feature rising was = ap (λ vs. let f : FeatureContent = record feature { values = vs } in f) (insert_entry-remove_entry number v feature.values rising was)

-- what holds of each value holds of the one of an identifier
all-lookup : {X : Type 0} (P : X → Type 0) (id : ℕ) (es : List (ℕ × X)) (x : X) → AllByRecursion P (values_of es) → lookup (nat_eq id) es ≡ Some x → P x
all-lookup P id [] x all found = cc
all-lookup {X} P id (e ∷ es) x all found = by (all-lookup P id es x all.1) (nat_eq id e.0) found
  where
    by : (lookup (nat_eq id) es ≡ Some x → P x) → (b : Bool) → cond b (Some e.1) (lookup (nat_eq id) es) ≡ Some x → P x
    by later true h = let is : e.1 ≡ x = cc in subst P is all.0
    by later false h = later h

-- a feature that is there is well formed
pub IsFeature-there : (content : Content) (name : List ℕ) (id : ℕ) → IsWellFormed content → (t : FeatureThere content name id) → IsFeature t.layer.kind t.layer.columns t.feature
IsFeature-there content name id fine t =
    all-lookup (IsFeature t.layer.kind t.layer.columns) id t.layer.features t.feature (IsLayer-layer_of content name t.layer t.found fine.layers).features t.held

value_under-there : (content : Content) (name : List ℕ) (id : ℕ) (column : List ℕ) (t : FeatureThere content name id) → value_in (number_in content name column) t.feature ≡ value_under content name id column
value_under-there content name id column t = sym (ap (option_and_then (value_in (number_in content name column))) (feature_in-there content name id t))

pub SetValue-back : (content : Content) (name : List ℕ) (id : ℕ) (column : List ℕ) (value : AttrValue) → IsWellFormed content → first_refusal (checks content (edits.SetValue name id column value)) ≡ None
    → described (effect content (edits.SetValue name id column value)) (inverse_of content (edits.SetValue name id column value)) ≡ content
SetValue-back content name id column value fine h =
    let first = passed (has_layer content name) NoLayer _ h in
    let second = passed (is_some (feature_in content name id)) NoFeature _ first.1 in
    let t = FeatureThere-feature_in content name id second.0 in
    let number = number_in content name column in
    let old = value_under content name id column in
    ap (λ n. change_in (change_in content name id (with_value number value)) name id (put_value n old)) (number_in-change_in content name id (with_value number value) column)
    ∙ change_in-back content name id t (with_value number value) (put_value number old)
    (put_value-with_value number value old t.feature (IsFeature-there content name id fine t).rising (value_under-there content name id column t))

pub ClearValue-back : (content : Content) (name : List ℕ) (id : ℕ) (column : List ℕ) → IsWellFormed content → first_refusal (checks content (edits.ClearValue name id column)) ≡ None
    → described (effect content (edits.ClearValue name id column)) (inverse_of content (edits.ClearValue name id column)) ≡ content
ClearValue-back content name id column fine h =
    let first = passed (has_layer content name) NoLayer _ h in
    let second = passed (is_some (feature_in content name id)) NoFeature _ first.1 in
    let t = FeatureThere-feature_in content name id second.0 in
    let number = number_in content name column in
    let old = value_under content name id column in
    ap (λ n. change_in (change_in content name id (without_value number)) name id (put_value n old)) (number_in-change_in content name id (without_value number) column)
    ∙ change_in-back content name id t (without_value number) (put_value number old)
    (put_value-without_value number old t.feature (IsFeature-there content name id fine t).rising (value_under-there content name id column t))

-- a feature that was deleted stands under its identifier again
pub DeleteFeature-back : (content : Content) (name : List ℕ) (id : ℕ) → IsWellFormed content → first_refusal (checks content (edits.DeleteFeature name id)) ≡ None
    → described (effect content (edits.DeleteFeature name id)) (inverse_of content (edits.DeleteFeature name id)) ≡ content
DeleteFeature-back content name id fine h =
    let first = passed (has_layer content name) NoLayer _ h in
    let second = passed (is_some (feature_in content name id)) NoFeature _ first.1 in
    let t = FeatureThere-feature_in content name id second.0 in
    let feature_is : the_feature content name id ≡ t.feature = ap (λ o. option_map_or (λ f. f) o (the_feature [] [] 0)) (feature_in-there content name id t) in
    ap (λ f. change_layer (change_layer content name (without_feature id)) name (with_feature id f)) feature_is
    ∙ change_layer-back content name t.layer (without_feature id) (with_feature id t.feature) t.found
    (ap (λ es. let l : LayerContent = record t.layer { features = es } in l)
    (insert_entry-remove_entry id t.feature t.layer.features (IsLayer-layer_of content name t.layer t.found fine.layers).rising t.held))

pub ReplaceGeometry-back : (content : Content) (name : List ℕ) (id : ℕ) (geometry : Geometry) → first_refusal (checks content (edits.ReplaceGeometry name id geometry)) ≡ None
    → described (effect content (edits.ReplaceGeometry name id geometry)) (inverse_of content (edits.ReplaceGeometry name id geometry)) ≡ content
ReplaceGeometry-back content name id geometry h =
    let first = passed (has_layer content name) NoLayer _ h in
    let second = passed (is_some (feature_in content name id)) NoFeature _ first.1 in
    let t = FeatureThere-feature_in content name id second.0 in
    let feature_is : the_feature content name id ≡ t.feature = ap (λ o. option_map_or (λ f. f) o (the_feature [] [] 0)) (feature_in-there content name id t) in
    ap (λ f. change_in (change_in content name id (with_geometry geometry)) name id (with_geometry f.geometry)) feature_is
    ∙ change_in-back content name id t (with_geometry geometry) (with_geometry t.feature.geometry) refl
