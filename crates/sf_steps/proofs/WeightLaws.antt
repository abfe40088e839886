-- The inverse of an accepted edit holds as much as the edit takes out of the content or overwrites.
use Rattle.std.proofs.Common.{◌≡◌, ℕ, ◌+◌, Bool, true, List, [], ◌∷◌, length, filter_map, count_by, Option, None, Some, is_some, option_map, cond, if◌then◌else◌, refl, ap, sym, ◌∙◌, arith}
use Rattle.std.proofs.lemmas.List.Sums.{sum_by-cons}
use Rattle.std.specs.List.{cons_option}
use Rattle.std.specs.Option.{option_map_or}
use Rattle.sf_geometry.specs.Size.{point_count}
use Rattle.sf_features.specs.declared.attr_value.AttrValue.{AttrValue}
use Rattle.sf_features.specs.declared.column.Column.{Column}
use Rattle.sf_features.specs.Features.{FeatureContent, value_in}
use Rattle.sf_layers.specs.Content.{Content, LayerContent, has_layer, layer_of, feature_in, column_values}
use Rattle.sf_steps.specs.declared.edit.Edit.{Edit}
use Rattle.sf_steps.specs.declared.edit.Edit.TheVariants.{AddLayer, DropLayer, RenameLayer, MoveLayer, AddColumn, DropColumn, AddFeature, DeleteFeature, ReplaceGeometry, InsertVertex, MoveVertex, RemoveVertex, SetValue, ClearValue}
use Rattle.sf_steps.specs.declared.refusal.Refusal.TheVariants.{NoLayer, NoFeature}
use Rattle.sf_steps.specs.Steps.{first_refusal, checks, column_in, number_in}
use Rattle.sf_steps.specs.Inverses.{feature_weight, inverse_of, layer_weight, no_column, no_feature, no_layer, the_column, the_layer, value_under, value_weight, weight}
use Rattle.sf_steps.specs.Weights.{touched, value_count}
use Rattle.sf_steps.specs.Laws.{InverseWeighsWhatWasTouched}
use Rattle.sf_steps.proofs.Passes.{Accepted-step, passed}

abbrev under : ℕ → Option AttrValue → Option (ℕ × AttrValue)
under id value = option_map (λ v. (id, v)) value

abbrev valued : ℕ → ℕ × FeatureContent → Option (ℕ × AttrValue)
valued number entry = under entry.0 (value_in number entry.1)

abbrev has_value : ℕ → ℕ × FeatureContent → Bool
has_value number entry = is_some (value_in number entry.1)

-- there are as many values in a column as features that have one there
length-column_values : (number : ℕ) (es : List (ℕ × FeatureContent)) → length (filter_map (valued number) es) ≡ count_by (has_value number) es
length-column_values number [] = refl
length-column_values number (e ∷ es) =
    by (value_in number e.1) (length-column_values number es) ∙ sym (sum_by-cons (λ entry. cond (has_value number entry) 1 0) e es)
  where
    by : (o : Option AttrValue) → length (filter_map (valued number) es) ≡ count_by (has_value number) es
        → length (cons_option (under e.0 o) (filter_map (valued number) es)) ≡ cond (is_some o) 1 0 + count_by (has_value number) es
    by None later = omega (arith, later)
    by (Some value) later = omega (arith, later)

number-the_column : (content : Content) (name column : List ℕ) → (the_column content name column).number ≡ number_in content name column
number-the_column content name column = by (column_in content name column)
  where
    by : (o : Option Column) → (option_map_or (λ c. c) o no_column).number ≡ option_map_or (λ c. c.number) o 0
    by None = refl
    by (Some c) = refl

layer-weighs : (o : Option LayerContent) → layer_weight (option_map_or (λ layer. layer) o no_layer) ≡ option_map_or layer_weight o 0
layer-weighs None = refl
layer-weighs (Some layer) = refl

column-weighs : (number : ℕ) (o : Option LayerContent) → length (column_values number (option_map_or (λ layer. layer) o no_layer)) ≡ option_map_or (value_count number) o 0
column-weighs number None = refl
column-weighs number (Some layer) = length-column_values number layer.features

feature-weighs : (measure : FeatureContent → ℕ) (o : Option FeatureContent) → is_some o ≡ true → measure (option_map_or (λ feature. feature) o no_feature) ≡ option_map_or measure o 0
feature-weighs measure None h = cc
feature-weighs measure (Some feature) h = refl

value-weighs : (o : Option AttrValue) → value_weight o ≡ (if is_some o then 1 else 0)
value-weighs None = refl
value-weighs (Some value) = refl

by_edit : (content : Content) (edit : Edit) → first_refusal (checks content edit) ≡ None → weight (inverse_of content edit) ≡ touched content edit
by_edit content (AddLayer name kind) h = refl
by_edit content (DropLayer name) h = layer-weighs (layer_of content name)
by_edit content (RenameLayer name new_name) h = refl
by_edit content (MoveLayer name place) h = refl
by_edit content (AddColumn name column column_type) h = refl
by_edit content (DropColumn name column) h =
    ap (λ number. 1 + length (column_values number (the_layer content name))) (number-the_column content name column)
    ∙ ap (λ n. 1 + n) (column-weighs (number_in content name column) (layer_of content name))
by_edit content (AddFeature name geometry) h = refl
by_edit content (DeleteFeature name id) h =
    feature-weighs feature_weight (feature_in content name id) (passed (is_some (feature_in content name id)) NoFeature _ (passed (has_layer content name) NoLayer _ h).1).0
by_edit content (ReplaceGeometry name id geometry) h =
    feature-weighs (λ feature. point_count feature.geometry) (feature_in content name id)
    (passed (is_some (feature_in content name id)) NoFeature _ (passed (has_layer content name) NoLayer _ h).1).0
by_edit content (InsertVertex name id part ring index point) h = refl
by_edit content (MoveVertex name id part ring index point) h = refl
by_edit content (RemoveVertex name id part ring index) h = refl
by_edit content (SetValue name id column value) h = value-weighs (value_under content name id column)
by_edit content (ClearValue name id column) h = value-weighs (value_under content name id column)

pub weighs : InverseWeighsWhatWasTouched
weighs old new edit given led = by_edit old edit (Accepted-step old new edit given led).passed
