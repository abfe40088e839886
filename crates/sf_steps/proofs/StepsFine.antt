-- An accepted step leads from a well-formed content to a well-formed one.
use Rattle.std.proofs.Common.{◌≡◌, ℕ, ◌<◌, Bool, true, false, not, List, [], ◌∷◌, length, Option, None, Some, is_some, option_map, option_and_then, Result, Ok, IsTrue, nat_lt, refl, ap, sym, subst, ◌∙◌}
use Rattle.std.proofs.lemmas.Bool.{ltb-true}
use Rattle.std.specs.List.Sorted.{IsStrictlySortedBy}
use Rattle.std.specs.Option.{option_map_or}
use Rattle.sf_geometry.specs.declared.geometry.Geometry.{Geometry}
use Rattle.sf_geometry.specs.declared.refusal.Refusal.{Refusal as GeometryRefusal}
use Rattle.sf_geometry.specs.Kinds.{kind_of}
use Rattle.sf_geometry.specs.Parts.{LiesOnGrid}
use Rattle.sf_geometry.specs.Size.{size_fault}
use Rattle.sf_valid_rules.specs.Validity.{IsValid}
use Rattle.sf_features.proofs.GridLaws.{LiesOnGrid-insert_vertex, LiesOnGrid-move_vertex, LiesOnGrid-remove_vertex}
use Rattle.sf_features.proofs.VertexLaws.{kind_of-outcome}
use Rattle.sf_steps.proofs.Judged.{sized, valid}
use Rattle.sf_geometry.specs.Vertices.{Change, changed, outcome, sized_or_refused, insertion, exchange, removal}
use Rattle.sf_valid_rules.specs.Verdicts.{first_fault}
use Rattle.sf_features.specs.declared.column.Column.{Column}
use Rattle.sf_layers.specs.declared.layer_kind.LayerKind.{LayerKind}
use Rattle.sf_features.specs.Names.{is_name}
use Rattle.sf_features.specs.Features.{FeatureContent, change_geometry, plain_feature, result_or, with_geometry, with_value, without_value}
use Rattle.sf_layers.specs.Content.{Content, LayerContent, empty_layer, layer_of, has_layer, place_of, change_layer, change_feature, change_in, feature_in, without_feature, column_named, column_place, number_named, without_column, without_values, admits}
use Rattle.sf_features.specs.Values.{is_of_type}
use Rattle.sf_layers.specs.WellFormed.{IsFeature, IsLayer, IsWellFormed, id_end, column_end, layers_max}
use Rattle.sf_layers.proofs.Added.{IsWellFormed-push, IsWellFormed-change_layer-at, IsLayer-empty_layer, IsLayer-with_next_feature}
use Rattle.sf_layers.proofs.Changes.{IsLayer-layer_of, change_at-place_of}
use Rattle.sf_layers.proofs.Columns.{column_at_place}
use Rattle.sf_layers.proofs.ColumnsAdded.{IsLayer-add_column, IsFeature-with_value, IsFeature-without_value}
use Rattle.sf_layers.proofs.ColumnsKept.{IsLayer-without_column}
use Rattle.sf_layers.proofs.Fine.{IsWellFormed-moved, IsWellFormed-renamed_at, IsLayer-change_feature}
use Rattle.sf_layers.proofs.Kept.{IsWellFormed-remove, IsWellFormed-change_at, IsLayer-without_feature}
use Rattle.sf_layers.proofs.Places.{entry_at_place}
use Rattle.sf_steps.specs.declared.edit.Edit.{Edit}
use Rattle.sf_steps.specs.declared.edit.Edit.TheVariants.{AddLayer, DropLayer, RenameLayer, MoveLayer, AddColumn, DropColumn, AddFeature, DeleteFeature, ReplaceGeometry, InsertVertex, MoveVertex, RemoveVertex, SetValue, ClearValue}
use Rattle.sf_steps.specs.declared.refusal.Refusal.TheVariants.{Invalid, NoLayer, LayerExists, BadName, NoFeature, NoColumn, ColumnExists, WrongValue, WrongKind, IdsExhausted, ColumnsExhausted}
use Rattle.sf_steps.specs.Refusals.{from_geometry}
use Rattle.sf_steps.specs.Steps.{unless, first_refusal, checks, effect, column_in, number_in, takes_kind, layer_passes, size_check, validity_check, change_check, vertex_check, add_feature, add_column, drop_column}
use Rattle.sf_steps.specs.Laws.{BringsGridPoints, StepKeepsWellFormed}
use Rattle.sf_steps.proofs.Passes.{Accepted-step, passed, passed_fault, absent_from_not, there_from_test, FeatureThere, FeatureThere-feature_in, feature_in-there, ColumnThere-column_in, column_in-there, changed_to}
use Rattle.sf_steps.proofs.FeaturesBack.{IsFeature-there}

pub none_mapped : {X Y : Type 0} (f : X → Y) (o : Option X) → option_map f o ≡ None → o ≡ None
none_mapped f None h = refl
none_mapped f (Some x) h = cc

same_some : {X : Type 0} (x y : X) → Some x ≡ Some y → x ≡ y
same_some x y h = cc

-- a new feature
IsFeature-new : (layer : LayerContent) (geometry : Geometry) → IsTrue (admits layer.kind (kind_of geometry)) → IsValid geometry → LiesOnGrid geometry → IsFeature layer.kind layer.columns (plain_feature geometry)
unfolding IsStrictlySortedBy
IsFeature-new layer geometry admitted is_valid lies = record { admitted = admitted; valid = is_valid; on_grid = lies; rising = tt; values = tt }

-- what an outcome leads to is sized
pub outcome-sized : (o : Option Geometry) (new : Geometry) → outcome o ≡ Ok new → size_fault new ≡ None
outcome-sized None new h = cc
outcome-sized (Some g) new h = by (size_fault g) refl h
  where
    by : (o : Option GeometryRefusal) → size_fault g ≡ o → sized_or_refused g o ≡ Ok new → size_fault new ≡ None
    by None is h = let same : g ≡ new = cc in subst (λ x. size_fault x ≡ None) same is
    by (Some refusal) is h = cc

-- a change of a layer that keeps it well formed
IsWellFormed-change_layer : (content : Content) (name : List ℕ) (f : LayerContent → LayerContent) → ((layer : LayerContent) → IsLayer layer → IsLayer (f layer)) → IsWellFormed content → IsWellFormed (change_layer content name f)
IsWellFormed-change_layer content name f keeps fine = subst IsWellFormed (change_at-place_of content name f) (IsWellFormed-change_at content (place_of content name) f keeps fine)

-- a feature whose vertices were changed
IsFeature-changed : (kind : LayerKind) (columns : List Column) (feature : FeatureContent) (change : Change) (part ring : ℕ) → change_check (outcome (changed change part ring feature.geometry)) ≡ None
    → ((new : Geometry) → outcome (changed change part ring feature.geometry) ≡ Ok new → LiesOnGrid new) → IsFeature kind columns feature → IsFeature kind columns (with_geometry (result_or feature.geometry (outcome (changed change part ring feature.geometry))) feature)
IsFeature-changed kind columns feature change part ring checked lies h =
    let to = changed_to (outcome (changed change part ring feature.geometry)) checked in
    let is_sized = sized to.0 (outcome-sized (changed change part ring feature.geometry) to.0 to.1) in
    let none : first_fault to.0 ≡ None = none_mapped Invalid (first_fault to.0) (sym (ap change_check to.1) ∙ checked) in
    let same : with_geometry to.0 feature ≡ with_geometry (result_or feature.geometry (outcome (changed change part ring feature.geometry))) feature =
    ap (λ r. with_geometry (result_or feature.geometry r) feature) (sym to.1) in
    subst (IsFeature kind columns) same (record {
      admitted = ap (admits kind) (kind_of-outcome change part ring feature.geometry to.0 to.1) ∙ h.admitted;
      valid = valid to.0 is_sized none;
      on_grid = lies to.0 to.1;
      rising = h.rising;
      values = h.values;
    })

-- a content with a feature changed to a well-formed one
IsWellFormed-change_in : (content : Content) (name : List ℕ) (id : ℕ) (t : FeatureThere content name id) (f : FeatureContent → FeatureContent) → IsFeature t.layer.kind t.layer.columns (f t.feature)
    → IsWellFormed content → IsWellFormed (change_in content name id f)
IsWellFormed-change_in content name id t f fits fine =
    IsWellFormed-change_layer-at content name t.layer (change_feature id f) t.found
    (IsLayer-change_feature t.layer id t.feature f t.held fits (IsLayer-layer_of content name t.layer t.found fine.layers)) fine

pub vertex_check-there : (content : Content) (name : List ℕ) (id : ℕ) (t : FeatureThere content name id) (change : Geometry → Result Geometry GeometryRefusal) → vertex_check content name id change ≡ None
    → change_check (change t.feature.geometry) ≡ None
vertex_check-there content name id t change h = sym (ap (option_and_then (λ feature. change_check (change feature.geometry))) (feature_in-there content name id t)) ∙ h

-- the effect of a change of vertices that passes its checks
vertex_fine : (content : Content) (name : List ℕ) (id part ring : ℕ) (change : Change) → ((g new : Geometry) → LiesOnGrid g → outcome (changed change part ring g) ≡ Ok new → LiesOnGrid new) → IsWellFormed content
    → first_refusal (unless (has_layer content name) NoLayer ∷ unless (is_some (feature_in content name id)) NoFeature ∷ vertex_check content name id (λ g. outcome (changed change part ring g)) ∷ []) ≡ None
    → IsWellFormed (change_in content name id (change_geometry (λ g. outcome (changed change part ring g))))
vertex_fine content name id part ring change lies fine h =
    let first = passed (has_layer content name) NoLayer _ h in
    let second = passed (is_some (feature_in content name id)) NoFeature _ first.1 in
    let third = passed_fault (vertex_check content name id (λ g. outcome (changed change part ring g))) [] second.1 in
    let t = FeatureThere-feature_in content name id second.0 in
    let is = IsFeature-there content name id fine t in
    IsWellFormed-change_in content name id t (change_geometry (λ g. outcome (changed change part ring g)))
    (IsFeature-changed t.layer.kind t.layer.columns t.feature change part ring (vertex_check-there content name id t (λ g. outcome (changed change part ring g)) third.0) (λ new. lies t.feature.geometry new is.on_grid) is) fine

-- the layer of a name passes a test
passes-found : (content : Content) (name : List ℕ) (layer : LayerContent) (test : LayerContent → Bool) → layer_of content name ≡ Some layer → layer_passes content name test ≡ true → test layer ≡ true
passes-found content name layer test found h = sym (ap (λ o. option_map_or test o false) found) ∙ h

pub effect_fine : (content : Content) (edit : Edit) → BringsGridPoints edit → IsWellFormed content → first_refusal (checks content edit) ≡ None → IsWellFormed (effect content edit)
effect_fine content (AddLayer name kind) brings fine h =
    let first = passed (is_name name) BadName _ h in
    let second = passed (not (has_layer content name)) LayerExists _ first.1 in
    let third = passed (nat_lt (length content) layers_max) IdsExhausted [] second.1 in
    IsWellFormed-push content name (empty_layer kind) first.0 (absent_from_not (layer_of content name) second.0) (ltb-true (length content) layers_max third.0) (IsLayer-empty_layer kind) fine
effect_fine content (DropLayer name) brings fine h = IsWellFormed-remove content (place_of content name) fine
effect_fine content (RenameLayer name new_name) brings fine h =
    let first = passed (has_layer content name) NoLayer _ h in
    let second = passed (is_name new_name) BadName _ first.1 in
    let third = passed (not (has_layer content new_name)) LayerExists [] second.1 in
    let there = there_from_test (layer_of content name) first.0 in
    IsWellFormed-renamed_at content (place_of content name) name new_name there.0 (entry_at_place content name there.0 there.1) second.0 (absent_from_not (layer_of content new_name) third.0) fine
effect_fine content (MoveLayer name place) brings fine h =
    let there = there_from_test (layer_of content name) (passed (has_layer content name) NoLayer _ h).0 in
    IsWellFormed-moved content name there.0 place there.1 fine
effect_fine content (AddColumn name column column_type) brings fine h =
    let first = passed (has_layer content name) NoLayer _ h in
    let second = passed (is_name column) BadName _ first.1 in
    let third = passed (not (is_some (column_in content name column))) ColumnExists _ second.1 in
    let fourth = passed (layer_passes content name (λ layer. nat_lt layer.next_column column_end)) ColumnsExhausted [] third.1 in
    let there = there_from_test (layer_of content name) first.0 in
    let absent : column_named there.0 column ≡ None = sym (ap (option_and_then (λ layer. column_named layer column)) there.1) ∙ absent_from_not (column_in content name column) third.0 in
    let room : there.0.next_column < column_end = ltb-true there.0.next_column column_end (passes-found content name there.0 (λ layer. nat_lt layer.next_column column_end) there.1 fourth.0) in
    IsWellFormed-change_layer-at content name there.0 (add_column column column_type) there.1
    (IsLayer-add_column there.0 column column_type second.0 absent room (IsLayer-layer_of content name there.0 there.1 fine.layers)) fine
effect_fine content (DropColumn name column) brings fine h =
    let first = passed (has_layer content name) NoLayer _ h in
    let second = passed (is_some (column_in content name column)) NoColumn [] first.1 in
    let t = ColumnThere-column_in content name column second.0 in
    let number_is : t.column.number ≡ number_named t.layer column = sym (ap (λ o. option_map_or (λ c. c.number) o 0) t.named) in
    IsWellFormed-change_layer-at content name t.layer (drop_column column) t.found
    (subst (λ n. IsLayer (without_column (column_place t.layer column) (without_values n t.layer))) number_is
    (IsLayer-without_column t.layer (column_place t.layer column) t.column (column_at_place t.layer column t.column t.named) (IsLayer-layer_of content name t.layer t.found fine.layers))) fine
effect_fine content (AddFeature name geometry) brings fine h =
    let first = passed (has_layer content name) NoLayer _ h in
    let second = passed (takes_kind content name geometry) WrongKind _ first.1 in
    let third = passed_fault (size_check geometry) _ second.1 in
    let fourth = passed_fault (validity_check geometry) _ third.1 in
    let fifth = passed (layer_passes content name (λ layer. nat_lt layer.next_id id_end)) IdsExhausted [] fourth.1 in
    let there = there_from_test (layer_of content name) first.0 in
    let room : there.0.next_id < id_end = ltb-true there.0.next_id id_end (passes-found content name there.0 (λ layer. nat_lt layer.next_id id_end) there.1 fifth.0) in
    IsWellFormed-change_layer-at content name there.0 (add_feature geometry) there.1
    (IsLayer-with_next_feature there.0 (plain_feature geometry)
    (IsFeature-new there.0 geometry (passes-found content name there.0 (λ layer. admits layer.kind (kind_of geometry)) there.1 second.0)
    (valid geometry (sized geometry (none_mapped from_geometry (size_fault geometry) third.0)) (none_mapped Invalid (first_fault geometry) fourth.0)) brings)
    room (IsLayer-layer_of content name there.0 there.1 fine.layers)) fine
effect_fine content (DeleteFeature name id) brings fine h = IsWellFormed-change_layer content name (without_feature id) (IsLayer-without_feature id) fine
effect_fine content (ReplaceGeometry name id geometry) brings fine h =
    let first = passed (has_layer content name) NoLayer _ h in
    let second = passed (is_some (feature_in content name id)) NoFeature _ first.1 in
    let third = passed (takes_kind content name geometry) WrongKind _ second.1 in
    let fourth = passed_fault (size_check geometry) _ third.1 in
    let fifth = passed_fault (validity_check geometry) [] fourth.1 in
    let t = FeatureThere-feature_in content name id second.0 in
    let is = IsFeature-there content name id fine t in
    IsWellFormed-change_in content name id t (with_geometry geometry) (record {
      admitted = passes-found content name t.layer (λ layer. admits layer.kind (kind_of geometry)) t.found third.0;
      valid = valid geometry (sized geometry (none_mapped from_geometry (size_fault geometry) fourth.0)) (none_mapped Invalid (first_fault geometry) fifth.0);
      on_grid = brings;
      rising = is.rising;
      values = is.values;
    }) fine
effect_fine content (InsertVertex name id part ring index point) brings fine h = vertex_fine content name id part ring (insertion index point) (λ g new. LiesOnGrid-insert_vertex g new part ring index point brings) fine h
effect_fine content (MoveVertex name id part ring index point) brings fine h = vertex_fine content name id part ring (exchange index point) (λ g new. LiesOnGrid-move_vertex g new part ring index point brings) fine h
effect_fine content (RemoveVertex name id part ring index) brings fine h = vertex_fine content name id part ring (removal index) (λ g new. LiesOnGrid-remove_vertex g new part ring index) fine h
effect_fine content (SetValue name id column value) brings fine h =
    let first = passed (has_layer content name) NoLayer _ h in
    let second = passed (is_some (feature_in content name id)) NoFeature _ first.1 in
    let third = passed (is_some (column_in content name column)) NoColumn _ second.1 in
    let fourth = passed (option_map_or (λ c. is_of_type c.column_type value) (column_in content name column) false) WrongValue [] third.1 in
    let t = FeatureThere-feature_in content name id second.0 in
    let u = ColumnThere-column_in content name column third.0 in
    let same : u.layer ≡ t.layer = same_some u.layer t.layer (sym u.found ∙ t.found) in
    let named : column_named t.layer column ≡ Some u.column = subst (λ layer. column_named layer column ≡ Some u.column) same u.named in
    let number_is : u.column.number ≡ number_in content name column = sym (ap (λ o. option_map_or (λ c. c.number) o 0) (column_in-there content name column u)) in
    let typed : is_of_type u.column.column_type value ≡ true = sym (ap (λ o. option_map_or (λ c. is_of_type c.column_type value) o false) (column_in-there content name column u)) ∙ fourth.0 in
    let layer_fine = IsLayer-layer_of content name t.layer t.found fine.layers in
    IsWellFormed-change_in content name id t (with_value (number_in content name column) value)
    (subst (λ n. IsFeature t.layer.kind t.layer.columns (with_value n value t.feature)) number_is
    (IsFeature-with_value t.layer.kind t.layer.columns column u.column value t.feature layer_fine.column_numbers named typed (IsFeature-there content name id fine t))) fine
effect_fine content (ClearValue name id column) brings fine h =
    let first = passed (has_layer content name) NoLayer _ h in
    let second = passed (is_some (feature_in content name id)) NoFeature _ first.1 in
    let t = FeatureThere-feature_in content name id second.0 in
    IsWellFormed-change_in content name id t (without_value (number_in content name column))
    (IsFeature-without_value t.layer.kind t.layer.columns (number_in content name column) t.feature (IsFeature-there content name id fine t)) fine

pub IsWellFormed-step : StepKeepsWellFormed
IsWellFormed-step old new edit given brings fine led =
    let accepted = Accepted-step old new edit given led in
    subst IsWellFormed accepted.effect (effect_fine old edit brings fine accepted.passed)
