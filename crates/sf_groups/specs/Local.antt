-- What a step of an edit of features looks at, and what it writes.
use Rattle.std.specs.Prelude.{◌≡◌, ℕ, Bool, true, false, List, [], ◌∷◌, Option, None, Some, is_some, option_and_then, Result, Ok, Err, IsTrue, nat_lt}
use Rattle.std.specs.Option.{option_map_or}
use Rattle.sf_geometry.specs.Kinds.{kind_of}
use Rattle.sf_geometry.specs.Vertices.{insert_vertex, move_vertex, remove_vertex}
use Rattle.sf_features.specs.Features.{GeometryChange, change_geometry, plain_feature, with_geometry, with_value, without_value, FeatureContent}
use Rattle.sf_features.specs.declared.column.Column.{Column}
use Rattle.sf_features.specs.Columns.{named}
use Rattle.sf_layers.specs.declared.layer_kind.LayerKind.{LayerKind}
use Rattle.sf_layers.specs.Content.{admits, Content, LayerContent, layer_of, change_layer, change_feature, with_next_feature, without_feature, feature_of}
use Rattle.sf_features.specs.Values.{is_of_type}
use Rattle.sf_layers.specs.WellFormed.{id_end}
use Rattle.sf_steps.specs.declared.refusal.Refusal.{Refusal}
use Rattle.sf_steps.specs.declared.refusal.Refusal.TheVariants.{NoLayer, NoFeature, NoColumn, WrongValue, WrongKind, IdsExhausted}
use Rattle.sf_steps.specs.declared.answer.Answer.{Answer}
use Rattle.sf_steps.specs.declared.answer.Answer.TheVariants.{Done, Id}
use Rattle.sf_steps.specs.declared.edit.Edit.{Edit}
use Rattle.sf_steps.specs.declared.edit.Edit.TheVariants.{AddFeature, DeleteFeature, ReplaceGeometry, InsertVertex, MoveVertex, RemoveVertex, SetValue, ClearValue}
use Rattle.sf_steps.specs.Steps.{edit_layer, unless, first_refusal, size_check, validity_check, change_check, step}

-- whether an edit is of a feature: it adds one, removes one or changes one
abbrev pub is_of_features : Edit → Bool
is_of_features (AddFeature name geometry) = true
is_of_features (DeleteFeature name id) = true
is_of_features (ReplaceGeometry name id geometry) = true
is_of_features (InsertVertex name id part ring index point) = true
is_of_features (MoveVertex name id part ring index point) = true
is_of_features (RemoveVertex name id part ring index) = true
is_of_features (SetValue name id column value) = true
is_of_features (ClearValue name id column) = true
is_of_features edit = false

-- the identifier of the feature that it names; an addition names none, and 0 is no feature's
abbrev pub edit_id : Edit → ℕ
edit_id (DeleteFeature name id) = id
edit_id (ReplaceGeometry name id geometry) = id
edit_id (InsertVertex name id part ring index point) = id
edit_id (MoveVertex name id part ring index point) = id
edit_id (RemoveVertex name id part ring index) = id
edit_id (SetValue name id column value) = id
edit_id (ClearValue name id column) = id
edit_id edit = 0

-- what a step looks at in its layer: kind, next identifier, columns, and the feature of one identifier
pub record Sight : Type 0 where
  pub kind : LayerKind
  pub next_id : ℕ
  pub columns : List Column
  pub feature : Option FeatureContent

abbrev pub sight : ℕ → LayerContent → Sight
sight id layer = record { kind = layer.kind; next_id = layer.next_id; columns = layer.columns; feature = feature_of layer id }

-- what it writes: a new feature, another one in the place of one that is there, or none in its place
pub data Writing : Type 0 where
  Adds : FeatureContent → Writing
  Puts : ℕ → FeatureContent → Writing
  Removes : ℕ → Writing

abbrev pub written : Writing → LayerContent → LayerContent
written (Adds feature) layer = with_next_feature feature layer
written (Puts id feature) layer = change_feature id (λ old. feature) layer
written (Removes id) layer = without_feature id layer

-- the column of a name, among those seen
abbrev pub column_seen : Sight → List ℕ → Option Column
column_seen s name = named s.columns name

abbrev pub number_seen : Sight → List ℕ → ℕ
number_seen s name = option_map_or (λ c. c.number) (column_seen s name) 0

-- the checks of a step, by what it sees
abbrev pub vertex_seen : Sight → GeometryChange → Option Refusal
vertex_seen s change = option_and_then (λ feature. change_check (change feature.geometry)) s.feature

abbrev pub checks_seen : Sight → Edit → List (Option Refusal)
checks_seen s (AddFeature name geometry) =
    unless (admits s.kind (kind_of geometry)) WrongKind ∷ size_check geometry ∷ validity_check geometry
    ∷ unless (nat_lt s.next_id id_end) IdsExhausted ∷ []
checks_seen s (DeleteFeature name id) = unless (is_some s.feature) NoFeature ∷ []
checks_seen s (ReplaceGeometry name id geometry) =
    unless (is_some s.feature) NoFeature
    ∷ unless (admits s.kind (kind_of geometry)) WrongKind ∷ size_check geometry ∷ validity_check geometry ∷ []
checks_seen s (InsertVertex name id part ring index point) =
    unless (is_some s.feature) NoFeature ∷ vertex_seen s (λ g. insert_vertex g part ring index point) ∷ []
checks_seen s (MoveVertex name id part ring index point) =
    unless (is_some s.feature) NoFeature ∷ vertex_seen s (λ g. move_vertex g part ring index point) ∷ []
checks_seen s (RemoveVertex name id part ring index) =
    unless (is_some s.feature) NoFeature ∷ vertex_seen s (λ g. remove_vertex g part ring index) ∷ []
checks_seen s (SetValue name id column value) =
    unless (is_some s.feature) NoFeature ∷ unless (is_some (column_seen s column)) NoColumn
    ∷ unless (option_map_or (λ c. is_of_type c.column_type value) (column_seen s column) false) WrongValue ∷ []
checks_seen s (ClearValue name id column) =
    unless (is_some s.feature) NoFeature ∷ unless (is_some (column_seen s column)) NoColumn ∷ []
checks_seen s edit = []

-- the feature that is seen, changed; nothing comes of one that is not there
abbrev pub puts : ℕ → (FeatureContent → FeatureContent) → Option FeatureContent → Writing
puts id change None = Removes id
puts id change (Some feature) = Puts id (change feature)

-- what a step writes, by what it sees
abbrev pub writing : Sight → Edit → Writing
writing s (AddFeature name geometry) = Adds (plain_feature geometry)
writing s (ReplaceGeometry name id geometry) = puts id (with_geometry geometry) s.feature
writing s (InsertVertex name id part ring index point) = puts id (change_geometry (λ g. insert_vertex g part ring index point)) s.feature
writing s (MoveVertex name id part ring index point) = puts id (change_geometry (λ g. move_vertex g part ring index point)) s.feature
writing s (RemoveVertex name id part ring index) = puts id (change_geometry (λ g. remove_vertex g part ring index)) s.feature
writing s (SetValue name id column value) = puts id (with_value (number_seen s column) value) s.feature
writing s (ClearValue name id column) = puts id (without_value (number_seen s column)) s.feature
writing s edit = Removes (edit_id edit)

-- and what it answers
abbrev pub answer_seen : Sight → Edit → Answer
answer_seen s (AddFeature name geometry) = Id s.next_id
answer_seen s edit = Done

-- what comes of a step, by what it sees
abbrev pub outcome_of : Option Refusal → Writing × Answer → Result (Writing × Answer) Refusal
outcome_of None done = Ok done
outcome_of (Some refusal) done = Err refusal

abbrev pub outcome : Sight → Edit → Result (Writing × Answer) Refusal
outcome s edit = outcome_of (first_refusal (checks_seen s edit)) (writing s edit, answer_seen s edit)

-- the content with what was written into the layer of a name
abbrev pub into_layer : Content → List ℕ → Result (Writing × Answer) Refusal → Result (Content × Answer) Refusal
into_layer content name (Ok done) = Ok (change_layer content name (written done.0), done.1)
into_layer content name (Err refusal) = Err refusal

-- a step of such an edit, by its layer alone
abbrev pub step_seen : Content → Edit → Option LayerContent → Result (Content × Answer) Refusal
step_seen content edit None = Err NoLayer
step_seen content edit (Some layer) = into_layer content (edit_layer edit) (outcome (sight (edit_id edit) layer) edit)

-- a step of an edit of features looks at the head of its layer and at its feature, and writes this feature and the next identifier alone
abbrev pub StepsAreLocal : Type 0
StepsAreLocal = (content : Content) (edit : Edit) → IsTrue (is_of_features edit) → step content edit ≡ step_seen content edit (layer_of content (edit_layer edit))
