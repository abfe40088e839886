-- What an edit does to the content of a store: its checks, in order, and its effect.
use Rattle.std.specs.Prelude.{ℕ, Bool, true, false, not, List, [], ◌∷◌, ◌++◌, length, Option, None, Some, is_some, option_map, option_and_then, Result, Ok, Err, nat_lt, remove}
use Rattle.std.specs.Option.{option_map_or}
use Rattle.sf_geometry.specs.declared.geometry.Geometry.{Geometry}
use Rattle.sf_geometry.specs.declared.refusal.Refusal.{Refusal as GeometryRefusal}
use Rattle.sf_geometry.specs.Kinds.{kind_of}
use Rattle.sf_geometry.specs.Size.{size_fault}
use Rattle.sf_geometry.specs.Vertices.{insert_vertex, move_vertex, remove_vertex}
use Rattle.sf_valid_rules.specs.Verdicts.{first_fault}
use Rattle.sf_features.specs.declared.column_type.ColumnType.{ColumnType}
use Rattle.sf_features.specs.Names.{is_name}
use Rattle.sf_features.specs.Features.{GeometryChange, change_geometry, plain_feature, with_geometry, with_value, without_value}
use Rattle.sf_features.specs.declared.attr_value.AttrValue.{AttrValue}
use Rattle.sf_layers.specs.Content.{Content, LayerContent, empty_layer, layer_of, place_of, has_layer, change_layer, renamed_at, moved, with_last_column, with_next_feature, without_feature, feature_in, change_in, without_values, without_column, column_named, column_place, number_named, admits}
use Rattle.sf_features.specs.Values.{is_of_type}
use Rattle.sf_layers.specs.WellFormed.{id_end, column_end, layers_max}
use Rattle.sf_features.specs.declared.column.Column.{Column}
use Rattle.sf_steps.specs.declared.answer.Answer.{Answer}
use Rattle.sf_steps.specs.declared.answer.Answer.TheVariants.{Done, Id}
use Rattle.sf_steps.specs.declared.edit.Edit.{Edit}
use Rattle.sf_steps.specs.declared.edit.Edit.TheVariants.{AddLayer, DropLayer, RenameLayer, MoveLayer, AddColumn, DropColumn, AddFeature, DeleteFeature, ReplaceGeometry, InsertVertex, MoveVertex, RemoveVertex, SetValue, ClearValue}
use Rattle.sf_steps.specs.declared.refusal.Refusal.{Refusal}
use Rattle.sf_steps.specs.declared.refusal.Refusal.TheVariants.{Invalid, NoLayer, LayerExists, BadName, NoFeature, NoColumn, ColumnExists, WrongValue, WrongKind, IdsExhausted, ColumnsExhausted, BadPlace}
use Rattle.sf_steps.specs.Refusals.{from_geometry}

-- the name of the layer that an edit adds, changes or removes
abbrev pub edit_layer : Edit → List ℕ
edit_layer (AddLayer name kind) = name
edit_layer (DropLayer name) = name
edit_layer (RenameLayer name new_name) = name
edit_layer (MoveLayer name place) = name
edit_layer (AddColumn name column column_type) = name
edit_layer (DropColumn name column) = name
edit_layer (AddFeature name geometry) = name
edit_layer (DeleteFeature name id) = name
edit_layer (ReplaceGeometry name id geometry) = name
edit_layer (InsertVertex name id part ring index point) = name
edit_layer (MoveVertex name id part ring index point) = name
edit_layer (RemoveVertex name id part ring index) = name
edit_layer (SetValue name id column value) = name
edit_layer (ClearValue name id column) = name

-- ---- checks

-- a check: nothing where the test passes, else its refusal
abbrev pub unless : Bool → Refusal → Option Refusal
unless true refusal = None
unless false refusal = Some refusal

-- the refusal of the first check that fails
abbrev pub first_refusal : List (Option Refusal) → Option Refusal
first_refusal [] = None
first_refusal (None ∷ checks) = first_refusal checks
first_refusal ((Some refusal) ∷ checks) = Some refusal

-- the layer of the name passes the test
abbrev pub layer_passes : Content → List ℕ → (LayerContent → Bool) → Bool
layer_passes content name test = option_map_or test (layer_of content name) false

-- the layer of the name takes geometries of this kind
abbrev pub takes_kind : Content → List ℕ → Geometry → Bool
takes_kind content name geometry =
    layer_passes content name (λ layer. admits layer.kind (kind_of geometry))

-- the column of a name in the layer of a name
abbrev pub column_in : Content → List ℕ → List ℕ → Option Column
column_in content name column =
    option_and_then (λ layer. column_named layer column) (layer_of content name)

-- the number of that column
abbrev pub number_in : Content → List ℕ → List ℕ → ℕ
number_in content name column = option_map_or (λ c. c.number) (column_in content name column) 0

-- whether there is one
abbrev pub has_column : Content → List ℕ → List ℕ → Bool
has_column content name column = is_some (column_in content name column)

-- whether it takes the value
abbrev pub column_takes : Content → List ℕ → List ℕ → AttrValue → Bool
column_takes content name column value =
    option_map_or (λ c. is_of_type c.column_type value) (column_in content name column) false

-- whether the layer of a name has a feature of the identifier
abbrev pub has_feature : Content → List ℕ → ℕ → Bool
has_feature content name id = is_some (feature_in content name id)

-- the geometry is sized
abbrev pub size_check : Geometry → Option Refusal
size_check geometry = option_map from_geometry (size_fault geometry)

-- the geometry is valid
abbrev pub validity_check : Geometry → Option Refusal
validity_check geometry = option_map Invalid (first_fault geometry)

-- the change of a geometry is possible, and what comes of it is sized and valid
abbrev pub change_check : Result Geometry GeometryRefusal → Option Refusal
change_check (Err refusal) = Some (from_geometry refusal)
change_check (Ok geometry) = validity_check geometry

-- the same of the geometry of a feature
abbrev pub vertex_check : Content → List ℕ → ℕ → GeometryChange → Option Refusal
vertex_check content name id change =
    option_and_then (λ feature. change_check (change feature.geometry)) (feature_in content name id)

-- that there is such a layer, with such a feature or column, in order
abbrev pub feature_checks : Content → List ℕ → ℕ → List (Option Refusal)
feature_checks content name id =
    unless (has_layer content name) NoLayer
    ∷ unless (has_feature content name id) NoFeature ∷ []

abbrev pub column_checks : Content → List ℕ → List ℕ → List (Option Refusal)
column_checks content name column =
    unless (has_layer content name) NoLayer
    ∷ unless (has_column content name column) NoColumn ∷ []

abbrev pub value_checks : Content → List ℕ → ℕ → List ℕ → List (Option Refusal)
value_checks content name id column =
    feature_checks content name id ++ unless (has_column content name column) NoColumn ∷ []

-- that the layer takes geometries of this kind, and its size
abbrev pub entry_checks : Content → List ℕ → Geometry → List (Option Refusal)
entry_checks content name geometry =
    unless (takes_kind content name geometry) WrongKind ∷ size_check geometry ∷ []

-- the checks of an edit that are made without a search for faults of validity, in order
abbrev pub early_checks : Content → Edit → List (Option Refusal)
early_checks content (AddLayer name kind) =
    unless (is_name name) BadName
    ∷ unless (not (has_layer content name)) LayerExists
    ∷ unless (nat_lt (length content) layers_max) IdsExhausted ∷ []
early_checks content (DropLayer name) = unless (has_layer content name) NoLayer ∷ []
early_checks content (RenameLayer name new_name) =
    unless (has_layer content name) NoLayer
    ∷ unless (is_name new_name) BadName
    ∷ unless (not (has_layer content new_name)) LayerExists ∷ []
early_checks content (MoveLayer name place) =
    unless (has_layer content name) NoLayer
    ∷ unless (nat_lt place (length content)) BadPlace ∷ []
early_checks content (AddColumn name column column_type) =
    unless (has_layer content name) NoLayer
    ∷ unless (is_name column) BadName
    ∷ unless (not (has_column content name column)) ColumnExists
    ∷ unless (layer_passes content name (λ layer. nat_lt layer.next_column column_end)) ColumnsExhausted ∷ []
early_checks content (DropColumn name column) = column_checks content name column
early_checks content (AddFeature name geometry) =
    unless (has_layer content name) NoLayer ∷ entry_checks content name geometry
early_checks content (DeleteFeature name id) = feature_checks content name id
early_checks content (ReplaceGeometry name id geometry) =
    feature_checks content name id ++ entry_checks content name geometry
early_checks content (InsertVertex name id part ring index point) = feature_checks content name id
early_checks content (MoveVertex name id part ring index point) = feature_checks content name id
early_checks content (RemoveVertex name id part ring index) = feature_checks content name id
early_checks content (SetValue name id column value) =
    value_checks content name id column ++ unless (column_takes content name column value) WrongValue ∷ []
early_checks content (ClearValue name id column) = value_checks content name id column

-- those behind them: whether the geometry that comes of it is valid, and what is looked at after that
abbrev pub later_checks : Content → Edit → List (Option Refusal)
later_checks content (AddFeature name geometry) =
    validity_check geometry
    ∷ unless (layer_passes content name (λ layer. nat_lt layer.next_id id_end)) IdsExhausted ∷ []
later_checks content (ReplaceGeometry name id geometry) = validity_check geometry ∷ []
later_checks content (InsertVertex name id part ring index point) =
    vertex_check content name id (λ g. insert_vertex g part ring index point) ∷ []
later_checks content (MoveVertex name id part ring index point) =
    vertex_check content name id (λ g. move_vertex g part ring index point) ∷ []
later_checks content (RemoveVertex name id part ring index) =
    vertex_check content name id (λ g. remove_vertex g part ring index) ∷ []
later_checks content edit = []

-- the checks of an edit, in order
abbrev pub checks : Content → Edit → List (Option Refusal)
checks content edit = early_checks content edit ++ later_checks content edit

-- ---- effects

-- the layer with one more feature, which takes the next identifier
abbrev pub add_feature : Geometry → LayerContent → LayerContent
add_feature geometry = with_next_feature (plain_feature geometry)

-- the layer with one more column, which stands last and takes the next number
abbrev pub add_column : List ℕ → ColumnType → LayerContent → LayerContent
add_column name column_type = with_last_column name column_type

-- the layer without the column of a name and without the values in it
abbrev pub drop_column : List ℕ → LayerContent → LayerContent
drop_column name layer =
    without_column (column_place layer name) (without_values (number_named layer name) layer)

-- what an edit that passes its checks makes of the content
abbrev pub effect : Content → Edit → Content
effect content (AddLayer name kind) = content ++ (name, empty_layer kind) ∷ []
effect content (DropLayer name) = remove content (place_of content name)
effect content (RenameLayer name new_name) = renamed_at (place_of content name) new_name content
effect content (MoveLayer name place) = moved (place_of content name) place content
effect content (AddColumn name column column_type) =
    change_layer content name (add_column column column_type)
effect content (DropColumn name column) = change_layer content name (drop_column column)
effect content (AddFeature name geometry) = change_layer content name (add_feature geometry)
effect content (DeleteFeature name id) = change_layer content name (without_feature id)
effect content (ReplaceGeometry name id geometry) = change_in content name id (with_geometry geometry)
effect content (InsertVertex name id part ring index point) =
    change_in content name id (change_geometry (λ g. insert_vertex g part ring index point))
effect content (MoveVertex name id part ring index point) =
    change_in content name id (change_geometry (λ g. move_vertex g part ring index point))
effect content (RemoveVertex name id part ring index) =
    change_in content name id (change_geometry (λ g. remove_vertex g part ring index))
effect content (SetValue name id column value) =
    change_in content name id (with_value (number_in content name column) value)
effect content (ClearValue name id column) =
    change_in content name id (without_value (number_in content name column))

-- the next identifier of the layer of a name
abbrev pub next_id_of : Content → List ℕ → ℕ
next_id_of content name = option_map_or (λ layer. layer.next_id) (layer_of content name) 0

-- what it answers
abbrev pub answer : Content → Edit → Answer
answer content (AddFeature name geometry) = Id (next_id_of content name)
answer content edit = Done

-- ---- the step

-- the result under a refusal, or under none
abbrev pub result_of : Option Refusal → Content × Answer → Result (Content × Answer) Refusal
result_of None done = Ok done
result_of (Some refusal) done = Err refusal

-- the step of an edit: the content after it with the answer, or the refusal
abbrev pub step : Content → Edit → Result (Content × Answer) Refusal
step content edit =
    result_of (first_refusal (checks content edit)) (effect content edit, answer content edit)

-- whether "out of memory" may come in the place of this result of an edit: of success, of a fault of
-- validity, and of what is checked after validity
abbrev pub memory_may_replace : Edit → Result (Content × Answer) Refusal → Bool
memory_may_replace edit (Ok done) = true
memory_may_replace (AddFeature name geometry) (Err IdsExhausted) = true
memory_may_replace edit (Err (Invalid fault)) = true
memory_may_replace edit (Err refusal) = false
