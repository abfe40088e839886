-- What takes an edit back.
use Rattle.std.specs.Prelude.{◌≡◌, ℕ, ◌+◌, ◌-◌, ◌⊎◌, pos, Bool, true, false, List, [], length, take, insert, sum_by, Option, None, Some, is_some, option_and_then, slice_get, Result, Ok, Err, IfOk, IfErr, OnErr, IsTrue}
use Rattle.std.specs.Option.{option_map_or}
use Rattle.sf_grid.specs.Plane.{Coordinates}
use Rattle.sf_geometry.specs.declared.geometry.Geometry.TheVariants.{Point}
use Rattle.sf_geometry.specs.Size.{point_count}
use Rattle.sf_geometry.specs.Vertices.{vertex_of, insert_vertex, move_vertex, remove_vertex}
use Rattle.sf_features.specs.declared.attr_value.AttrValue.{AttrValue}
use Rattle.sf_features.specs.declared.column.Column.{Column}
use Rattle.sf_features.specs.declared.column_type.ColumnType.TheVariants.{Int}
use Rattle.sf_layers.specs.declared.layer_kind.LayerKind.TheVariants.{Any}
use Rattle.sf_features.specs.Features.{FeatureContent, change_geometry, plain_feature, value_in, with_geometry, with_value, without_value}
use Rattle.sf_layers.specs.Content.{Content, LayerContent, empty_layer, layer_of, place_of, change_layer, renamed_at, moved, with_feature, without_last_column, without_last_feature, with_column, with_values, column_values, column_place, feature_in, change_in}
use Rattle.sf_layers.specs.WellFormed.{IsWellFormed}
use Rattle.sf_steps.specs.declared.answer.Answer.{Answer}
use Rattle.sf_steps.specs.declared.answer.Answer.TheVariants.{Done, Id}
use Rattle.sf_steps.specs.declared.edit.Edit.{Edit}
use Rattle.sf_steps.specs.declared.edit.Edit.TheVariants as edits
use Rattle.sf_steps.specs.declared.inverse.Inverse.{Inverse}
use Rattle.sf_steps.specs.declared.inverse.Inverse.TheVariants.{TakeLayer, PutLayer, RenameLayer, MoveLayer, TakeColumn, PutColumn, TakeFeature, PutFeature, PutGeometry, TakeVertex, MoveVertex, PutVertex, PutValue}
use Rattle.sf_steps.specs.declared.refusal.Refusal.{Refusal}
use Rattle.sf_steps.specs.declared.refusal.Refusal.TheVariants.{Memory}
use Rattle.sf_steps.specs.Steps.{column_in, number_in, next_id_of, step, memory_may_replace}

-- the name of the layer that an inverse changes; None where that is the last one, one that isn't there, or one that
-- is known by its place
abbrev pub inverse_layer : Inverse → Option (List ℕ)
inverse_layer TakeLayer = None
inverse_layer (PutLayer name place stored layer) = None
inverse_layer (RenameLayer name place stored) = None
inverse_layer (MoveLayer name place) = Some name
inverse_layer (TakeColumn name) = Some name
inverse_layer (PutColumn name column_name place column values) = Some name
inverse_layer (TakeFeature name id) = Some name
inverse_layer (PutFeature name id feature) = Some name
inverse_layer (PutGeometry name id old) = Some name
inverse_layer (TakeVertex name id part ring index) = Some name
inverse_layer (MoveVertex name id part ring index old) = Some name
inverse_layer (PutVertex name id part ring index old) = Some name
inverse_layer (PutValue name id column old) = Some name

-- ---- what an inverse describes

-- the layer with a column put in at a place, and its values put into their features
abbrev pub put_column : ℕ → Column → List (ℕ × AttrValue) → LayerContent → LayerContent
put_column place column values layer = with_values column.number values (with_column place column layer)

-- the feature with the old value of a column, or with none where there was none
abbrev pub put_value : ℕ → Option AttrValue → FeatureContent → FeatureContent
put_value number None = without_value number
put_value number (Some value) = with_value number value

-- the content that an inverse describes
abbrev pub described : Content → Inverse → Content
described content TakeLayer = take (length content - 1) content
described content (PutLayer name place stored layer) = insert content place (stored, layer)
described content (RenameLayer name place stored) = renamed_at place stored content
described content (MoveLayer name place) = moved (place_of content name) place content
described content (TakeColumn name) = change_layer content name without_last_column
described content (PutColumn name column_name place column values) =
    change_layer content name (put_column place column values)
described content (TakeFeature name id) = change_layer content name (without_last_feature id)
described content (PutFeature name id feature) = change_layer content name (with_feature id feature)
described content (PutGeometry name id old) = change_in content name id (with_geometry old)
described content (TakeVertex name id part ring index) =
    change_in content name id (change_geometry (λ g. remove_vertex g part ring index))
described content (MoveVertex name id part ring index old) =
    change_in content name id (change_geometry (λ g. move_vertex g part ring index old))
described content (PutVertex name id part ring index old) =
    change_in content name id (change_geometry (λ g. insert_vertex g part ring index old))
described content (PutValue name id column old) =
    change_in content name id (put_value (number_in content name column) old)

-- ---- the edit that an inverse takes back

-- an edit that no content of a store accepts
abbrev pub no_edit : Edit
no_edit = edits.DropLayer []

-- the edit that put the last layer there
abbrev pub adding_layer : Option (List ℕ × LayerContent) → Edit
adding_layer None = no_edit
adding_layer (Some entry) = edits.AddLayer entry.0 entry.1.kind

-- the edit that gave a layer its name
abbrev pub renaming : List ℕ → Option (List ℕ × LayerContent) → Edit
renaming name None = no_edit
renaming name (Some entry) = edits.RenameLayer name entry.0

-- the edit that put the last column there
abbrev pub adding_column : List ℕ → Option Column → Edit
adding_column name None = no_edit
adding_column name (Some column) = edits.AddColumn name column.name column.column_type

-- the edit that put a value there, or took it away
abbrev pub setting : List ℕ → ℕ → List ℕ → Option AttrValue → Edit
setting name id column None = edits.ClearValue name id column
setting name id column (Some value) = edits.SetValue name id column value

-- the last column of the layer of a name
abbrev pub last_column : Content → List ℕ → Option Column
last_column content name =
    option_and_then (λ layer. slice_get layer.columns (length layer.columns - 1)) (layer_of content name)

-- the vertex of a feature's geometry
abbrev pub vertex_in : Content → List ℕ → ℕ → ℕ → ℕ → ℕ → Option Coordinates
vertex_in content name id part ring index =
    option_and_then (λ feature. vertex_of feature.geometry part ring index) (feature_in content name id)

-- the value of a feature in the column of a name
abbrev pub value_under : Content → List ℕ → ℕ → List ℕ → Option AttrValue
value_under content name id column =
    option_and_then (value_in (number_in content name column)) (feature_in content name id)

-- the edit that an inverse takes back, read off the content after it
abbrev pub taken_back : Content → Inverse → Edit
taken_back content TakeLayer = adding_layer (slice_get content (length content - 1))
taken_back content (PutLayer name place stored layer) = edits.DropLayer name
taken_back content (RenameLayer name place stored) = renaming name (slice_get content place)
taken_back content (MoveLayer name place) = edits.MoveLayer name (place_of content name)
taken_back content (TakeColumn name) = adding_column name (last_column content name)
taken_back content (PutColumn name column_name place column values) = edits.DropColumn name column_name
taken_back content (TakeFeature name id) =
    option_map_or (λ feature. edits.AddFeature name feature.geometry) (feature_in content name id) no_edit
taken_back content (PutFeature name id feature) = edits.DeleteFeature name id
taken_back content (PutGeometry name id old) =
    option_map_or (λ feature. edits.ReplaceGeometry name id feature.geometry) (feature_in content name id) no_edit
taken_back content (TakeVertex name id part ring index) =
    option_map_or (edits.InsertVertex name id part ring index) (vertex_in content name id part ring index) no_edit
taken_back content (MoveVertex name id part ring index old) =
    option_map_or (edits.MoveVertex name id part ring index) (vertex_in content name id part ring index) no_edit
taken_back content (PutVertex name id part ring index old) = edits.RemoveVertex name id part ring index
taken_back content (PutValue name id column old) = setting name id column (value_under content name id column)

-- the answer of the edit that gave the inverse
abbrev pub answer_of : Inverse → Answer
answer_of (TakeFeature name id) = Id id
answer_of inverse = Done

-- ---- the inverse of an edit

-- a layer, feature, point or column where the content has none to give
abbrev pub no_layer : LayerContent
no_layer = empty_layer Any

abbrev pub origin : Coordinates
origin = record { x = pos 0; y = pos 0 }

abbrev pub no_feature : FeatureContent
no_feature = plain_feature (Point origin)

abbrev pub no_column : Column
no_column = record { number = 0; name = []; column_type = Int }

-- the layer of a name, the feature of an identifier in it, the column of a name in it
abbrev pub the_layer : Content → List ℕ → LayerContent
the_layer content name = option_map_or (λ layer. layer) (layer_of content name) no_layer

abbrev pub the_feature : Content → List ℕ → ℕ → FeatureContent
the_feature content name id = option_map_or (λ feature. feature) (feature_in content name id) no_feature

abbrev pub the_column : Content → List ℕ → List ℕ → Column
the_column content name column = option_map_or (λ c. c) (column_in content name column) no_column

abbrev pub the_vertex : Content → List ℕ → ℕ → ℕ → ℕ → ℕ → Coordinates
the_vertex content name id part ring index =
    option_map_or (λ p. p) (vertex_in content name id part ring index) origin

-- the inverse of dropping a column of a layer
abbrev pub dropped_column : List ℕ → List ℕ → Column → LayerContent → Inverse
dropped_column name column_name column layer =
    PutColumn name column_name (column_place layer column_name) column (column_values column.number layer)

-- the inverse of an edit of the content
abbrev pub inverse_of : Content → Edit → Inverse
inverse_of content (edits.AddLayer name kind) = TakeLayer
inverse_of content (edits.DropLayer name) =
    PutLayer name (place_of content name) name (the_layer content name)
inverse_of content (edits.RenameLayer name new_name) = RenameLayer name (place_of content name) name
inverse_of content (edits.MoveLayer name place) = MoveLayer name (place_of content name)
inverse_of content (edits.AddColumn name column column_type) = TakeColumn name
inverse_of content (edits.DropColumn name column) =
    dropped_column name column (the_column content name column) (the_layer content name)
inverse_of content (edits.AddFeature name geometry) = TakeFeature name (next_id_of content name)
inverse_of content (edits.DeleteFeature name id) = PutFeature name id (the_feature content name id)
inverse_of content (edits.ReplaceGeometry name id geometry) =
    PutGeometry name id (the_feature content name id).geometry
inverse_of content (edits.InsertVertex name id part ring index point) = TakeVertex name id part ring index
inverse_of content (edits.MoveVertex name id part ring index point) =
    MoveVertex name id part ring index (the_vertex content name id part ring index)
inverse_of content (edits.RemoveVertex name id part ring index) =
    PutVertex name id part ring index (the_vertex content name id part ring index)
inverse_of content (edits.SetValue name id column value) =
    PutValue name id column (value_under content name id column)
inverse_of content (edits.ClearValue name id column) =
    PutValue name id column (value_under content name id column)

-- ---- its weight

-- the grid points and attribute values of a feature
abbrev pub feature_weight : FeatureContent → ℕ
feature_weight feature = point_count feature.geometry + length feature.values

-- the grid points, attribute values and columns of a layer
abbrev pub layer_weight : LayerContent → ℕ
layer_weight layer = sum_by (λ entry. feature_weight entry.1) layer.features + length layer.columns

-- one where there is a value
abbrev pub value_weight : Option AttrValue → ℕ
value_weight None = 0
value_weight (Some value) = 1

-- the number of grid points, attribute values and columns that an inverse holds
abbrev pub weight : Inverse → ℕ
weight TakeLayer = 0
weight (PutLayer name place stored layer) = layer_weight layer
weight (RenameLayer name place stored) = 0
weight (MoveLayer name place) = 0
weight (TakeColumn name) = 0
weight (PutColumn name column_name place column values) = 1 + length values
weight (TakeFeature name id) = 0
weight (PutFeature name id feature) = feature_weight feature
weight (PutGeometry name id old) = point_count old
weight (TakeVertex name id part ring index) = 0
weight (MoveVertex name id part ring index old) = 1
weight (PutVertex name id part ring index old) = 1
weight (PutValue name id column old) = value_weight old

-- whether an inverse only removes or exchanges, which needs no memory
abbrev pub frees_only : Content → Inverse → Bool
frees_only content TakeLayer = true
frees_only content (MoveLayer name place) = true
frees_only content (TakeColumn name) = true
frees_only content (TakeFeature name id) = true
frees_only content (PutGeometry name id old) = true
frees_only content (TakeVertex name id part ring index) = true
frees_only content (MoveVertex name id part ring index old) = true
frees_only content (PutValue name id column None) = true
frees_only content (PutValue name id column (Some value)) = is_some (value_under content name id column)
frees_only content inverse = false

-- ---- how inverses, contents and edits go together

-- the inverse takes this content back to the one before: the well-formed one that it describes, from
-- which the edit that it takes back leads here
pub record Restores (content : Content) (inverse : Inverse) (before : Content) : Type 0 where
  pub described_by : before ≡ described content inverse
  pub well_formed : IsWellFormed before
  pub led : step before (taken_back content inverse) ≡ Ok (content, answer_of inverse)
  pub same : inverse_of before (taken_back content inverse) ≡ inverse

-- there is a content that the inverse takes this one back to
abbrev pub Fits : Content → Inverse → Type 0
Fits content inverse = Restores content inverse (described content inverse)

-- the edit is accepted: it leads from old to new, and the inverse takes new back to old and the edit back
pub record Accepts (old : Content) (edit : Edit) (inverse : Inverse) (new : Content) : Type 0 where
  pub led : step old edit ≡ Ok (new, answer_of inverse)
  pub restores : Restores new inverse old
  pub same_edit : taken_back new inverse ≡ edit

-- the edit is refused: by the step, or as out of memory where that may come
abbrev pub Refuses : Content → Edit → Refusal → Type 0
Refuses content edit refusal =
    (step content edit ≡ Err refusal)
    ⊎ ((refusal ≡ Memory) × IsTrue (memory_may_replace edit (step content edit)))

-- carrying an edit out over old has this result and leaves new: it is accepted and its inverse given,
-- or refused, given back, and nothing is changed
pub record Carries (old : Content) (edit : Edit) (result : Result Inverse (Edit × Refusal)) (new : Content) : Type 0 where
  pub accepted : IfOk result (λ inverse. Accepts old edit inverse new)
  pub inverse : IfOk result (λ inverse. inverse ≡ inverse_of old edit)
  pub refused : IfErr result (λ e. Refuses old edit e.1)
  pub given_back : IfErr result (λ e. e.0 ≡ edit)
  pub unchanged : OnErr result (new ≡ old)

-- taking an edit back leads from old to new, the content before it, and gives the edit, which leads
-- there again with the same answer
pub record Reverts (old : Content) (inverse : Inverse) (edit : Edit) (new : Content) : Type 0 where
  pub restored : Restores old inverse new
  pub gives : edit ≡ taken_back old inverse
  pub again : step new edit ≡ Ok (old, answer_of inverse)

-- taking an edit back over old has this result and leaves new: it is taken back, or the inverse is given back and nothing
-- is changed
pub record RevertsOrKeeps (old : Content) (inverse : Inverse) (result : Result Edit Inverse) (new : Content) : Type 0 where
  pub reverted : IfOk result (λ edit. Reverts old inverse edit new)
  pub given_back : IfErr result (λ back. back ≡ inverse)
  pub unchanged : OnErr result (new ≡ old)
