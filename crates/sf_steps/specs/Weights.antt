-- How much of a content an edit removes or overwrites.
use Rattle.std.specs.Prelude.{ℕ, ◌+◌, List, count_by, is_some, if◌then◌else◌}
use Rattle.std.specs.Option.{option_map_or}
use Rattle.sf_geometry.specs.Size.{point_count}
use Rattle.sf_features.specs.Features.{value_in}
use Rattle.sf_layers.specs.Content.{Content, LayerContent, layer_of, feature_in}
use Rattle.sf_steps.specs.declared.edit.Edit.{Edit}
use Rattle.sf_steps.specs.declared.edit.Edit.TheVariants.{AddLayer, DropLayer, RenameLayer, MoveLayer, AddColumn, DropColumn, AddFeature, DeleteFeature, ReplaceGeometry, InsertVertex, MoveVertex, RemoveVertex, SetValue, ClearValue}
use Rattle.sf_steps.specs.Steps.{number_in}
use Rattle.sf_steps.specs.Inverses.{feature_weight, layer_weight, value_under}

-- how many features of a layer have a value in the column of a number
abbrev pub value_count : ℕ → LayerContent → ℕ
value_count number layer = count_by (λ entry. is_some (value_in number entry.1)) layer.features

-- one where a feature has a value in the column of a name, else none
abbrev pub value_touched : Content → List ℕ → ℕ → List ℕ → ℕ
value_touched content name id column = if is_some (value_under content name id column) then 1 else 0

-- the number of grid points, attribute values and columns that an edit removes from a content or overwrites
abbrev pub touched : Content → Edit → ℕ
touched content (AddLayer name kind) = 0
touched content (DropLayer name) = option_map_or layer_weight (layer_of content name) 0
touched content (RenameLayer name new_name) = 0
touched content (MoveLayer name place) = 0
touched content (AddColumn name column column_type) = 0
touched content (DropColumn name column) =
    1 + option_map_or (value_count (number_in content name column)) (layer_of content name) 0
touched content (AddFeature name geometry) = 0
touched content (DeleteFeature name id) = option_map_or feature_weight (feature_in content name id) 0
touched content (ReplaceGeometry name id geometry) =
    option_map_or (λ feature. point_count feature.geometry) (feature_in content name id) 0
touched content (InsertVertex name id part ring index point) = 0
touched content (MoveVertex name id part ring index point) = 1
touched content (RemoveVertex name id part ring index) = 1
touched content (SetValue name id column value) = value_touched content name id column
touched content (ClearValue name id column) = value_touched content name id column
