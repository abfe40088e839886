-- Internal: who wants to trust the program need not read this file.
-- Which breaks of a rule on values are looked at after a change: those of the features that were changed.
use Rattle.std.specs.Prelude.{◌≡◌, ◌⊎◌, ℕ, Bool, not, ◌&&◌, List, [], ◌∷◌, filter, flat_map, map, Option, None, Some, nat_eq, nat_lt, if◌then◌else◌}
use Rattle.sf_features.specs.declared.attr_value.AttrValue.{AttrValue}
use Rattle.sf_features.specs.declared.column.Column.{Column}
use Rattle.sf_features.specs.Features.{FeatureContent, value_in}
use Rattle.sf_layers.specs.Content.{Content, LayerContent, column_named, layer_of, place_of}
use Rattle.sf_layers.specs.Found.{ids_with_value}
use Rattle.sf_layers.specs.WellFormed.{IsWellFormed}
use Rattle.sf_patches.specs.declared.slot.Slot.{Slot}
use Rattle.sf_patches.specs.declared.slot.Slot.TheVariants.{Counter, State}
use Rattle.sf_rules.specs.declared.breaks.Break.{Break}
use Rattle.sf_rules.specs.declared.breaks.Break.TheVariants.{Alone, Pair}
use Rattle.sf_rules.specs.declared.column.InColumn.{InColumn}
use Rattle.sf_rules.specs.declared.rule.Demand.{Demand}
use Rattle.sf_rules.specs.declared.rule.Demand.TheVariants.{Unique}
use Rattle.sf_rules.specs.declared.rule.ValueRule.{ValueRule}
use Rattle.sf_rules.specs.Leaving.{is_leaving}
use Rattle.sf_rules.specs.Looks.{staying}
use Rattle.sf_rules.specs.Rules.{is_wrong}

-- the column of a rule in a content, with the features that are still to be removed
pub record IsInColumn (content : Content) (rule : ValueRule) (leaving : List Slot) (column : InColumn) : Type 0 where
  pub named : Column
  pub well_formed : IsWellFormed content
  pub layer : layer_of content rule.layer ≡ Some column.layer.now
  pub place : column.place ≡ place_of content rule.layer
  pub there : column_named column.layer.now rule.column ≡ Some named
  pub number : column.number ≡ named.number
  pub leaves : column.leaving.now ≡ leaving

abbrev pub IsInLayerOrMissing : ValueRule → Option LayerContent → Type 0
IsInLayerOrMissing rule None = Unit {0}
IsInLayerOrMissing rule (Some layer) = column_named layer rule.column ≡ None

-- it is given, or its layer or the column is not there
abbrev pub IsInColumnOrMissing : Content → ValueRule → List Slot → Option InColumn → Type 0
IsInColumnOrMissing content rule leaving (Some column) = IsInColumn content rule leaving column
IsInColumnOrMissing content rule leaving None = IsInLayerOrMissing rule (layer_of content rule.layer)

-- whether this is another feature of the layer, and stays
abbrev pub is_other : InColumn → ℕ → ℕ → Bool
is_other column i j = not (nat_eq i j) && not (is_leaving column.leaving.now column.place j)

-- two features that have the same value, that with the lesser identifier first
abbrev pub double_of : ℕ → ℕ → Break
double_of i j = if nat_lt i j then Pair i j else Pair j i

-- the pairs of a feature with others that have its value
abbrev pub doubles_beside : InColumn → ℕ → Option AttrValue → List Break
doubles_beside column i None = []
doubles_beside column i (Some value) = map (double_of i) (filter (is_other column i) (ids_with_value column.number value column.layer.now))

-- a feature by itself, where what it has, a value or none, breaks the rule
abbrev pub wrong_by : Demand → ℕ → Option AttrValue → List Break
wrong_by demand i found = if is_wrong demand found then Alone i ∷ [] else []

-- the breaks with a feature that has this value, or none
abbrev pub values_beside : Demand → InColumn → ℕ → Option AttrValue → List Break
values_beside Unique column i value = doubles_beside column i value
values_beside demand column i value = wrong_by demand i value

abbrev pub values_of_some : Demand → InColumn → ℕ → Option FeatureContent → List Break
values_of_some demand column i None = []
values_of_some demand column i (Some feature) = values_beside demand column i (value_in column.number feature)

-- the breaks with what will stand under an identifier of a place
abbrev pub values_at : Demand → InColumn → ℕ → ℕ → List Break
values_at demand column place id = if nat_eq place column.place then values_of_some demand column id (staying column.layer.now column.leaving.now place id) else []

-- the breaks with a changed feature
abbrev pub values_of_slot : Demand → InColumn → Slot → List Break
values_of_slot demand column (Counter place next_id) = []
values_of_slot demand column (State place id state) = values_at demand column place id

abbrev pub values_looked_at : Demand → InColumn → List Slot → List Break
values_looked_at demand column made = flat_map (values_of_slot demand column) made

-- ---- of all features

-- an entry of the layer, where what it has breaks the rule by itself
abbrev pub wrong_of_entry : Demand → ℕ → ℕ × FeatureContent → List Break
wrong_of_entry demand number entry = wrong_by demand entry.0 (value_in number entry.1)
