-- Rules between features and on their values, and what breaks them.
use Rattle.std.specs.Prelude.{ℕ, ◌+◌, Bool, false, not, ◌&&◌, ◌||◌, true, List, [], ◌∷◌, length, filter, flat_map, map, Option, None, Some, is_some, bytes_eq, nat_le, nat_lt}
use Rattle.std.specs.List.{list_all, list_any}
use Rattle.std.specs.Map.{keys_of}
use Rattle.std.specs.Option.{option_map_or}
use Rattle.sf_joins.specs.Passed.{PairAsk}
use Rattle.sf_features.specs.declared.attr_value.AttrValue.{AttrValue}
use Rattle.sf_features.specs.declared.column.Column.{Column}
use Rattle.sf_features.specs.Features.{FeatureContent, value_in}
use Rattle.sf_features.specs.declared.column_type.ColumnType.{ColumnType}
use Rattle.sf_features.specs.Values.{is_of_type, same_value}
use Rattle.sf_layers.specs.Content.{LayerContent, Content, column_named, layer_of}
use Rattle.sf_layers.specs.Found.{are_apart, has_value_that, is_between}
use Rattle.sf_layers.specs.declared.value_range.ValueRange.{ValueRange}
use Rattle.sf_joins.specs.Joins.{is_pair, pairs_found}
use Rattle.sf_rules.specs.declared.rule.Rule.{Rule}
use Rattle.sf_rules.specs.declared.rule.LayerRule.{LayerRule}
use Rattle.sf_rules.specs.declared.rule.ValueRule.{ValueRule}
use Rattle.sf_rules.specs.declared.rule.Says.{Says}
use Rattle.sf_rules.specs.declared.rule.Says.TheVariants.{OfLayers, OfValues}
use Rattle.sf_rules.specs.declared.rule.Demand.{Demand}
use Rattle.sf_rules.specs.declared.rule.Demand.TheVariants.{InRange, OneOf, Required, Unique}
use Rattle.sf_rules.specs.declared.rule.Form.{Form}
use Rattle.sf_rules.specs.declared.rule.Form.TheVariants.{Never, Each}
use Rattle.sf_rules.specs.declared.breaks.Break.{Break}
use Rattle.sf_rules.specs.declared.breaks.Break.TheVariants.{Pair, Alone}
use Rattle.sf_rules.specs.declared.breaks.Broken.{Broken}

-- whether both layers of a rule are one
abbrev pub of_one : LayerRule → Bool
of_one rule = bytes_eq rule.first rule.second

-- whether no feature of the second layer is as asked with this one of the first
abbrev pub lacks_partner : Bool → PairAsk → LayerContent → ℕ × FeatureContent → Bool
lacks_partner one ask second a = not (list_any (is_pair one ask a) second.features)

-- two features that are as asked
abbrev pub pair_break : ℕ × ℕ → Break
pair_break pair = Pair pair.0 pair.1

-- a feature that has no other
abbrev pub alone_break : ℕ → Break
alone_break id = Alone id

-- all that breaks a rule between two layers, in order: the pairs, or the features of the first layer that have no partner
abbrev pub breaks_between : Form → Bool → LayerContent → PairAsk → LayerContent → List Break
breaks_between Never one first ask second = map pair_break (pairs_found one first ask second)
breaks_between Each one first ask second = map alone_break (keys_of (filter (lacks_partner one ask second) first.features))

-- the first of several
abbrev pub first_of : List Break → Option Break
first_of [] = None
first_of (found ∷ rest) = Some found

abbrev pub break_by : LayerRule → Option LayerContent → Option LayerContent → Option Break
break_by rule (Some first) (Some second) = first_of (breaks_between rule.form (of_one rule) first rule.ask second)
break_by rule first second = None

-- what breaks a rule between layers first in a content; nothing does where a layer is not there
abbrev pub break_between : Content → LayerRule → Option Break
break_between content rule = break_by rule (layer_of content rule.first) (layer_of content rule.second)

-- ---- rules on values

-- whether a feature has this value in the column of a number
abbrev pub has_value : ℕ → AttrValue → FeatureContent → Bool
has_value number value feature = has_value_that (same_value value) number feature

-- whether two features have the same value there, the one with the lesser identifier first
abbrev pub is_double : ℕ → ℕ × FeatureContent → ℕ × FeatureContent → Bool
is_double number a b = nat_lt a.0 b.0 && option_map_or (λ value. has_value number value b.1) (value_in number a.1) false

-- the pairs of features of a layer that do
abbrev pub doubles_found : ℕ → LayerContent → List (ℕ × ℕ)
doubles_found number layer = flat_map (λ a. map (λ b. (a.0, b.0)) (filter (is_double number a) layer.features)) layer.features

-- whether a value is one of several
abbrev pub is_one_of : List AttrValue → AttrValue → Bool
is_one_of allowed value = list_any (λ other. same_value other value) allowed

-- whether a value is in a range
abbrev pub is_in_range : ValueRange → AttrValue → Bool
is_in_range range value = is_between range.from range.to value

-- whether what a feature has there, a value or none, breaks a rule by itself
abbrev pub is_wrong : Demand → Option AttrValue → Bool
is_wrong Unique found = false
is_wrong Required found = not (is_some found)
is_wrong (OneOf allowed) found = option_map_or (λ value. not (is_one_of allowed value)) found false
is_wrong (InRange range) found = option_map_or (λ value. not (is_in_range range value)) found false

-- whether a feature does
abbrev pub has_wrong : Demand → ℕ → ℕ × FeatureContent → Bool
has_wrong demand number a = is_wrong demand (value_in number a.1)

-- all that breaks a rule on the values in a column, in order: the pairs that have one value, or the features that break it by themselves
abbrev pub breaks_in : Demand → ℕ → LayerContent → List Break
breaks_in Unique number layer = map pair_break (doubles_found number layer)
breaks_in demand number layer = map alone_break (keys_of (filter (has_wrong demand number) layer.features))

abbrev pub break_in : Demand → LayerContent → Option Column → Option Break
break_in demand layer (Some column) = first_of (breaks_in demand column.number layer)
break_in demand layer None = None

abbrev pub break_on : ValueRule → Option LayerContent → Option Break
break_on rule (Some layer) = break_in rule.demand layer (column_named layer rule.column)
break_on rule None = None

-- what breaks a rule on values first in a content; nothing does where its layer or column is not there
abbrev pub break_of_values : Content → ValueRule → Option Break
break_of_values content rule = break_on rule (layer_of content rule.layer)

-- how many values a rule names at most
abbrev pub values_max : ℕ
values_max = 1000

-- whether so many values, all of a type, may be named
abbrev pub are_allowed : ColumnType → List AttrValue → Bool
are_allowed column_type allowed = nat_lt 0 (length allowed) && nat_le (length allowed) values_max && list_all (is_of_type column_type) allowed

-- whether an end of a range is of a type, where one is given
abbrev pub is_end : ColumnType → Option AttrValue → Bool
is_end column_type end = option_map_or (is_of_type column_type) end true

-- whether a range has an end, each is of a type, and the first is not behind the second
abbrev pub is_range : ColumnType → ValueRange → Bool
is_range column_type range =
    (is_some range.from || is_some range.to) && is_end column_type range.from && is_end column_type range.to && not (are_apart range.from range.to)

-- whether a rule may demand this of the values in a column of a type
abbrev pub fits_type : ColumnType → Demand → Bool
fits_type column_type Unique = true
fits_type column_type Required = true
fits_type column_type (OneOf allowed) = are_allowed column_type allowed
fits_type column_type (InRange range) = is_range column_type range

-- ---- each rule

abbrev pub break_said : Content → Says → Option Break
break_said content (OfLayers rule) = break_between content rule
break_said content (OfValues rule) = break_of_values content rule

-- what breaks a rule first in a content
abbrev pub break_of : Content → Rule → Option Break
break_of content rule = break_said content rule.says

-- ---- several rules

abbrev pub broken_or : ℕ → Option Break → Option Broken → Option Broken
broken_or place None later = later
broken_or place (Some least) later = Some (record { place = place; least = least })

-- the first of the rules from a place on that is broken, and what breaks it first
abbrev pub broken_from : ℕ → Content → List Rule → Option Broken
broken_from place content [] = None
broken_from place content (rule ∷ rules) = broken_or place (break_of content rule) (broken_from (place + 1) content rules)

-- the first rule that is broken
abbrev pub first_broken : Content → List Rule → Option Broken
first_broken content rules = broken_from 0 content rules
