-- Contents with the rules that hold in them, and their steps. A step is refused in the order of these checks.
use Rattle.std.specs.Prelude.{ℕ, Bool, true, false, not, ◌&&◌, List, [], ◌∷◌, ◌++◌, length, map, position, remove, is_some, Option, None, Some, Result, Ok, Err, bytes_eq, nat_lt, if◌then◌else◌}
use Rattle.std.specs.List.{list_all}
use Rattle.std.specs.Option.{option_map_or}
use Rattle.sf_features.specs.declared.column.Column.{Column}
use Rattle.sf_ruled_store.specs.Changes.{Change, OfEdit, OfGroup}
use Rattle.sf_steps.specs.declared.edit.Edit.TheVariants.{RenameLayer}
use Rattle.sf_steps.specs.declared.answer.Answer.{Answer}
use Rattle.sf_steps.specs.Steps.{step}
use Rattle.sf_groups.specs.Members.{together, Refused}
use Rattle.sf_features.specs.Names.{is_name}
use Rattle.sf_steps.specs.declared.refusal.Refusal.{Refusal as EditRefusal}
use Rattle.sf_ruled_store.specs.declared.refusal.Refusal.{Refusal}
use Rattle.sf_ruled_store.specs.declared.refusal.Refusal.TheVariants.{ByEdit, ByMember, RuleBroken, NoRule, RuleExists, LayerRuled, ColumnRuled, BadName, NoLayer, NoColumn, WrongValue, TooManyRules}
use Rattle.sf_layers.specs.Content.{Content, LayerContent, column_named, has_layer, layer_of}
use Rattle.sf_rules.specs.declared.rule.Rule.{Rule}
use Rattle.sf_rules.specs.declared.rule.Demand.{Demand}
use Rattle.sf_rules.specs.declared.rule.Says.{Says}
use Rattle.sf_rules.specs.declared.rule.ValueRule.{ValueRule}
use Rattle.sf_rules.specs.declared.rule.Says.TheVariants.{OfLayers, OfValues}
use Rattle.sf_rules.specs.declared.breaks.Broken.{Broken}
use Rattle.sf_rules.specs.Rules.{break_of, broken_or, first_broken, fits_type}

-- a content with rules, in the order in which they were added
pub record Ruled : Type 0 where
  pub content : Content
  pub rules : List Rule

-- what changes it: a change of the content, a rule that is added, or one that is dropped by its name
pub data Asked : Type 0 where
  OfChange : Change → Asked
  AddRule : Rule → Asked
  DropRule : List ℕ → Asked

-- ---- what a change leads to

abbrev pub edit_led : Result (Content × Answer) EditRefusal → Result Content Refusal
edit_led (Ok done) = Ok done.0
edit_led (Err refusal) = Err (ByEdit refusal)

abbrev pub group_led : Result (Content × List ℕ) Refused → Result Content Refusal
group_led (Ok done) = Ok done.0
group_led (Err refused) = Err (ByMember refused.member refused.refusal)

-- the content that a change leads to, or why it is refused, whatever rules there are
abbrev pub change_led : Content → Change → Result Content Refusal
change_led content (OfEdit edit) = edit_led (step content edit)
change_led content (OfGroup members) = group_led (together content members)

-- ---- rules

-- the place of the first rule of a name
abbrev pub place_of_rule : List ℕ → List Rule → Option ℕ
place_of_rule name rules = position (λ rule. bytes_eq name rule.name) rules

-- whether a rule has the name
abbrev pub has_rule : List ℕ → List Rule → Bool
has_rule name rules = is_some (place_of_rule name rules)

abbrev pub has_layers_said : Content → Says → Bool
has_layers_said content (OfLayers rule) = has_layer content rule.first && has_layer content rule.second
has_layers_said content (OfValues rule) = has_layer content rule.layer

-- whether the layers of a rule are there
abbrev pub has_layers_of : Content → Rule → Bool
has_layers_of content rule = has_layers_said content rule.says

-- whether a layer is there and has the column of a name
abbrev pub has_column_in : List ℕ → Option LayerContent → Bool
has_column_in name None = false
has_column_in name (Some layer) = is_some (column_named layer name)

abbrev pub has_columns_said : Content → Says → Bool
has_columns_said content (OfLayers rule) = true
has_columns_said content (OfValues rule) = has_column_in rule.column (layer_of content rule.layer)

-- whether the column of a rule on values is there
abbrev pub has_columns_of : Content → Rule → Bool
has_columns_of content rule = has_columns_said content rule.says

-- whether a column is there, and may be demanded this of
abbrev pub fits_column : Demand → Option Column → Bool
fits_column demand column = option_map_or (λ named. fits_type named.column_type demand) column false

abbrev pub fits_layer : ValueRule → Option LayerContent → Bool
fits_layer rule layer = option_map_or (λ there. fits_column rule.demand (column_named there rule.column)) layer false

abbrev pub has_said : Content → Says → Bool
has_said content (OfLayers rule) = has_layer content rule.first && has_layer content rule.second
has_said content (OfValues rule) = fits_layer rule (layer_of content rule.layer)

-- whether all that a rule names is there, its layers, or its layer and the column, and the values that it names fit the column
abbrev pub has_named : Content → Rule → Bool
has_named content rule = has_said content rule.says

-- the rule with another name for a layer
abbrev pub renamed : List ℕ → List ℕ → List ℕ → List ℕ
renamed old new name = if bytes_eq old name then new else name

abbrev pub renamed_said : List ℕ → List ℕ → Says → Says
renamed_said old new (OfLayers rule) = OfLayers (record rule { first = renamed old new rule.first; second = renamed old new rule.second })
renamed_said old new (OfValues rule) = OfValues (record rule { layer = renamed old new rule.layer })

abbrev pub with_renamed : List ℕ → List ℕ → Rule → Rule
with_renamed old new rule = record rule { says = renamed_said old new rule.says }

-- the rules after a change: those of a layer that is renamed follow it
abbrev pub rules_after : List Rule → Change → List Rule
rules_after rules (OfEdit (RenameLayer name new_name)) = map (with_renamed name new_name) rules
rules_after rules change = rules

-- how many rules there are at most
abbrev pub rules_max : ℕ
rules_max = 65535

-- ---- steps

-- where no rule is broken
abbrev pub unless_broken : Ruled → Option Broken → Result Ruled Refusal
unless_broken ruled None = Ok ruled
unless_broken ruled (Some broken) = Err (RuleBroken broken)

-- why something that rules name can't go: a layer, or else a column
abbrev pub why_missing : Content → List Rule → Refusal
why_missing content rules = if list_all (has_layers_of content) rules then ColumnRuled else LayerRuled

-- where all that rules name is there, and no rule is broken
abbrev pub settled : Ruled → Result Ruled Refusal
settled ruled =
    if list_all (has_named ruled.content) ruled.rules
    then unless_broken ruled (first_broken ruled.content ruled.rules)
    else Err (why_missing ruled.content ruled.rules)

abbrev pub after_change : Ruled → Change → Result Content Refusal → Result Ruled Refusal
after_change old change (Err refusal) = Err refusal
after_change old change (Ok content) = settled (record { content = content; rules = rules_after old.rules change })

-- with a rule put last
abbrev pub with_rule : Ruled → Rule → Ruled
with_rule old rule = record old { rules = old.rules ++ rule ∷ [] }

-- the checks of a rule that is added, in order
abbrev pub added : Ruled → Rule → Result Ruled Refusal
added old rule =
    if not (is_name rule.name) then Err BadName
    else if has_rule rule.name old.rules then Err RuleExists
    else if not (has_layers_of old.content rule) then Err NoLayer
    else if not (has_columns_of old.content rule) then Err NoColumn
    else if not (has_named old.content rule) then Err WrongValue
    else if not (nat_lt (length old.rules) rules_max) then Err TooManyRules
    else unless_broken (with_rule old rule) (broken_or (length old.rules) (break_of old.content rule) None)

-- without the rule at a place
abbrev pub without_rule : Ruled → Option ℕ → Result Ruled Refusal
without_rule old None = Err NoRule
without_rule old (Some place) = Ok (record old { rules = remove old.rules place })

-- without the rule of a name
abbrev pub dropped : Ruled → List ℕ → Result Ruled Refusal
dropped old name = without_rule old (place_of_rule name old.rules)

-- a step: the ruled content that it leads to, or why it is refused
abbrev pub ruled_step : Ruled → Asked → Result Ruled Refusal
ruled_step old (OfChange change) = after_change old change (change_led old.content change)
ruled_step old (AddRule rule) = added old rule
ruled_step old (DropRule name) = dropped old name
