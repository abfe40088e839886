-- Rules, and what breaks them, in words.
use Rattle.std.specs.Prelude.{ℕ, List, [], ◌∷◌, ◌++◌, Option, None, Some, codes, decimal, slice_get}
use Rattle.std.specs.Option.{option_map_or}
use Rattle.sf_features.specs.declared.attr_value.AttrValue.{AttrValue}
use Rattle.sf_known.specs.Patterns.{pattern_text}
use Rattle.sf_known.specs.Predicates.{predicate_name}
use Rattle.sf_values.specs.Values.{value_text}
use Rattle.sf_query.specs.declared.ask.Ask.{Ask}
use Rattle.sf_query.specs.declared.ask.Ask.TheVariants.{Matching, Named}
use Rattle.sf_distance.specs.Texts.{reach_text}
use Rattle.sf_near.specs.declared.pair_ask.PairAsk.{PairAsk}
use Rattle.sf_near.specs.declared.pair_ask.PairAsk.TheVariants.{Matrix, Near}
use Rattle.sf_history.specs.Recorded.{Break}
use Rattle.sf_history.specs.Recorded.{Alone, Pair}
use Rattle.sf_history.specs.Recorded.{Demand, Form, InRange, LayerRule, OfLayers, OfValues, OneOf, Required, Says, Unique, ValueRule}
use Rattle.sf_history.specs.Recorded.{Each, Never}
use Rattle.sf_history.specs.Recorded.{Rule}
use Rattle.sf_history.specs.Recorded.{StepRefusal}
use Rattle.sf_history.specs.Recorded.refusals.{RuleBroken}

-- what is asked of a matrix, as one word
abbrev pub ask_word : Ask → List ℕ
ask_word (Matching letters) = pattern_text letters
ask_word (Named predicate) = predicate_name predicate

-- what is asked of two features: such a word, or `near` and a distance
abbrev pub pair_ask_words : PairAsk → List ℕ
pair_ask_words (Matrix ask) = ask_word ask
pair_ask_words (Near reach) = codes "near " ++ reach_text reach

-- the word of a form, and what stands before the second layer
abbrev pub form_words : Form → List ℕ
form_words Never = codes " never "
form_words Each = codes " each "

abbrev pub second_words : Form → List ℕ
second_words Never = codes " "
second_words Each = codes " some "

-- what stands in the row of a rule between layers before what is asked
abbrev pub front_words : LayerRule → List ℕ
front_words rule = form_words rule.form ++ (rule.first ++ codes " ")

-- and behind it
abbrev pub between_words : LayerRule → List ℕ
between_words rule = front_words rule ++ (pair_ask_words rule.ask ++ (second_words rule.form ++ rule.second))

-- the word of a demand
abbrev pub demand_words : Demand → List ℕ
demand_words Unique = codes " unique "
demand_words Required = codes " required "
demand_words (OneOf allowed) = codes " one-of "
demand_words (InRange range) = codes " range "

-- the values of a list: this stands before the first, and a comma and a blank before each other
abbrev pub list_words : List ℕ → List AttrValue → List ℕ
list_words before [] = []
list_words before (value ∷ values) = before ++ (value_text value ++ list_words (codes ", ") values)

-- the ends of a range, where they are given, as they stand before `to` and behind it
abbrev pub from_words : Option AttrValue → List ℕ
from_words from = option_map_or (λ value. value_text value ++ codes " ") from []

abbrev pub to_words : Option AttrValue → List ℕ
to_words to = option_map_or (λ value. codes " " ++ value_text value) to []

-- the values that a demand names, behind the column
abbrev pub named_words : Demand → List ℕ
named_words (OneOf allowed) = list_words (codes " ") allowed
named_words (InRange range) = codes " " ++ (from_words range.from ++ (codes "to" ++ to_words range.to))
named_words demand = []

abbrev pub values_words : ValueRule → List ℕ
values_words rule = demand_words rule.demand ++ (rule.layer ++ (codes " " ++ (rule.column ++ named_words rule.demand)))

abbrev pub said_words : Says → List ℕ
said_words (OfLayers rule) = between_words rule
said_words (OfValues rule) = values_words rule

-- the row of a rule, as it was added
abbrev pub rule_row : Rule → List ℕ
rule_row rule = rule.name ++ said_words rule.says

-- the features that break a rule
abbrev pub break_words : Break → List ℕ
break_words (Pair first second) = codes " " ++ (decimal first ++ (codes " " ++ decimal second))
break_words (Alone first) = codes " " ++ decimal first

-- the name of the rule at a place
abbrev pub rule_name : List Rule → ℕ → List ℕ
rule_name rules place = option_map_or (λ rule. rule.name) (slice_get rules place) []

-- the name of the rule that a step would break, of those that stand
abbrev pub broken_name : List Rule → StepRefusal → List ℕ
broken_name rules (RuleBroken broken) = rule_name rules broken.place
broken_name rules refusal = []
