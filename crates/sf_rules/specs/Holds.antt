-- When rules hold: those between features over all points of the plane.
use Rattle.std.specs.Prelude.{◌≡◌, ◌<◌, ◌↔◌, ℕ, Bool, false, true, List, Contains, IsSome, IsTrue, None, Option, Some, is_some, slice_get}
use Rattle.std.specs.List.{AllByRecursion}
use Rattle.std.specs.List.Sorted.{IsStrictlySortedBy}
use Rattle.std.specs.Map.{keys_of}
use Rattle.std.specs.Ordering.{nat_cmp}
use Rattle.sf_features.specs.declared.attr_value.AttrValue.{AttrValue}
use Rattle.sf_features.specs.declared.column.Column.{Column}
use Rattle.sf_features.specs.Features.{FeatureContent, value_in}
use Rattle.sf_layers.specs.Content.{Content, LayerContent, column_named, feature_of, has_layer, layer_of}
use Rattle.sf_layers.specs.declared.value_range.ValueRange.{ValueRange}
use Rattle.sf_layers.specs.WellFormed.{IsWellFormed}
use Rattle.sf_joins.specs.Passed.{PairAsk}
use Rattle.sf_joins.specs.Joins.{HasValid, IsJoined}
use Rattle.sf_rules.specs.declared.breaks.Break.{Break}
use Rattle.sf_rules.specs.declared.breaks.Break.TheVariants.{Alone, Pair}
use Rattle.sf_rules.specs.declared.breaks.Broken.{Broken}
use Rattle.sf_rules.specs.declared.rule.Form.{Form}
use Rattle.sf_rules.specs.declared.rule.Form.TheVariants.{Each, Never}
use Rattle.sf_rules.specs.declared.rule.Rule.{Rule}
use Rattle.sf_rules.specs.declared.rule.LayerRule.{LayerRule}
use Rattle.sf_rules.specs.declared.rule.ValueRule.{ValueRule}
use Rattle.sf_rules.specs.declared.rule.Says.{Says}
use Rattle.sf_rules.specs.declared.rule.Says.TheVariants.{OfLayers, OfValues}
use Rattle.sf_rules.specs.declared.rule.Demand.{Demand}
use Rattle.sf_rules.specs.declared.rule.Demand.TheVariants.{InRange, OneOf, Required, Unique}
use Rattle.sf_rules.specs.Breaks.{is_before}
use Rattle.sf_rules.specs.Rules.{breaks_between, breaks_in, first_broken, first_of, is_in_range, of_one}

-- what breaks a rule: two distinct features that are as asked over the plane, or a feature that has no other with which it is so
abbrev pub IsBreak : Form → Bool → LayerContent → PairAsk → LayerContent → Break → Type 0
IsBreak Never one first ask second (Pair i j) = IsJoined one first ask second i j
IsBreak Never one first ask second (Alone i) = ⊥
IsBreak Each one first ask second (Alone i) = IsSome (feature_of first i) × ((j : ℕ) → IsJoined one first ask second i j → ⊥)
IsBreak Each one first ask second (Pair i j) = ⊥

-- no two distinct features are as asked; or for each of the first layer there is one of the second that is
abbrev pub HoldsBetween : Form → Bool → LayerContent → PairAsk → LayerContent → Type 0
HoldsBetween Never one first ask second = (i j : ℕ) → IsJoined one first ask second i j → ⊥
HoldsBetween Each one first ask second = (i : ℕ) (a : FeatureContent) → feature_of first i ≡ Some a → (j : ℕ) × IsJoined one first ask second i j

abbrev pub HoldsBy : LayerRule → Option LayerContent → Option LayerContent → Type 0
HoldsBy rule (Some first) (Some second) = HoldsBetween rule.form (of_one rule) first rule.ask second
HoldsBy rule first second = ⊥

-- ---- of the values in the column of a number

-- a feature has a value there
abbrev pub HasValue : ℕ → LayerContent → ℕ → AttrValue → Type 0
HasValue number layer i value = (a : FeatureContent) × (feature_of layer i ≡ Some a) × (value_in number a ≡ Some value)

-- a value is in a range, by the order of values
abbrev pub IsInRange : ValueRange → AttrValue → Type 0
IsInRange range value = is_in_range range value ≡ true

-- what breaks a rule on values: two features that have the same value, a feature that has none, or one that has a value that is not
-- among those that are allowed, or not in the range
abbrev pub IsValueBreak : Demand → ℕ → LayerContent → Break → Type 0
IsValueBreak Unique number layer (Pair i j) = (i < j) × ((value : AttrValue) × HasValue number layer i value × HasValue number layer j value)
IsValueBreak Required number layer (Alone i) = IsSome (feature_of layer i) × ((value : AttrValue) → HasValue number layer i value → ⊥)
IsValueBreak (OneOf allowed) number layer (Alone i) = (value : AttrValue) × HasValue number layer i value × (Contains allowed value → ⊥)
IsValueBreak (InRange range) number layer (Alone i) = (value : AttrValue) × HasValue number layer i value × (IsInRange range value → ⊥)
IsValueBreak demand number layer found = ⊥

-- no two features have the same value; each has one; each value is among those that are allowed, or in the range
abbrev pub HoldsOnValues : Demand → ℕ → LayerContent → Type 0
HoldsOnValues Unique number layer = (i j : ℕ) (value : AttrValue) → HasValue number layer i value → HasValue number layer j value → i ≡ j
HoldsOnValues Required number layer = (i : ℕ) → IsSome (feature_of layer i) → (value : AttrValue) × HasValue number layer i value
HoldsOnValues (OneOf allowed) number layer = (i : ℕ) (value : AttrValue) → HasValue number layer i value → Contains allowed value
HoldsOnValues (InRange range) number layer = (i : ℕ) (value : AttrValue) → HasValue number layer i value → IsInRange range value

abbrev pub HoldsInColumn : Demand → LayerContent → Option Column → Type 0
HoldsInColumn demand layer (Some column) = HoldsOnValues demand column.number layer
HoldsInColumn demand layer None = ⊥

abbrev pub HoldsInLayer : ValueRule → Option LayerContent → Type 0
HoldsInLayer rule (Some layer) = HoldsInColumn rule.demand layer (column_named layer rule.column)
HoldsInLayer rule None = ⊥

-- ---- each rule

abbrev pub HoldsSaid : Content → Says → Type 0
HoldsSaid content (OfLayers rule) = HoldsBy rule (layer_of content rule.first) (layer_of content rule.second)
HoldsSaid content (OfValues rule) = HoldsInLayer rule (layer_of content rule.layer)

-- a rule holds in a content: its layers and its column are there, and what it says is true of them
abbrev pub Holds : Content → Rule → Type 0
Holds content rule = HoldsSaid content rule.says

abbrev pub AllHold : Content → List Rule → Type 0
AllHold content rules = AllByRecursion (Holds content) rules

-- ---- what is computed

-- a list has just what breaks a rule, no one before the first; and none where the rule holds
pub record AreBreaks (form : Form) (one : Bool) (first : LayerContent) (ask : PairAsk) (second : LayerContent) (breaks : List Break) : Type 0 where
  pub just : (x : Break) → Contains breaks x ↔ IsBreak form one first ask second x
  pub least : (x y : Break) → first_of breaks ≡ Some y → Contains breaks x → is_before x y ≡ false
  pub none : (first_of breaks ≡ None) ↔ HoldsBetween form one first ask second

-- of layers whose identifiers rise and whose geometries are valid, what is computed is just that
abbrev pub BreaksAreOverThePlane : Type 0
BreaksAreOverThePlane =
    (form : Form) (one : Bool) (first second : LayerContent) (ask : PairAsk)
    → IsStrictlySortedBy nat_cmp (keys_of first.features) → IsStrictlySortedBy nat_cmp (keys_of second.features) → HasValid first → HasValid second
    → AreBreaks form one first ask second (breaks_between form one first ask second)

-- a list has just what breaks a rule on values, no one before the first; and none where the rule holds
pub record AreValueBreaks (demand : Demand) (number : ℕ) (layer : LayerContent) (breaks : List Break) : Type 0 where
  pub just : (x : Break) → Contains breaks x ↔ IsValueBreak demand number layer x
  pub least : (x y : Break) → first_of breaks ≡ Some y → Contains breaks x → is_before x y ≡ false
  pub none : (first_of breaks ≡ None) ↔ HoldsOnValues demand number layer

-- of a layer whose identifiers rise, what is computed is just that
abbrev pub ValueBreaksAreThese : Type 0
ValueBreaksAreThese =
    (demand : Demand) (number : ℕ) (layer : LayerContent) → IsStrictlySortedBy nat_cmp (keys_of layer.features)
    → AreValueBreaks demand number layer (breaks_in demand number layer)

-- a layer has the column of a name
abbrev pub HasColumn : List ℕ → Option LayerContent → Type 0
HasColumn name (Some layer) = IsTrue (is_some (column_named layer name))
HasColumn name None = ⊥

abbrev pub HasSaid : Content → Says → Type 0
HasSaid content (OfLayers rule) = IsTrue (has_layer content rule.first) × IsTrue (has_layer content rule.second)
HasSaid content (OfValues rule) = HasColumn rule.column (layer_of content rule.layer)

-- what a rule names is there: its layers, or its layer and the column
abbrev pub HasNamed : Content → Rule → Type 0
HasNamed content rule = HasSaid content rule.says

-- no rule whose layers and columns are there is broken just where all of them hold
abbrev pub RulesAreOverThePlane : Type 0
RulesAreOverThePlane =
    (content : Content) (rules : List Rule) → IsWellFormed content → AllByRecursion (HasNamed content) rules
    → (first_broken content rules ≡ None) ↔ AllHold content rules

-- what breaks a rule, in layers and a column that are there
abbrev pub Breaks : Content → Says → Break → Type 0
Breaks content (OfLayers rule) x =
    (first : LayerContent) × (second : LayerContent) × (layer_of content rule.first ≡ Some first) × (layer_of content rule.second ≡ Some second)
    × IsBreak rule.form (of_one rule) first rule.ask second x
Breaks content (OfValues rule) x =
    (layer : LayerContent) × (column : Column) × (layer_of content rule.layer ≡ Some layer) × (column_named layer rule.column ≡ Some column)
    × IsValueBreak rule.demand column.number layer x

-- a rule is broken in a content: what it names is there, and so is what breaks it; so it does not hold
pub record IsBrokenBy (content : Content) (rules : List Rule) (broken : Broken) : Type 0 where
  pub rule : Rule
  pub stands : slice_get rules broken.place ≡ Some rule
  pub breaks : Breaks content rule.says broken.least
  pub fails : Holds content rule → ⊥

-- a rule that is reported is broken
abbrev pub ReportedRulesAreBroken : Type 0
ReportedRulesAreBroken =
    (content : Content) (rules : List Rule) (broken : Broken) → IsWellFormed content → first_broken content rules ≡ Some broken → IsBrokenBy content rules broken
