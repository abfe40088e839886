-- The canonical bytes of a content with rules: the one file that is written for it.
use Rattle.std.specs.Prelude.{ℕ, ℤ, Bool, true, false, List, [], ◌∷◌, ◌++◌, length, flat_map, codes, Option, None, Some}
use Rattle.std.specs.Int.{w64, cast_unsigned}
use Rattle.byteorder.specs.Endian.{big_bytes}
use Rattle.sf_wkb.specs.Grammar.{code_of, canonical as canonical_wkb}
use Rattle.sf_known.specs.Patterns.{pattern_text}
use Rattle.sf_known.specs.declared.predicate.Predicate.{Predicate}
use Rattle.sf_known.specs.declared.predicate.Predicate.TheVariants as predicates
use Rattle.sf_ruled_store.specs.Ruling.{Ask}
use Rattle.sf_ruled_store.specs.Ruling.{Matching, Matrix, Named, Near, PairAsk}
use Rattle.sf_ruled_store.specs.Ruling.{Rule, Says, OfLayers, OfValues}
use Rattle.sf_ruled_store.specs.Ruling.{Form}
use Rattle.sf_ruled_store.specs.Ruling.{Never, Each}
use Rattle.sf_ruled_store.specs.Ruling.{Demand, InRange, OneOf, Required, Unique}
use Rattle.sf_ruled_store.specs.Ruled.{Ruled}
use Rattle.sf_features.specs.Features.{FeatureContent}
use Rattle.sf_features.specs.Columns.{numbered}
use Rattle.sf_dates.specs.declared.day.Day.{Day}
use Rattle.sf_dates.specs.declared.moment.Moment.{Moment}
use Rattle.sf_decimals.specs.declared.number.Number.{Number}
use Rattle.sf_layers.specs.Content.{Content, LayerContent}
use Rattle.sf_layers.specs.declared.layer_kind.LayerKind.{LayerKind}
use Rattle.sf_layers.specs.declared.layer_kind.LayerKind.TheVariants.{Any, Only}
use Rattle.sf_features.specs.declared.column.Column.{Column}
use Rattle.sf_features.specs.declared.column_type.ColumnType.{ColumnType}
use Rattle.sf_features.specs.declared.column_type.ColumnType.TheVariants as types
use Rattle.sf_features.specs.declared.attr_value.AttrValue.{AttrValue}
use Rattle.sf_features.specs.declared.attr_value.AttrValue.TheVariants as values

-- a text behind its length, which takes so many bytes
abbrev pub behind_length : ℕ → List ℕ → List ℕ
behind_length count text = big_bytes count (length text) ++ text

-- the byte of a layer's kind: 0 for any, else the code of well-known binary
abbrev pub kind_byte : LayerKind → ℕ
kind_byte Any = 0
kind_byte (Only kind) = code_of kind

-- the byte of a column's type
abbrev pub type_byte : ColumnType → ℕ
type_byte types.Int = 1
type_byte types.Text = 2
type_byte types.Decimal = 3
type_byte types.Bool = 4
type_byte types.Date = 5
type_byte types.DateTime = 6

-- the bytes of a column
abbrev pub column_bytes : Column → List ℕ
column_bytes column = big_bytes 2 column.number ++ (big_bytes 1 (type_byte column.column_type) ++ behind_length 1 column.name)

-- whether the numbers of a column have the byte of their places behind them
abbrev pub is_decimal_type : ColumnType → Bool
is_decimal_type types.Decimal = true
is_decimal_type column_type = false

abbrev pub is_decimal_column : Option Column → Bool
is_decimal_column None = false
is_decimal_column (Some column) = is_decimal_type column.column_type

-- the bytes of a whole number; in a column of decimals it has no places
abbrev pub int_bytes : Bool → ℤ → List ℕ
int_bytes false n = big_bytes 8 (cast_unsigned w64 n)
int_bytes true n = big_bytes 8 (cast_unsigned w64 n) ++ big_bytes 1 0

-- the bytes of a number: its digits without the point, and how many of them stand behind it
abbrev pub decimal_bytes : Number → List ℕ
decimal_bytes number = big_bytes 8 (cast_unsigned w64 number.mantissa) ++ big_bytes 1 number.places

-- the byte of a truth value
abbrev pub bool_byte : Bool → ℕ
bool_byte false = 0
bool_byte true = 1

-- the bytes of a day: its year, month and day
abbrev pub date_bytes : Day → List ℕ
date_bytes day = big_bytes 2 day.year ++ (big_bytes 1 day.month ++ big_bytes 1 day.day)

-- the bytes of a moment: its day, and the millisecond of it
abbrev pub moment_bytes : Moment → List ℕ
moment_bytes moment = date_bytes moment.date ++ big_bytes 4 moment.millisecond

-- the bytes of a value, in a column of decimals or in another one
abbrev pub typed_bytes : Bool → AttrValue → List ℕ
typed_bytes in_decimals (values.Int n) = int_bytes in_decimals n
typed_bytes in_decimals (values.Text text) = behind_length 2 text
typed_bytes in_decimals (values.Decimal number) = decimal_bytes number
typed_bytes in_decimals (values.Bool b) = big_bytes 1 (bool_byte b)
typed_bytes in_decimals (values.Date day) = date_bytes day
typed_bytes in_decimals (values.DateTime moment) = moment_bytes moment

-- the bytes of a value of a feature in a layer with these columns, behind the number of its column
abbrev pub value_bytes : List Column → ℕ × AttrValue → List ℕ
value_bytes columns entry = big_bytes 2 entry.0 ++ typed_bytes (is_decimal_column (numbered columns entry.0)) entry.1

-- the bytes of a feature of a layer with these columns, behind its identifier
abbrev pub feature_bytes : List Column → ℕ × FeatureContent → List ℕ
feature_bytes columns entry =
    big_bytes 4 entry.0 ++ (behind_length 4 (canonical_wkb entry.1.geometry)
    ++ (big_bytes 2 (length entry.1.values) ++ flat_map (value_bytes columns) entry.1.values))

-- the bytes of a layer, behind its name
abbrev pub layer_bytes : List ℕ × LayerContent → List ℕ
layer_bytes entry =
    behind_length 1 entry.0 ++ (big_bytes 1 (kind_byte entry.1.kind) ++ (big_bytes 4 entry.1.next_id ++ (big_bytes 2 entry.1.next_column
    ++ (big_bytes 2 (length entry.1.columns) ++ (flat_map column_bytes entry.1.columns
    ++ (big_bytes 4 (length entry.1.features) ++ flat_map (feature_bytes entry.1.columns) entry.1.features))))))

-- the bytes of the layers
abbrev pub layers_bytes : Content → List ℕ
layers_bytes content = big_bytes 4 (length content) ++ flat_map layer_bytes content

-- ---- rules

-- the byte of the form of a rule between layers
abbrev pub form_byte : Form → ℕ
form_byte Never = 1
form_byte Each = 2

-- where it asks for what is near
abbrev pub distance_form_byte : Form → ℕ
distance_form_byte Never = 7
distance_form_byte Each = 8

-- the byte of what a rule demands of values
abbrev pub demand_byte : Demand → ℕ
demand_byte Unique = 3
demand_byte Required = 4
demand_byte (OneOf allowed) = 5
demand_byte (InRange range) = 6

-- the type that a value is of by itself; a whole number is one in a column of decimals too
abbrev pub own_type : AttrValue → ColumnType
own_type (values.Int n) = types.Int
own_type (values.Text text) = types.Text
own_type (values.Decimal number) = types.Decimal
own_type (values.Bool b) = types.Bool
own_type (values.Date day) = types.Date
own_type (values.DateTime moment) = types.DateTime

-- the bytes of a value that a rule names, behind the byte of its own type
abbrev pub named_bytes : AttrValue → List ℕ
named_bytes value = big_bytes 1 (type_byte (own_type value)) ++ typed_bytes false value

-- the byte of the ends of a range that are given; a range of a rule has one
abbrev pub ends_byte : Option AttrValue → Option AttrValue → ℕ
ends_byte None None = 0
ends_byte (Some from) None = 1
ends_byte None (Some to) = 2
ends_byte (Some from) (Some to) = 3

-- the bytes of an end, where it is given
abbrev pub end_bytes : Option AttrValue → List ℕ
end_bytes None = []
end_bytes (Some value) = named_bytes value

-- the bytes of the values that a rule names, behind its layer and its column
abbrev pub demand_bytes : Demand → List ℕ
demand_bytes Unique = []
demand_bytes Required = []
demand_bytes (OneOf allowed) = big_bytes 2 (length allowed) ++ flat_map named_bytes allowed
demand_bytes (InRange range) = big_bytes 1 (ends_byte range.from range.to) ++ (end_bytes range.from ++ end_bytes range.to)

-- the byte of a named predicate
abbrev pub predicate_byte : Predicate → ℕ
predicate_byte predicates.Equals = 1
predicate_byte predicates.Disjoint = 2
predicate_byte predicates.Intersects = 3
predicate_byte predicates.Touches = 4
predicate_byte predicates.Within = 5
predicate_byte predicates.Contains = 6
predicate_byte predicates.Crosses = 7
predicate_byte predicates.Overlaps = 8

-- the bytes of what is asked: the byte of a named predicate, or 0 and the text of a pattern
abbrev pub ask_bytes : Ask → List ℕ
ask_bytes (Named predicate) = big_bytes 1 (predicate_byte predicate)
ask_bytes (Matching pattern) = big_bytes 1 0 ++ pattern_text pattern

-- the byte of the form of a rule between layers, by what it asks
abbrev pub pair_form_byte : PairAsk → Form → ℕ
pair_form_byte (Matrix ask) form = form_byte form
pair_form_byte (Near reach) form = distance_form_byte form

-- the bytes of what is asked of two features: of their matrix, or a distance in thousandths of a grid step
abbrev pub pair_bytes : PairAsk → List ℕ
pair_bytes (Matrix ask) = ask_bytes ask
pair_bytes (Near reach) = big_bytes 8 reach

-- the bytes of what a rule says, behind the byte of its form
abbrev pub says_bytes : Says → List ℕ
says_bytes (OfLayers rule) =
    big_bytes 1 (pair_form_byte rule.ask rule.form) ++ (behind_length 1 rule.first ++ (pair_bytes rule.ask ++ behind_length 1 rule.second))
says_bytes (OfValues rule) =
    big_bytes 1 (demand_byte rule.demand) ++ (behind_length 1 rule.layer ++ (behind_length 1 rule.column ++ demand_bytes rule.demand))

-- the bytes of a rule, behind its name
abbrev pub rule_bytes : Rule → List ℕ
rule_bytes rule = behind_length 1 rule.name ++ says_bytes rule.says

-- the bytes of the rules
abbrev pub rules_bytes : List Rule → List ℕ
rules_bytes rules = big_bytes 2 (length rules) ++ flat_map rule_bytes rules

-- ---- files

-- the bytes at the front of a file that is written: those of the fourth version, and the byte of the grid
abbrev pub front : List ℕ
front = codes "SFSTORE4" ++ 31 ∷ []

-- the canonical bytes of a content with these rules
abbrev pub canonical_with : Content → List Rule → List ℕ
canonical_with content rules = front ++ (layers_bytes content ++ rules_bytes rules)

abbrev pub canonical_ruled : Ruled → List ℕ
canonical_ruled ruled = canonical_with ruled.content ruled.rules

-- the canonical bytes of a content without rules
abbrev pub canonical : Content → List ℕ
canonical content = canonical_with content []

-- ---- files that earlier programs wrote

-- the bytes that the first version has for a content
abbrev pub first_canonical : Content → List ℕ
first_canonical content = codes "SFSTORE1" ++ layers_bytes content

-- those of the second version
abbrev pub second_canonical : Content → List ℕ
second_canonical content = (codes "SFSTORE2" ++ 24 ∷ []) ++ layers_bytes content

-- those of the third version, for a content with rules between layers
abbrev pub third_canonical : Ruled → List ℕ
third_canonical ruled = (codes "SFSTORE3" ++ 24 ∷ []) ++ (layers_bytes ruled.content ++ rules_bytes ruled.rules)
