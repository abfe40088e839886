-- The file format: the content and the rules of a file's bytes, or the first fault in them.
use Rattle.std.specs.Prelude.{ℕ, ℤ, Bool, true, false, not, ◌&&◌, ◌==◌, List, [], ◌∷◌, length, Option, None, Some, Result, Ok, Err, nat_lt, nat_le, nat_eq, bytes_eq, codes, is_some, option_map, zero, suc, if◌then◌else◌}
use Rattle.std.specs.Int.{w64, cast_signed}
use Rattle.std.specs.Map.{lookup}
use Rattle.sf_geometry.specs.declared.geometry.Geometry.{Geometry}
use Rattle.sf_geometry.specs.declared.kind.Kind.TheVariants as kinds
use Rattle.sf_geometry.specs.Kinds.{kind_of}
use Rattle.sf_valid_rules.specs.declared.fault.Fault.{Fault as ShapeFault}
use Rattle.sf_valid_rules.specs.Verdicts.{first_fault}
use Rattle.sf_known.specs.declared.predicate.Predicate.{Predicate}
use Rattle.sf_known.specs.declared.predicate.Predicate.TheVariants.{Equals, Disjoint, Intersects, Touches, Within, Contains, Crosses, Overlaps}
use Rattle.sf_known.specs.Patterns.{pattern_of}
use Rattle.sf_ruled_store.specs.Ruling.{Ask}
use Rattle.sf_ruled_store.specs.Ruling.{Matching, Matrix, Named, Near}
use Rattle.sf_distance.specs.Reaches.{reach_limit}
use Rattle.sf_wkb.specs.declared.fault.WkbFault.{WkbFault}
use Rattle.sf_wkb.specs.declared.grid.Grid.{Grid}
use Rattle.sf_wkb.specs.declared.grid.Grid.TheVariants.{Bits20, Bits24, Bits31}
use Rattle.sf_wkb.specs.Grammar.{read_in}
use Rattle.sf_features.specs.Names.{is_name}
use Rattle.sf_features.specs.Columns.{named, numbered}
use Rattle.sf_features.specs.Features.{FeatureContent}
use Rattle.sf_features.specs.Values.{is_attr_text, is_of_type, number_value}
use Rattle.sf_decimals.specs.declared.number.Number.{Number}
use Rattle.sf_decimals.specs.Decimals.{is_decimal}
use Rattle.sf_dates.specs.declared.day.Day.{Day}
use Rattle.sf_dates.specs.declared.moment.Moment.{Moment}
use Rattle.sf_dates.specs.Calendar.{is_day, is_moment}
use Rattle.sf_layers.specs.Content.{Content, LayerContent, column_named, has_layer, layer_of, admits}
use Rattle.sf_layers.specs.Found.{are_apart}
use Rattle.sf_layers.specs.WellFormed.{layers_max}
use Rattle.sf_layers.specs.declared.layer_kind.LayerKind.{LayerKind}
use Rattle.sf_layers.specs.declared.layer_kind.LayerKind.TheVariants.{Any, Only}
use Rattle.sf_layers.specs.declared.value_range.ValueRange.{ValueRange}
use Rattle.sf_features.specs.declared.column.Column.{Column}
use Rattle.sf_features.specs.declared.column_type.ColumnType.{ColumnType}
use Rattle.sf_features.specs.declared.column_type.ColumnType.TheVariants as types
use Rattle.sf_features.specs.declared.attr_value.AttrValue.{AttrValue}
use Rattle.sf_features.specs.declared.attr_value.AttrValue.TheVariants as values
use Rattle.sf_ruled_store.specs.Ruling.{Rule, Says, OfLayers, OfValues}
use Rattle.sf_ruled_store.specs.Ruling.{Never, Each}
use Rattle.sf_ruled_store.specs.Ruling.{Demand, InRange, OneOf, Required, Unique}
use Rattle.sf_ruled_store.specs.Ruling.{break_of}
use Rattle.sf_ruled_store.specs.Ruled.{Ruled, has_rule}
use Rattle.sf_format.specs.declared.range_ends.RangeEnds.{RangeEnds}
use Rattle.sf_format.specs.declared.rule_form.DemandForm.{DemandForm}
use Rattle.sf_format.specs.declared.rule_form.DemandForm.TheVariants as forms
use Rattle.sf_format.specs.declared.rule_form.RuleForm.{RuleForm}
use Rattle.sf_format.specs.declared.rule_form.RuleForm.TheVariants.{Between, ByDistance, OnValues}
use Rattle.sf_format.specs.declared.version.Version.{Version}
use Rattle.sf_format.specs.declared.version.Version.TheVariants.{First, Second, Third, Fourth}
use Rattle.sf_format.specs.declared.defect.Defect.{Defect}
use Rattle.sf_format.specs.declared.defect.Defect.TheVariants.{TooManyVertices, Wkb, Invalid, LayerExists, BadName, NoColumn, ColumnExists, WrongValue, WrongKind, IdsExhausted, ColumnsExhausted, BadFile, NoLayer, RuleExists, BadPattern, RuleBroken}
use Rattle.sf_format.specs.Readings.{Fault, Reads, Reading, ◌>>=◌, done, bytes, field, number, sized, items, end}

-- how many bytes a binary geometry of a file has at most
abbrev pub row_max : ℕ
row_max = 2097152

-- how many values a rule names at most
abbrev pub values_max : ℕ
values_max = 1000

-- how binary geometries are read
abbrev pub RowReading : Type 0
RowReading = List ℕ → Result Geometry WkbFault

-- the value, where the test passes
abbrev pub allowed : {T : Type 0} → Bool → Defect → T → Result T Defect
allowed true defect value = Ok value
allowed false defect value = Err defect

-- the value that is there
abbrev pub present : {T : Type 0} → Option T → Defect → Result T Defect
present (Some value) defect = Ok value
present None defect = Err defect

-- the number of the last of the numbered things so far, or 0
abbrev pub last_number : {X : Type 0} → List (ℕ × X) → ℕ
last_number [] = 0
last_number (entry ∷ []) = entry.0
last_number (entry ∷ (next ∷ later)) = last_number (next ∷ later)

-- a name, behind the byte of its length
abbrev pub name : Reading (List ℕ)
name = field (sized 1 (λ size. allowed (nat_le 1 size && nat_le size 32) BadName size)) (λ text. allowed (is_name text) BadName text)

-- the kind of a layer that a byte stands for: 0 is any, else the code of well-known binary
abbrev pub kind_of_byte : ℕ → Option LayerKind
kind_of_byte byte = lookup (nat_eq byte) ((0, Any) ∷ (1, Only kinds.Point) ∷ (2, Only kinds.LineString) ∷ (3, Only kinds.Polygon)
    ∷ (4, Only kinds.MultiPoint) ∷ (5, Only kinds.MultiLineString) ∷ (6, Only kinds.MultiPolygon) ∷ [])

-- the type of a column that a byte stands for
abbrev pub type_of_byte : ℕ → Option ColumnType
type_of_byte byte = lookup (nat_eq byte) ((1, types.Int) ∷ (2, types.Text) ∷ (3, types.Decimal) ∷ (4, types.Bool) ∷ (5, types.Date) ∷ (6, types.DateTime) ∷ [])

-- a column number that is below the layer's next one and is not used before
abbrev pub fresh_number : ℕ → List Column → ℕ → Result ℕ Defect
fresh_number next_column earlier n =
    allowed (nat_lt 0 n && nat_lt n next_column && not (is_some (numbered earlier n))) ColumnsExhausted n

-- a name that no earlier column has
abbrev pub fresh_column_name : List Column → List ℕ → Result (List ℕ) Defect
fresh_column_name earlier text = allowed (not (is_some (named earlier text))) ColumnExists text

-- a column
abbrev pub column : ℕ → List Column → Reading Column
column next_column earlier = do
  n ← field (number 2) (fresh_number next_column earlier)
  column_type ← field (number 1) (λ byte. present (type_of_byte byte) WrongValue)
  text ← field name (fresh_column_name earlier)
  done (record { number = n; name = text; column_type = column_type })

-- the geometry, where it has no fault
abbrev pub without_fault : Geometry → Option ShapeFault → Result Geometry Defect
without_fault geometry None = Ok geometry
without_fault geometry (Some fault) = Err (Invalid fault)

-- the geometry, where it is one of the layer's kind, and valid
abbrev pub admitted : LayerKind → Result Geometry WkbFault → Result Geometry Defect
admitted kind (Err fault) = Err (Wkb fault)
admitted kind (Ok geometry) = if admits kind (kind_of geometry) then without_fault geometry (first_fault geometry) else Err WrongKind

-- a binary geometry, behind its length
abbrev pub geometry : RowReading → LayerKind → Reading Geometry
geometry row kind = do
  size ← field (number 4) (λ size. allowed (nat_le size row_max) TooManyVertices size)
  field (bytes size) (λ text. admitted kind (row text))

-- a number of eight bytes in two's complement
abbrev pub signed_number : Reading ℤ
signed_number = do
  n ← number 8
  done (cast_signed w64 n)

-- a number: its digits without the point, and how many of them stand behind it
abbrev pub decimal_parts : Reading Number
decimal_parts = do
  mantissa ← signed_number
  places ← number 1
  done (record { mantissa = mantissa; places = places })

-- the number as a value, where that is its one form
abbrev pub decimal_in : Number → Option AttrValue
decimal_in parts = if is_decimal parts then Some (number_value parts) else None

-- the truth value that a byte stands for
abbrev pub bool_of_byte : ℕ → Option AttrValue
bool_of_byte byte = lookup (nat_eq byte) ((0, values.Bool false) ∷ (1, values.Bool true) ∷ [])

-- a year, a month and a day
abbrev pub date_parts : Reading Day
date_parts = do
  year ← number 2
  month ← number 1
  day ← number 1
  done (record { year = year; month = month; day = day })

-- the day, where there is such a day
abbrev pub day_in : Day → Option AttrValue
day_in parts = if is_day parts then Some (values.Date parts) else None

-- a day, and a millisecond of it
abbrev pub moment_parts : Reading Moment
moment_parts = do
  day ← date_parts
  millisecond ← number 4
  done (record { date = day; millisecond = millisecond })

-- the moment, where there is such a moment
abbrev pub moment_in : Moment → Option AttrValue
moment_in parts = if is_moment parts then Some (values.DateTime parts) else None

-- the bytes of a text, behind their number
abbrev pub text_bytes : Reading (List ℕ)
text_bytes = do
  size ← number 2
  bytes size

-- the value of a column of a type
abbrev pub typed_value : ColumnType → Reading AttrValue
typed_value types.Int = do
  n ← number 8
  done (values.Int (cast_signed w64 n))
typed_value types.Text = field text_bytes (λ text. allowed (is_attr_text text) WrongValue (values.Text text))
typed_value types.Decimal = field decimal_parts (λ parts. present (decimal_in parts) WrongValue)
typed_value types.Bool = field (number 1) (λ byte. present (bool_of_byte byte) WrongValue)
typed_value types.Date = field date_parts (λ parts. present (day_in parts) WrongValue)
typed_value types.DateTime = field moment_parts (λ parts. present (moment_in parts) WrongValue)

-- the column of a number that is above the one before
abbrev pub next_column_of : List Column → ℕ → ℕ → Result Column Defect
next_column_of columns before n = present (if nat_lt before n then numbered columns n else None) NoColumn

-- a value, behind the number of its column
abbrev pub value : List Column → List (ℕ × AttrValue) → Reading (ℕ × AttrValue)
value columns earlier = do
  column ← field (number 2) (next_column_of columns (last_number earlier))
  content ← typed_value column.column_type
  done (column.number, content)

-- an identifier above the one before and below the layer's next one
abbrev pub next_of : ℕ → ℕ → ℕ → Result ℕ Defect
next_of next_id before n = allowed (nat_lt before n && nat_lt n next_id) IdsExhausted n

-- a feature of a layer, behind its identifier
abbrev pub feature : RowReading → LayerKind → ℕ → List Column → List (ℕ × FeatureContent) → Reading (ℕ × FeatureContent)
feature row kind next_id columns earlier = do
  id ← field (number 4) (next_of next_id (last_number earlier))
  shape ← geometry row kind
  count ← field (number 2) (λ n. allowed (nat_le n (length columns)) NoColumn n)
  values ← items (value columns) count []
  done (id, record { geometry = shape; values = values })

-- a name that no earlier layer has
abbrev pub fresh_layer_name : Content → List ℕ → Result (List ℕ) Defect
fresh_layer_name earlier text = allowed (not (has_layer earlier text)) LayerExists text

-- a layer, behind its name
abbrev pub layer : RowReading → Content → Reading (List ℕ × LayerContent)
layer row earlier = do
  title ← field name (fresh_layer_name earlier)
  kind ← field (number 1) (λ byte. present (kind_of_byte byte) WrongKind)
  next_id ← field (number 4) (λ n. allowed (nat_lt 0 n) IdsExhausted n)
  next_column ← field (number 2) (λ n. allowed (nat_lt 0 n) ColumnsExhausted n)
  column_count ← field (number 2) (λ n. allowed (nat_lt n next_column) ColumnsExhausted n)
  columns ← items (column next_column) column_count []
  feature_count ← field (number 4) (λ n. allowed (nat_lt n next_id) IdsExhausted n)
  features ← items (feature row kind next_id columns) feature_count []
  done (title, record { kind = kind; next_id = next_id; next_column = next_column; columns = columns; features = features })

-- the layers
abbrev pub layers : RowReading → Reading Content
layers row = do
  count ← field (number 4) (λ n. allowed (nat_le n layers_max) IdsExhausted n)
  items (layer row) count []

-- ---- rules

-- a name that no earlier rule has
abbrev pub fresh_rule_name : List Rule → List ℕ → Result (List ℕ) Defect
fresh_rule_name earlier text = allowed (not (has_rule text earlier)) RuleExists text

-- a name that a layer of the file has
abbrev pub known_layer_name : Content → List ℕ → Result (List ℕ) Defect
known_layer_name content text = allowed (has_layer content text) NoLayer text

-- the type of the column of a name, where the layer is there and has one
abbrev pub type_in : Option LayerContent → List ℕ → Option ColumnType
type_in None text = None
type_in (Some layer) text = option_map (λ column. column.column_type) (column_named layer text)

-- a name that a column of the layer has, and the type of that column
abbrev pub known_column : Content → List ℕ → List ℕ → Result (List ℕ × ColumnType) Defect
known_column content layer text = present (option_map (λ column_type. (text, column_type)) (type_in (layer_of content layer) text)) NoColumn

-- the form of a rule between layers that a byte stands for
abbrev pub form_between : ℕ → Option RuleForm
form_between byte = lookup (nat_eq byte) ((1, Between Never) ∷ (2, Between Each) ∷ [])

-- the form of any rule
abbrev pub any_form : ℕ → Option RuleForm
any_form byte = lookup (nat_eq byte) ((1, Between Never) ∷ (2, Between Each) ∷ (3, OnValues forms.Unique) ∷ (4, OnValues forms.Required) ∷ (5, OnValues forms.OneOf)
    ∷ (6, OnValues forms.InRange) ∷ (7, ByDistance Never) ∷ (8, ByDistance Each) ∷ [])

-- the form of a rule that a byte stands for in a file of a version: rules on values, and those by distance, came with the fourth
abbrev pub form_of_byte : Version → ℕ → Option RuleForm
form_of_byte Fourth byte = any_form byte
form_of_byte version byte = form_between byte

-- the named predicate that a byte stands for
abbrev pub predicate_of_byte : ℕ → Option Predicate
predicate_of_byte byte = lookup (nat_eq byte) ((1, Equals) ∷ (2, Disjoint) ∷ (3, Intersects) ∷ (4, Touches) ∷ (5, Within) ∷ (6, Contains) ∷ (7, Crosses)
    ∷ (8, Overlaps) ∷ [])

-- what is asked, behind its first byte: a pattern of nine letters behind 0, else a named predicate
abbrev pub asked_by : ℕ → Reading (Option Ask)
asked_by zero = do
  text ← bytes 9
  done (option_map Matching (pattern_of text))
asked_by (suc n) = done (option_map Named (predicate_of_byte (suc n)))

abbrev pub asked : Reading (Option Ask)
asked = do
  byte ← number 1
  asked_by byte

-- what is asked, where its bytes stand for something
abbrev pub ask : Reading Ask
ask = field asked (λ found. present found BadPattern)

-- a number as a value, where that is its one form and has places behind the point: a whole one is written as such
abbrev pub fraction_in : Number → Option AttrValue
fraction_in parts = if parts.places == 0 then None else decimal_in parts

-- a value whose own type this is
abbrev pub own_value : ColumnType → Reading AttrValue
own_value types.Decimal = field decimal_parts (λ parts. present (fraction_in parts) WrongValue)
own_value own = typed_value own

-- a value behind the byte of its own type
abbrev pub any_value : Reading AttrValue
any_value = do
  own ← field (number 1) (λ byte. present (type_of_byte byte) WrongValue)
  own_value own

-- a value that a rule names, which may stand in a column of the type
abbrev pub named_value : ColumnType → Reading AttrValue
named_value column_type = field any_value (λ value. allowed (is_of_type column_type value) WrongValue value)

-- the values that a rule allows, behind their number
abbrev pub allowed_values : ColumnType → Reading (List AttrValue)
allowed_values column_type = do
  count ← field (number 2) (λ n. allowed (nat_lt 0 n && nat_le n values_max) WrongValue n)
  items (λ earlier. named_value column_type) count []

-- the ends of a range that a byte stands for: the first, the last, or both
abbrev pub ends_of_byte : ℕ → Option RangeEnds
ends_of_byte byte = lookup (nat_eq byte) ((1, record { from = true; to = false }) ∷ (2, record { from = false; to = true }) ∷ (3, record { from = true; to = true }) ∷ [])

-- an end of a range, where it is given
abbrev pub end_value : ColumnType → Bool → Reading (Option AttrValue)
end_value column_type false = done None
end_value column_type true = do
  value ← named_value column_type
  done (Some value)

-- the ends of a range, behind the byte that says which are given
abbrev pub range_parts : ColumnType → Reading ValueRange
range_parts column_type = do
  ends ← field (number 1) (λ byte. present (ends_of_byte byte) BadFile)
  from ← end_value column_type ends.from
  to ← end_value column_type ends.to
  done (record { from = from; to = to })

-- a range, whose first end is not behind the second; where it is, the fault is at its first byte
abbrev pub allowed_range : ColumnType → Reading ValueRange
allowed_range column_type = field (range_parts column_type) (λ range. allowed (not (are_apart range.from range.to)) WrongValue range)

-- what a rule of a form demands of the values in a column of a type
abbrev pub demanded : ColumnType → DemandForm → Reading Demand
demanded column_type forms.Unique = done Unique
demanded column_type forms.Required = done Required
demanded column_type forms.OneOf = do
  allowed ← allowed_values column_type
  done (OneOf allowed)
demanded column_type forms.InRange = do
  range ← allowed_range column_type
  done (InRange range)

-- a distance, in thousandths of a grid step
abbrev pub distance : Reading ℕ
distance = field (number 8) (λ n. allowed (nat_lt n reach_limit) BadFile n)

-- what a rule says, behind its form: of layers of the file, or of a column of one of them
abbrev pub said : Content → RuleForm → Reading Says
said content (Between form) = do
  first ← field name (known_layer_name content)
  asked ← ask
  second ← field name (known_layer_name content)
  done (OfLayers (record { form = form; first = first; ask = Matrix asked; second = second }))
said content (ByDistance form) = do
  first ← field name (known_layer_name content)
  reach ← distance
  second ← field name (known_layer_name content)
  done (OfLayers (record { form = form; first = first; ask = Near reach; second = second }))
said content (OnValues form) = do
  layer ← field name (known_layer_name content)
  column ← field name (known_column content layer)
  demand ← demanded column.1 form
  done (OfValues (record { demand = demand; layer = layer; column = column.0 }))

-- a rule behind its name
abbrev pub rule : Version → Content → List Rule → Reading Rule
rule version content earlier = do
  title ← field name (fresh_rule_name earlier)
  form ← field (number 1) (λ byte. present (form_of_byte version byte) BadFile)
  says ← said content form
  done (record { name = title; says = says })

-- the rule, where nothing in the content breaks it
abbrev pub unbroken : Content → Rule → Result Rule Defect
unbroken content rule = allowed (not (is_some (break_of content rule))) RuleBroken rule

-- a rule that holds in the content; where it does not, the fault is at its first byte
abbrev pub held_rule : Version → Content → List Rule → Reading Rule
held_rule version content earlier = field (rule version content earlier) (unbroken content)

-- the rules
abbrev pub rules : Version → Content → Reading (List Rule)
rules version content = do
  count ← number 2
  items (held_rule version content) count []

-- ---- versions

-- the version whose files begin with these eight bytes
abbrev pub version_of : List ℕ → Result Version Defect
version_of text =
    if bytes_eq text (codes "SFSTORE1") then Ok First
    else if bytes_eq text (codes "SFSTORE2") then Ok Second
    else if bytes_eq text (codes "SFSTORE3") then Ok Third
    else allowed (bytes_eq text (codes "SFSTORE4")) BadFile Fourth

-- how many bits a coordinate has with its sign
abbrev pub bits_of : Version → ℕ
bits_of First = 20
bits_of Second = 24
bits_of Third = 24
bits_of Fourth = 31

-- the byte of the grid, which says these; files of the first version don't have it
abbrev pub on_grid : Version → Reading Version
on_grid First = done First
on_grid version = field (number 1) (λ byte. allowed (nat_eq byte (bits_of version)) BadFile version)

-- the bytes at the front that say which version follows
abbrev pub head : Reading Version
head = do
  version ← field (bytes 8) version_of
  on_grid version

-- the grid of the binary geometries
abbrev pub grid_of : Version → Grid
grid_of First = Bits20
grid_of Second = Bits24
grid_of Third = Bits24
grid_of Fourth = Bits31

-- the rules of a file of a version, behind its layers
abbrev pub rules_in : Version → Content → Reading (List Rule)
rules_in First content = done []
rules_in Second content = done []
rules_in version content = rules version content

-- a whole file
abbrev pub file : Reading Ruled
file = do
  version ← head
  content ← layers (read_in (grid_of version))
  kept ← rules_in version content
  ended ← end
  done (record { content = content; rules = kept })

-- what reading gives without what is left
abbrev pub value_of : {T : Type 0} → Reads T → Result T Fault
value_of (Ok x) = Ok x.0
value_of (Err fault) = Err fault

-- the content and the rules of the bytes of a file, or the first fault in them
abbrev pub ruled_content_of : List ℕ → Result Ruled Fault
ruled_content_of text = value_of (file (record { place = 0; bytes = text }))

-- the content alone
abbrev pub content_in : Result Ruled Fault → Result Content Fault
content_in (Ok ruled) = Ok ruled.content
content_in (Err fault) = Err fault

abbrev pub content_of : List ℕ → Result Content Fault
content_of text = content_in (ruled_content_of text)

-- ---- the earlier versions by themselves

-- eight bytes that are these
abbrev pub begins : List ℕ → List ℕ → Result (Unit {0}) Defect
begins front text = allowed (bytes_eq text front) BadFile tt

-- the layers, up to the end of the file
abbrev pub all_layers : RowReading → Reading Content
all_layers row = do
  content ← layers row
  ended ← end
  done content

-- a whole file of the first version
abbrev pub first_file : Reading Content
first_file = do
  front ← field (bytes 8) (begins (codes "SFSTORE1"))
  all_layers (read_in Bits20)

-- a whole file of the second version
abbrev pub second_file : Reading Content
second_file = do
  front ← field (bytes 8) (begins (codes "SFSTORE2"))
  grid ← field (number 1) (λ byte. allowed (nat_eq byte 24) BadFile Bits24)
  all_layers (read_in grid)

-- the content of the bytes of a file of the first version, or the first fault in them
abbrev pub first_content_of : List ℕ → Result Content Fault
first_content_of text = value_of (first_file (record { place = 0; bytes = text }))

-- and of the second version
abbrev pub second_content_of : List ℕ → Result Content Fault
second_content_of text = value_of (second_file (record { place = 0; bytes = text }))
