-- What follows each field in the definition of its record, under a name that lemmas use.
use Rattle.std.specs.Prelude.{ℕ, ℤ, List, [], length, Option, nat_lt, nat_le}
use Rattle.sf_dates.specs.declared.day.Day.{Day}
use Rattle.sf_dates.specs.declared.moment.Moment.{Moment}
use Rattle.sf_decimals.specs.declared.number.Number.{Number}
use Rattle.sf_geometry.specs.declared.geometry.Geometry.{Geometry}
use Rattle.sf_features.specs.declared.column.Column.{Column}
use Rattle.sf_features.specs.declared.column_type.ColumnType.{ColumnType}
use Rattle.sf_features.specs.declared.attr_value.AttrValue.{AttrValue}
use Rattle.sf_features.specs.Features.{FeatureContent}
use Rattle.sf_layers.specs.declared.layer_kind.LayerKind.{LayerKind}
use Rattle.sf_layers.specs.Content.{Content, LayerContent}
use Rattle.sf_layers.specs.declared.value_range.ValueRange.{ValueRange}
use Rattle.sf_ruled_store.specs.Ruling.{Matrix, Near, PairAsk}
use Rattle.sf_ruled_store.specs.Ruling.{Rule, Says, OfLayers, OfValues}
use Rattle.sf_ruled_store.specs.Ruling.{Form}
use Rattle.sf_ruled_store.specs.Ruled.{Ruled}
use Rattle.sf_format.specs.declared.range_ends.RangeEnds.{RangeEnds}
use Rattle.sf_format.specs.declared.rule_form.DemandForm.{DemandForm}
use Rattle.sf_format.specs.declared.rule_form.RuleForm.{RuleForm}
use Rattle.sf_format.specs.declared.version.Version.{Version}
use Rattle.sf_format.specs.declared.defect.Defect.TheVariants.{NoColumn, WrongValue, WrongKind, IdsExhausted, ColumnsExhausted, BadFile}
use Rattle.sf_wkb.specs.Grammar.{read_in}
use Rattle.sf_format.specs.Readings.{Reading, ◌>>=◌, done, bytes, field, number, items, end}
use Rattle.sf_format.specs.Format.{RowReading, allowed, present, name, type_of_byte, kind_of_byte, fresh_column_name, column, admitted, typed_value, value, geometry, feature, layers, demanded, end_value, form_of_byte, known_column, known_layer_name, named_value, ask, distance, said, grid_of, rules_in}

-- ---- a column

abbrev pub column_after_type : List Column → ℕ → ColumnType → Reading Column
column_after_type earlier n column_type = do
  text ← field name (fresh_column_name earlier)
  done (record { number = n; name = text; column_type = column_type })

abbrev pub column_after_number : List Column → ℕ → Reading Column
column_after_number earlier n = do
  column_type ← field (number 1) (λ byte. present (type_of_byte byte) WrongValue)
  column_after_type earlier n column_type

-- ---- a value

abbrev pub decimal_after_mantissa : ℤ → Reading Number
decimal_after_mantissa mantissa = do
  places ← number 1
  done (record { mantissa = mantissa; places = places })

abbrev pub date_after_month : ℕ → ℕ → Reading Day
date_after_month year month = do
  day ← number 1
  done (record { year = year; month = month; day = day })

abbrev pub date_after_year : ℕ → Reading Day
date_after_year year = do
  month ← number 1
  date_after_month year month

abbrev pub moment_after_date : Day → Reading Moment
moment_after_date day = do
  millisecond ← number 4
  done (record { date = day; millisecond = millisecond })

abbrev pub value_after_column : Column → Reading (ℕ × AttrValue)
value_after_column column = do
  content ← typed_value column.column_type
  done (column.number, content)

-- ---- a feature

abbrev pub geometry_after_size : RowReading → LayerKind → ℕ → Reading Geometry
geometry_after_size row kind size = field (bytes size) (λ text. admitted kind (row text))

abbrev pub feature_after_count : List Column → ℕ → Geometry → ℕ → Reading (ℕ × FeatureContent)
feature_after_count columns id shape count = do
  values ← items (value columns) count []
  done (id, record { geometry = shape; values = values })

abbrev pub feature_after_geometry : List Column → ℕ → Geometry → Reading (ℕ × FeatureContent)
feature_after_geometry columns id shape = do
  count ← field (number 2) (λ n. allowed (nat_le n (length columns)) NoColumn n)
  feature_after_count columns id shape count

abbrev pub feature_after_id : RowReading → LayerKind → List Column → ℕ → Reading (ℕ × FeatureContent)
feature_after_id row kind columns id = do
  shape ← geometry row kind
  feature_after_geometry columns id shape

-- ---- a layer

abbrev pub layer_after_feature_count : RowReading → List ℕ → LayerKind → ℕ → ℕ → List Column → ℕ → Reading (List ℕ × LayerContent)
layer_after_feature_count row title kind next_id next_column columns count = do
  features ← items (feature row kind next_id columns) count []
  done (title, record { kind = kind; next_id = next_id; next_column = next_column; columns = columns; features = features })

abbrev pub layer_after_columns : RowReading → List ℕ → LayerKind → ℕ → ℕ → List Column → Reading (List ℕ × LayerContent)
layer_after_columns row title kind next_id next_column columns = do
  count ← field (number 4) (λ n. allowed (nat_lt n next_id) IdsExhausted n)
  layer_after_feature_count row title kind next_id next_column columns count

abbrev pub layer_after_column_count : RowReading → List ℕ → LayerKind → ℕ → ℕ → ℕ → Reading (List ℕ × LayerContent)
layer_after_column_count row title kind next_id next_column count = do
  columns ← items (column next_column) count []
  layer_after_columns row title kind next_id next_column columns

abbrev pub layer_after_next_column : RowReading → List ℕ → LayerKind → ℕ → ℕ → Reading (List ℕ × LayerContent)
layer_after_next_column row title kind next_id next_column = do
  count ← field (number 2) (λ n. allowed (nat_lt n next_column) ColumnsExhausted n)
  layer_after_column_count row title kind next_id next_column count

abbrev pub layer_after_next_id : RowReading → List ℕ → LayerKind → ℕ → Reading (List ℕ × LayerContent)
layer_after_next_id row title kind next_id = do
  next_column ← field (number 2) (λ n. allowed (nat_lt 0 n) ColumnsExhausted n)
  layer_after_next_column row title kind next_id next_column

abbrev pub layer_after_kind : RowReading → List ℕ → LayerKind → Reading (List ℕ × LayerContent)
layer_after_kind row title kind = do
  next_id ← field (number 4) (λ n. allowed (nat_lt 0 n) IdsExhausted n)
  layer_after_next_id row title kind next_id

abbrev pub layer_after_name : RowReading → List ℕ → Reading (List ℕ × LayerContent)
layer_after_name row title = do
  kind ← field (number 1) (λ byte. present (kind_of_byte byte) WrongKind)
  layer_after_kind row title kind

-- ---- a rule

abbrev pub said_after_ask : Content → Form → List ℕ → PairAsk → Reading Says
said_after_ask content form first asked = do
  second ← field name (known_layer_name content)
  done (OfLayers (record { form = form; first = first; ask = asked; second = second }))

abbrev pub said_after_first : Content → Form → List ℕ → Reading Says
said_after_first content form first = do
  asked ← ask
  said_after_ask content form first (Matrix asked)

abbrev pub said_after_near : Content → Form → List ℕ → Reading Says
said_after_near content form first = do
  reach ← distance
  said_after_ask content form first (Near reach)

abbrev pub range_after_from : ColumnType → RangeEnds → Option AttrValue → Reading ValueRange
range_after_from column_type ends from = do
  to ← end_value column_type ends.to
  done (record { from = from; to = to })

abbrev pub range_after_ends : ColumnType → RangeEnds → Reading ValueRange
range_after_ends column_type ends = do
  from ← end_value column_type ends.from
  range_after_from column_type ends from

abbrev pub values_after_count : ColumnType → ℕ → Reading (List AttrValue)
values_after_count column_type count = items (λ earlier. named_value column_type) count []

abbrev pub said_after_column : DemandForm → List ℕ → List ℕ × ColumnType → Reading Says
said_after_column form layer column = do
  demand ← demanded column.1 form
  done (OfValues (record { demand = demand; layer = layer; column = column.0 }))

abbrev pub said_after_layer : Content → DemandForm → List ℕ → Reading Says
said_after_layer content form layer = do
  column ← field name (known_column content layer)
  said_after_column form layer column

abbrev pub rule_after_form : Content → List ℕ → RuleForm → Reading Rule
rule_after_form content title form = do
  says ← said content form
  done (record { name = title; says = says })

abbrev pub rule_after_name : Version → Content → List ℕ → Reading Rule
rule_after_name version content title = do
  form ← field (number 1) (λ byte. present (form_of_byte version byte) BadFile)
  rule_after_form content title form

-- ---- a file

abbrev pub file_after_rules : Content → List Rule → Reading Ruled
file_after_rules content kept = do
  ended ← end
  done (record { content = content; rules = kept })

abbrev pub file_after_layers : Version → Content → Reading Ruled
file_after_layers version content = do
  kept ← rules_in version content
  file_after_rules content kept

abbrev pub file_after_head : Version → Reading Ruled
file_after_head version = do
  content ← layers (read_in (grid_of version))
  file_after_layers version content
