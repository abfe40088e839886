-- Where a file is refused for a fault of shape it has a geometry with that fault at the place that is told: what each
-- reading of the format keeps of the place of what is left, and which faults it finds.
use Rattle.std.proofs.Common.{nat_lt, ◌≡◌, ℕ, zero, suc, ◌+◌, Bool, true, false, cond, ltb, ◌&&◌, not, List, [], ◌∷◌, ◌++◌, length, take, drop, Option, None, Some, Result, Ok, Err, IfErr, IfOk, codes, option_map, refl, sym, ap, subst, ◌∙◌, bytes_eq, nat_eq}
use Rattle.std.specs.Prelude.{is_some, nat_lt, nat_le}
use Rattle.std.specs.Int.{w64, cast_signed}
use Rattle.std.proofs.lemmas.List.{drop-drop}
use Rattle.byteorder.specs.Endian.{big_number}
use Rattle.sf_geometry.specs.declared.geometry.Geometry.{Geometry}
use Rattle.sf_geometry.specs.Kinds.{kind_of}
use Rattle.sf_geometry.specs.Parts.{LiesOnGrid}
use Rattle.sf_geometry.specs.Size.{IsSized}
use Rattle.sf_valid_rules.specs.declared.fault.Fault.{Fault as ShapeFault}
use Rattle.sf_valid_rules.specs.Validity.{IsFirstFault, IsVerdict}
use Rattle.sf_valid_rules.specs.Verdicts.{first_fault}
use Rattle.sf_valid_rules.proofs.FirstLaws.{first_fault-over_plane}
use Rattle.sf_wkb.specs.declared.fault.WkbFault.{WkbFault}
use Rattle.sf_wkb.specs.declared.fault.WkbFault.TheVariants as binaries
use Rattle.sf_wkb.specs.Grammar.{read_in}
use Rattle.sf_wkb.proofs.Sized.{read_is_sized}
use Rattle.sf_known.specs.Patterns.{pattern_of}
use Rattle.sf_ruled_store.specs.Ruling.{Form, Matching, Matrix, Named, Near, PairAsk}
use Rattle.sf_distance.specs.Reaches.{reach_limit}
use Rattle.sf_ruled_store.specs.Ruling.{Rule, Says, OfLayers, OfValues}
use Rattle.sf_ruled_store.specs.Ruling.{Demand, InRange, OneOf, Required, Unique}
use Rattle.sf_ruled_store.specs.Ruling.{break_of}
use Rattle.sf_ruled_store.specs.Ruled.{Ruled, has_rule}
use Rattle.sf_features.specs.declared.column.Column.{Column}
use Rattle.sf_features.specs.declared.column_type.ColumnType.{ColumnType}
use Rattle.sf_features.specs.declared.column_type.ColumnType.TheVariants as types
use Rattle.sf_features.specs.declared.attr_value.AttrValue.{AttrValue}
use Rattle.sf_features.specs.declared.attr_value.AttrValue.TheVariants as values
use Rattle.sf_features.specs.Names.{is_name}
use Rattle.sf_features.specs.Features.{FeatureContent}
use Rattle.sf_dates.specs.declared.day.Day.{Day}
use Rattle.sf_dates.specs.declared.moment.Moment.{Moment}
use Rattle.sf_decimals.specs.declared.number.Number.{Number}
use Rattle.sf_features.specs.Values.{is_attr_text, is_of_type}
use Rattle.sf_layers.specs.declared.layer_kind.LayerKind.{LayerKind}
use Rattle.sf_layers.specs.Content.{Content, LayerContent, admits, has_layer, layer_of}
use Rattle.sf_layers.specs.Found.{are_apart}
use Rattle.sf_layers.specs.WellFormed.{layers_max}
use Rattle.sf_layers.specs.declared.value_range.ValueRange.{ValueRange}
use Rattle.sf_streams.specs.Streams.{Left}
use Rattle.sf_format.specs.declared.rule_form.DemandForm.{DemandForm}
use Rattle.sf_format.specs.declared.rule_form.DemandForm.TheVariants as forms
use Rattle.sf_format.specs.declared.rule_form.RuleForm.{RuleForm}
use Rattle.sf_format.specs.declared.rule_form.RuleForm.TheVariants.{Between, ByDistance, OnValues}
use Rattle.sf_format.specs.declared.version.Version.{Version}
use Rattle.sf_format.specs.declared.version.Version.TheVariants.{First, Second, Third, Fourth}
use Rattle.sf_format.specs.declared.defect.Defect.{Defect}
use Rattle.sf_format.specs.declared.defect.Defect.TheVariants.{Truncated, TooManyVertices, Invalid, LayerExists, BadName, NoColumn, ColumnExists, WrongValue, WrongKind, IdsExhausted, ColumnsExhausted, BadFile, NoLayer, RuleExists, BadPattern, RuleBroken}
use Rattle.sf_format.specs.Readings.{Reads, Reading, and_then, ◌>>=◌, done, bytes, judged, field, number, sized, items, end}
use Rattle.sf_format.specs.Laws.{FilesAreJudgedOverThePlane, HasFaultyGeometry}
use Rattle.sf_format.specs.Format.{RowReading, row_max, allowed, allowed_range, allowed_values, any_value, demanded, distance, end_value, ends_of_byte, fraction_in, named_value, own_value, present, range_parts, type_in, values_max, last_number, name, kind_of_byte, type_of_byte, fresh_number, fresh_column_name, column, without_fault, admitted, geometry, signed_number, decimal_parts, decimal_in, bool_of_byte, date_parts, day_in, moment_parts, moment_in, typed_value, next_column_of, value, next_of, feature, fresh_layer_name, layer, layers, ask, asked_by, form_of_byte, fresh_rule_name, held_rule, known_column, known_layer_name, predicate_of_byte, rule, rules_in, said, unbroken, head, version_of, on_grid, grid_of, value_of, rules}
use Rattle.sf_format.proofs.Again.{at}
use Rattle.sf_format.proofs.Continuations.{decimal_after_mantissa, date_after_month, date_after_year, moment_after_date, column_after_type, column_after_number, value_after_column, geometry_after_size, feature_after_count, feature_after_geometry, feature_after_id, layer_after_feature_count, layer_after_columns, layer_after_column_count, layer_after_next_column, layer_after_next_id, layer_after_kind, layer_after_name, range_after_ends, range_after_from, rule_after_form, rule_after_name, said_after_ask, said_after_column, said_after_first, said_after_near, said_after_layer, values_after_count, file_after_head, file_after_layers, file_after_rules}
use Rattle.sf_format.proofs.Loaded.{GivesSized}

-- what is left of a text is what stands behind its place
abbrev IsOf : List ℕ → Left → Type 0
IsOf text left = left.bytes ≡ drop left.place text

-- a geometry stands at the place, read so, and this is its first fault
record Faulty (row : RowReading) (text : List ℕ) (place : ℕ) (fault : ShapeFault) : Type 0 where
  size : ℕ
  geometry : Geometry
  is_there : row (take size (drop place text)) ≡ Ok geometry
  first : IsFirstFault geometry fault

-- a defect of another kind
abbrev IsOther : Defect → Type 0
IsOther defect = (fault : ShapeFault) → defect ≡ Invalid fault → ⊥

-- of what was read of a text: what is left is of it, and a fault of shape is that of a geometry at its place
abbrev Fits : {T : Type 0} → RowReading → List ℕ → Reads T → Type 0
Fits row text (Ok x) = IsOf text x.1
Fits row text (Err found) = (fault : ShapeFault) → found.defect ≡ Invalid fault → Faulty row text found.place fault

abbrev Finds : {T : Type 0} → RowReading → List ℕ → Reading T → Type 0
Finds row text read = (left : Left) → IsOf text left → Fits row text (read left)

-- ---- readings made of others

Fits-then : {A B : Type 0} (row : RowReading) (text : List ℕ) (r : Reads A) (next : A → Reading B) → Fits row text r → ((x : A) → Finds row text (next x)) → Fits row text (and_then r next)
Fits-then row text (Ok x) next fits finds = finds x.0 x.1 fits
Fits-then row text (Err found) next fits finds = fits

Finds-then : {A B : Type 0} (row : RowReading) (text : List ℕ) (read : Reading A) (next : A → Reading B) → Finds row text read → ((x : A) → Finds row text (next x)) → Finds row text (read >>= next)
Finds-then row text read next first second left is = Fits-then row text (read left) next (first left is) second

Finds-done : {T : Type 0} (row : RowReading) (text : List ℕ) (x : T) → Finds row text (done x)
Finds-done row text x left is = is

Fits-judged : {B : Type 0} (row : RowReading) (text : List ℕ) (place : ℕ) (rest : Left) (r : Result B Defect) → IsOf text rest → IfErr r IsOther → Fits row text (judged place rest r)
Fits-judged row text place rest (Ok value) is others = is
Fits-judged row text place rest (Err defect) is others = λ fault same. absurd (others fault same)

Finds-field : {A B : Type 0} (row : RowReading) (text : List ℕ) (read : Reading A) (rule : A → Result B Defect) → Finds row text read → ((x : A) → IfErr (rule x) IsOther) → Finds row text (field read rule)
Finds-field row text read rule first others left is =
    Fits-then row text (read left) (λ value rest. judged left.place rest (rule value)) (first left is) (λ x rest is. Fits-judged row text left.place rest (rule x) is (others x))

-- so many bytes further
further : (text : List ℕ) (count : ℕ) (left : Left) → IsOf text left → drop count left.bytes ≡ drop (left.place + count) text
further text count left is = ap (drop count) is ∙ drop-drop count left.place text

Finds-bytes : (row : RowReading) (text : List ℕ) (count : ℕ) → Finds row text (bytes count)
Finds-bytes row text count left is = by_test (ltb (length left.bytes) count)
  where
    by_test : (b : Bool) → Fits {T = List ℕ} row text (cond b (Err (record { place = left.place + length left.bytes; defect = Truncated }))
        (Ok (take count left.bytes, record { place = left.place + count; bytes = drop count left.bytes })))
    by_test true = λ fault same. absurd cc
    by_test false = further text count left is

Finds-number : (row : RowReading) (text : List ℕ) (count : ℕ) → Finds row text (number count)
Finds-number row text count = Finds-then row text (bytes count) (λ digits. done (big_number count digits)) (Finds-bytes row text count) (λ digits. Finds-done row text (big_number count digits))

Finds-rule : {B : Type 0} (row : RowReading) (text : List ℕ) (count : ℕ) (rule : ℕ → Result B Defect) → ((n : ℕ) → IfErr (rule n) IsOther) → Finds row text (field (number count) rule)
Finds-rule row text count rule others = Finds-field row text (number count) rule (Finds-number row text count) others

Finds-sized : (row : RowReading) (text : List ℕ) (count : ℕ) (rule : ℕ → Result ℕ Defect) → ((n : ℕ) → IfErr (rule n) IsOther) → Finds row text (sized count rule)
Finds-sized row text count rule others = Finds-then row text (field (number count) rule) bytes (Finds-rule row text count rule others) (λ size. Finds-bytes row text size)

Finds-items : {X : Type 0} (row : RowReading) (text : List ℕ) (item : List X → Reading X) → ((earlier : List X) → Finds row text (item earlier)) → (count : ℕ) (earlier : List X) → Finds row text (items item count earlier)
Finds-items row text item each zero earlier = Finds-done row text earlier
Finds-items row text item each (suc count) earlier =
    Finds-then row text (item earlier) (λ x. items item count (earlier ++ x ∷ [])) (each earlier) (λ x. Finds-items row text item each count (earlier ++ x ∷ []))

-- ---- rules that find no fault of shape

allowed_other : {T : Type 0} (test : Bool) (defect : Defect) (x : T) → IsOther defect → IfErr (allowed test defect x) IsOther
allowed_other true defect x other = tt
allowed_other false defect x other = other

present_other : {T : Type 0} (o : Option T) (defect : Defect) → IsOther defect → IfErr (present o defect) IsOther
present_other None defect other = other
present_other (Some x) defect other = tt

bad_name : IsOther BadName
bad_name fault same = cc

column_exists : IsOther ColumnExists
column_exists fault same = cc

layer_exists : IsOther LayerExists
layer_exists fault same = cc

no_column : IsOther NoColumn
no_column fault same = cc

wrong_value : IsOther WrongValue
wrong_value fault same = cc

wrong_kind : IsOther WrongKind
wrong_kind fault same = cc

ids_exhausted : IsOther IdsExhausted
ids_exhausted fault same = cc

columns_exhausted : IsOther ColumnsExhausted
columns_exhausted fault same = cc

too_many : IsOther TooManyVertices
too_many fault same = cc

-- ---- names, columns, values

Finds-name : (row : RowReading) (text : List ℕ) → Finds row text name
Finds-name row text = Finds-field row text _ _
    (Finds-sized row text 1 _ (λ size. allowed_other (nat_le 1 size && nat_le size 32) BadName size bad_name))
    (λ word. allowed_other (is_name word) BadName word bad_name)

Finds-column : (row : RowReading) (text : List ℕ) (next : ℕ) (earlier : List Column) → Finds row text (column next earlier)
Finds-column row text next earlier =
    Finds-then row text (field (number 2) (fresh_number next earlier)) (column_after_number earlier)
    (Finds-rule row text 2 (fresh_number next earlier) (λ n. allowed_other _ ColumnsExhausted n columns_exhausted))
    (λ n. Finds-then row text (field (number 1) (λ byte. present (type_of_byte byte) WrongValue)) (column_after_type earlier n)
    (Finds-rule row text 1 _ (λ byte. present_other (type_of_byte byte) WrongValue wrong_value))
    (λ t. Finds-then row text (field name (fresh_column_name earlier)) (λ title. done (record { number = n; name = title; column_type = t }))
    (Finds-field row text name (fresh_column_name earlier) (Finds-name row text) (λ title. allowed_other _ ColumnExists title column_exists))
    (λ title. Finds-done {T = Column} row text (record { number = n; name = title; column_type = t }))))

Finds-date : (row : RowReading) (text : List ℕ) → Finds row text date_parts
Finds-date row text = Finds-then row text (number 2) date_after_year (Finds-number row text 2)
    (λ year. Finds-then row text (number 1) (date_after_month year) (Finds-number row text 1)
    (λ month. Finds-then row text (number 1) (λ day. done (record { year = year; month = month; day = day })) (Finds-number row text 1)
    (λ day. Finds-done {T = Day} row text (record { year = year; month = month; day = day }))))

Finds-decimal : (row : RowReading) (text : List ℕ) → Finds row text decimal_parts
Finds-decimal row text = Finds-then row text signed_number decimal_after_mantissa
    (Finds-then row text (number 8) (λ n. done (cast_signed w64 n)) (Finds-number row text 8) (λ n. Finds-done row text (cast_signed w64 n)))
    (λ m. Finds-then row text (number 1) (λ places. done (record { mantissa = m; places = places })) (Finds-number row text 1)
    (λ places. Finds-done {T = Number} row text (record { mantissa = m; places = places })))

Finds-typed : (row : RowReading) (text : List ℕ) (t : ColumnType) → Finds row text (typed_value t)
Finds-typed row text types.Int = Finds-then row text (number 8) (λ n. done (values.Int (cast_signed w64 n))) (Finds-number row text 8) (λ n. Finds-done row text (values.Int (cast_signed w64 n)))
Finds-typed row text types.Text = Finds-field row text _ _
    (Finds-then row text (number 2) bytes (Finds-number row text 2) (λ size. Finds-bytes row text size))
    (λ word. allowed_other (is_attr_text word) WrongValue (values.Text word) wrong_value)
Finds-typed row text types.Decimal = Finds-field row text decimal_parts (λ parts. present (decimal_in parts) WrongValue) (Finds-decimal row text)
    (λ parts. present_other (decimal_in parts) WrongValue wrong_value)
Finds-typed row text types.Bool = Finds-rule row text 1 (λ byte. present (bool_of_byte byte) WrongValue) (λ byte. present_other (bool_of_byte byte) WrongValue wrong_value)
Finds-typed row text types.Date = Finds-field row text date_parts (λ parts. present (day_in parts) WrongValue) (Finds-date row text) (λ parts. present_other (day_in parts) WrongValue wrong_value)
Finds-typed row text types.DateTime = Finds-field row text moment_parts (λ parts. present (moment_in parts) WrongValue)
    (Finds-then row text date_parts moment_after_date (Finds-date row text)
    (λ day. Finds-then row text (number 4) (λ n. done (record { date = day; millisecond = n })) (Finds-number row text 4)
    (λ n. Finds-done {T = Moment} row text (record { date = day; millisecond = n }))))
    (λ parts. present_other (moment_in parts) WrongValue wrong_value)

Finds-value : (row : RowReading) (text : List ℕ) (columns : List Column) (earlier : List (ℕ × AttrValue)) → Finds row text (value columns earlier)
Finds-value row text columns earlier =
    Finds-then row text (field (number 2) (next_column_of columns (last_number earlier))) value_after_column
    (Finds-rule row text 2 (next_column_of columns (last_number earlier)) (λ n. present_other _ NoColumn no_column))
    (λ c. Finds-then row text (typed_value c.column_type) (λ content. done (c.number, content)) (Finds-typed row text c.column_type) (λ content. Finds-done {T = ℕ × AttrValue} row text (c.number, content)))

-- ---- a geometry

-- what a reading gave of a geometry's bytes, which stand at the place
Fits-admitted : (row : RowReading) (text : List ℕ) (kind : LayerKind) (place size : ℕ) (rest : Left) (r : Result Geometry WkbFault) → row (take size (drop place text)) ≡ r
    → IfOk r (λ g. IsSized g × LiesOnGrid g) → IsOf text rest → Fits row text (judged place rest (admitted kind r))
Fits-admitted row text kind place size rest (Err wkb) is_there sized is = λ fault same. absurd cc
Fits-admitted row text kind place size rest (Ok shape) is_there sized is = by_kind (admits kind (kind_of shape))
  where
    by_verdict : (verdict : Option ShapeFault) → IsVerdict shape verdict → Fits row text (judged place rest (without_fault shape verdict))
    by_verdict None valid = is
    by_verdict (Some first) faulty = λ fault same.
        let one : first ≡ fault = cc in
        record { size = size; geometry = shape; is_there = is_there; first = subst (IsFirstFault shape) one faulty }

    by_kind : (b : Bool) → Fits row text (judged place rest (cond b (without_fault shape (first_fault shape)) (Err WrongKind)))
    by_kind true = by_verdict (first_fault shape) (first_fault-over_plane shape sized.0)
    by_kind false = λ fault same. absurd cc

Finds-row : (row : RowReading) (text : List ℕ) → GivesSized row → (kind : LayerKind) (size : ℕ) → Finds row text (geometry_after_size row kind size)
Finds-row row text sized kind size left is = by_test (ltb (length left.bytes) size)
  where
    by_test : (b : Bool) → Fits {T = Geometry} row text (and_then (cond b (Err (record { place = left.place + length left.bytes; defect = Truncated }))
        (Ok (take size left.bytes, record { place = left.place + size; bytes = drop size left.bytes }))) (λ word rest. judged left.place rest (admitted kind (row word))))
    by_test true = λ fault same. absurd cc
    by_test false = Fits-admitted row text kind left.place size (record { place = left.place + size; bytes = drop size left.bytes }) (row (take size left.bytes))
        (ap (λ bs. row (take size bs)) (sym is)) (sized (take size left.bytes)) (further text size left is)

Finds-geometry : (row : RowReading) (text : List ℕ) → GivesSized row → (kind : LayerKind) → Finds row text (geometry row kind)
Finds-geometry row text sized kind =
    Finds-then row text (field (number 4) (λ size. allowed (nat_le size row_max) TooManyVertices size)) (geometry_after_size row kind)
    (Finds-rule row text 4 _ (λ size. allowed_other (nat_le size row_max) TooManyVertices size too_many)) (Finds-row row text sized kind)

-- ---- features and layers

Finds-feature : (row : RowReading) (text : List ℕ) → GivesSized row → (kind : LayerKind) (next_id : ℕ) (columns : List Column) (earlier : List (ℕ × FeatureContent))
    → Finds row text (feature row kind next_id columns earlier)
Finds-feature row text sized kind next_id columns earlier =
    Finds-then row text (field (number 4) (next_of next_id (last_number earlier))) (feature_after_id row kind columns)
    (Finds-rule row text 4 (next_of next_id (last_number earlier)) (λ n. allowed_other _ IdsExhausted n ids_exhausted))
    (λ id. Finds-then row text (geometry row kind) (feature_after_geometry columns id) (Finds-geometry row text sized kind)
    (λ shape. Finds-then row text (field (number 2) (λ n. allowed (nat_le n (length columns)) NoColumn n)) (feature_after_count columns id shape)
    (Finds-rule row text 2 _ (λ n. allowed_other (nat_le n (length columns)) NoColumn n no_column))
    (λ count. Finds-then row text (items (value columns) count []) (λ found. done (id, record { geometry = shape; values = found }))
    (Finds-items row text (value columns) (Finds-value row text columns) count []) (λ found. Finds-done {T = ℕ × FeatureContent} row text (id, record { geometry = shape; values = found })))))

Finds-layer : (row : RowReading) (text : List ℕ) → GivesSized row → (earlier : Content) → Finds row text (layer row earlier)
Finds-layer row text sized earlier =
    Finds-then row text (field name (fresh_layer_name earlier)) (layer_after_name row)
    (Finds-field row text name (fresh_layer_name earlier) (Finds-name row text) (λ title. allowed_other _ LayerExists title layer_exists))
    (λ title. Finds-then row text (field (number 1) (λ byte. present (kind_of_byte byte) WrongKind)) (layer_after_kind row title)
    (Finds-rule row text 1 _ (λ byte. present_other (kind_of_byte byte) WrongKind wrong_kind))
    (λ kind. Finds-then row text (field (number 4) (λ n. allowed (nat_lt 0 n) IdsExhausted n)) (layer_after_next_id row title kind)
    (Finds-rule row text 4 _ (λ n. allowed_other (nat_lt 0 n) IdsExhausted n ids_exhausted))
    (λ next_id. Finds-then row text (field (number 2) (λ n. allowed (nat_lt 0 n) ColumnsExhausted n)) (layer_after_next_column row title kind next_id)
    (Finds-rule row text 2 _ (λ n. allowed_other (nat_lt 0 n) ColumnsExhausted n columns_exhausted))
    (λ next_column. Finds-then row text (field (number 2) (λ n. allowed (nat_lt n next_column) ColumnsExhausted n)) (layer_after_column_count row title kind next_id next_column)
    (Finds-rule row text 2 _ (λ n. allowed_other (nat_lt n next_column) ColumnsExhausted n columns_exhausted))
    (λ column_count. Finds-then row text (items (column next_column) column_count []) (layer_after_columns row title kind next_id next_column)
    (Finds-items row text (column next_column) (Finds-column row text next_column) column_count [])
    (λ columns. Finds-then row text (field (number 4) (λ n. allowed (nat_lt n next_id) IdsExhausted n)) (layer_after_feature_count row title kind next_id next_column columns)
    (Finds-rule row text 4 _ (λ n. allowed_other (nat_lt n next_id) IdsExhausted n ids_exhausted))
    (λ count. Finds-then row text (items (feature row kind next_id columns) count [])
    (λ features. done (title, record { kind = kind; next_id = next_id; next_column = next_column; columns = columns; features = features }))
    (Finds-items row text (feature row kind next_id columns) (Finds-feature row text sized kind next_id columns) count [])
    (λ features. Finds-done {T = List ℕ × LayerContent} row text (title, record { kind = kind; next_id = next_id; next_column = next_column; columns = columns; features = features })))))))))

Finds-layers : (row : RowReading) (text : List ℕ) → GivesSized row → Finds row text (layers row)
Finds-layers row text sized =
    Finds-then row text (field (number 4) (λ n. allowed (nat_le n layers_max) IdsExhausted n)) (λ count. items (layer row) count [])
    (Finds-rule row text 4 _ (λ n. allowed_other (nat_le n layers_max) IdsExhausted n ids_exhausted))
    (λ count. Finds-items row text (layer row) (Finds-layer row text sized) count [])

-- ---- rules

bad_file : IsOther BadFile
bad_file fault same = cc

no_layer : IsOther NoLayer
no_layer fault same = cc

rule_exists : IsOther RuleExists
rule_exists fault same = cc

bad_pattern : IsOther BadPattern
bad_pattern fault same = cc

rule_broken : IsOther RuleBroken
rule_broken fault same = cc

Finds-asked : (row : RowReading) (text : List ℕ) (n : ℕ) → Finds row text (asked_by n)
Finds-asked row text zero = Finds-then row text (bytes 9) (λ word. done (option_map Matching (pattern_of word))) (Finds-bytes row text 9)
    (λ word. Finds-done row text (option_map Matching (pattern_of word)))
Finds-asked row text (suc n) = Finds-done row text (option_map Named (predicate_of_byte (suc n)))

Finds-ask : (row : RowReading) (text : List ℕ) → Finds row text ask
Finds-ask row text = Finds-field row text (number 1 >>= asked_by) (λ found. present found BadPattern)
    (Finds-then row text (number 1) asked_by (Finds-number row text 1) (Finds-asked row text)) (λ found. present_other found BadPattern bad_pattern)

Finds-known : (row : RowReading) (text : List ℕ) (content : Content) → Finds row text (field name (known_layer_name content))
Finds-known row text content = Finds-field row text name (known_layer_name content) (Finds-name row text) (λ title. allowed_other (has_layer content title) NoLayer title no_layer)

Finds-column_known : (row : RowReading) (text : List ℕ) (content : Content) (layer : List ℕ) → Finds row text (field name (known_column content layer))
Finds-column_known row text content layer = Finds-field row text name (known_column content layer) (Finds-name row text)
    (λ title. present_other (option_map (λ column_type. (title, column_type)) (type_in (layer_of content layer) title)) NoColumn no_column)

Finds-own : (row : RowReading) (text : List ℕ) (t : ColumnType) → Finds row text (own_value t)
Finds-own row text types.Int = Finds-typed row text types.Int
Finds-own row text types.Text = Finds-typed row text types.Text
Finds-own row text types.Decimal = Finds-field row text decimal_parts (λ parts. present (fraction_in parts) WrongValue) (Finds-decimal row text) (λ parts. present_other (fraction_in parts) WrongValue wrong_value)
Finds-own row text types.Bool = Finds-typed row text types.Bool
Finds-own row text types.Date = Finds-typed row text types.Date
Finds-own row text types.DateTime = Finds-typed row text types.DateTime

Finds-named : (row : RowReading) (text : List ℕ) (t : ColumnType) → Finds row text (named_value t)
Finds-named row text t = Finds-field row text any_value (λ value. allowed (is_of_type t value) WrongValue value)
    (Finds-then row text (field (number 1) (λ byte. present (type_of_byte byte) WrongValue)) own_value
    (Finds-rule row text 1 (λ byte. present (type_of_byte byte) WrongValue) (λ byte. present_other (type_of_byte byte) WrongValue wrong_value))
    (Finds-own row text))
    (λ value. allowed_other (is_of_type t value) WrongValue value wrong_value)

Finds-end_value : (row : RowReading) (text : List ℕ) (t : ColumnType) (given : Bool) → Finds row text (end_value t given)
Finds-end_value row text t false = Finds-done {T = Option AttrValue} row text None
Finds-end_value row text t true = Finds-then row text (named_value t) (λ value. done (Some value)) (Finds-named row text t) (λ value. Finds-done {T = Option AttrValue} row text (Some value))

Finds-range : (row : RowReading) (text : List ℕ) (t : ColumnType) → Finds row text (allowed_range t)
Finds-range row text t = Finds-field row text (range_parts t) (λ range. allowed (not (are_apart range.from range.to)) WrongValue range)
    (Finds-then row text (field (number 1) (λ byte. present (ends_of_byte byte) BadFile)) (range_after_ends t)
    (Finds-rule row text 1 (λ byte. present (ends_of_byte byte) BadFile) (λ byte. present_other (ends_of_byte byte) BadFile bad_file))
    (λ ends. Finds-then row text (end_value t ends.from) (range_after_from t ends) (Finds-end_value row text t ends.from)
    (λ from. Finds-then row text (end_value t ends.to) (λ to. done (record { from = from; to = to })) (Finds-end_value row text t ends.to)
    (λ to. Finds-done {T = ValueRange} row text (record { from = from; to = to })))))
    (λ range. allowed_other (not (are_apart range.from range.to)) WrongValue range wrong_value)

Finds-values : (row : RowReading) (text : List ℕ) (t : ColumnType) → Finds row text (allowed_values t)
Finds-values row text t = Finds-then row text (field (number 2) (λ n. allowed (nat_lt 0 n && nat_le n values_max) WrongValue n)) (values_after_count t)
    (Finds-rule row text 2 (λ n. allowed (nat_lt 0 n && nat_le n values_max) WrongValue n) (λ n. allowed_other (nat_lt 0 n && nat_le n values_max) WrongValue n wrong_value))
    (λ count. Finds-items row text (λ earlier. named_value t) (λ earlier. Finds-named row text t) count [])

Finds-demanded : (row : RowReading) (text : List ℕ) (t : ColumnType) (form : DemandForm) → Finds row text (demanded t form)
Finds-demanded row text t forms.Unique = Finds-done {T = Demand} row text Unique
Finds-demanded row text t forms.Required = Finds-done {T = Demand} row text Required
Finds-demanded row text t forms.OneOf = Finds-then row text (allowed_values t) (λ vs. done (OneOf vs)) (Finds-values row text t) (λ vs. Finds-done {T = Demand} row text (OneOf vs))
Finds-demanded row text t forms.InRange = Finds-then row text (allowed_range t) (λ range. done (InRange range)) (Finds-range row text t) (λ range. Finds-done {T = Demand} row text (InRange range))

Finds-second : (row : RowReading) (text : List ℕ) (content : Content) (form : Form) (first : List ℕ) (asked : PairAsk) → Finds row text (said_after_ask content form first asked)
Finds-second row text content form first asked =
    Finds-then row text (field name (known_layer_name content)) (λ second. done (OfLayers (record { form = form; first = first; ask = asked; second = second })))
    (Finds-known row text content) (λ second. Finds-done {T = Says} row text (OfLayers (record { form = form; first = first; ask = asked; second = second })))

Finds-said : (row : RowReading) (text : List ℕ) (content : Content) (form : RuleForm) → Finds row text (said content form)
Finds-said row text content (Between form) =
    Finds-then row text (field name (known_layer_name content)) (said_after_first content form) (Finds-known row text content)
    (λ first. Finds-then row text ask (λ asked. said_after_ask content form first (Matrix asked)) (Finds-ask row text)
    (λ asked. Finds-second row text content form first (Matrix asked)))
Finds-said row text content (ByDistance form) =
    Finds-then row text (field name (known_layer_name content)) (said_after_near content form) (Finds-known row text content)
    (λ first. Finds-then row text distance (λ reach. said_after_ask content form first (Near reach))
    (Finds-rule row text 8 (λ n. allowed (nat_lt n reach_limit) BadFile n) (λ n. allowed_other (nat_lt n reach_limit) BadFile n bad_file))
    (λ reach. Finds-second row text content form first (Near reach)))
Finds-said row text content (OnValues form) =
    Finds-then row text (field name (known_layer_name content)) (said_after_layer content form) (Finds-known row text content)
    (λ layer. Finds-then row text (field name (known_column content layer)) (said_after_column form layer) (Finds-column_known row text content layer)
    (λ column. Finds-then row text (demanded column.1 form) (λ demand. done (OfValues (record { demand = demand; layer = layer; column = column.0 }))) (Finds-demanded row text column.1 form)
    (λ demand. Finds-done {T = Says} row text (OfValues (record { demand = demand; layer = layer; column = column.0 })))))

Finds-kept : (row : RowReading) (text : List ℕ) (version : Version) (content : Content) (earlier : List Rule) → Finds row text (rule version content earlier)
Finds-kept row text version content earlier =
    Finds-then row text (field name (fresh_rule_name earlier)) (rule_after_name version content)
    (Finds-field row text name (fresh_rule_name earlier) (Finds-name row text) (λ title. allowed_other (not (has_rule title earlier)) RuleExists title rule_exists))
    (λ title. Finds-then row text (field (number 1) (λ byte. present (form_of_byte version byte) BadFile)) (rule_after_form content title)
    (Finds-rule row text 1 _ (λ byte. present_other (form_of_byte version byte) BadFile bad_file))
    (λ form. Finds-then row text (said content form) (λ says. done (record { name = title; says = says })) (Finds-said row text content form)
    (λ says. Finds-done {T = Rule} row text (record { name = title; says = says }))))

Finds-held : (row : RowReading) (text : List ℕ) (version : Version) (content : Content) (earlier : List Rule) → Finds row text (held_rule version content earlier)
Finds-held row text version content earlier = Finds-field row text (rule version content earlier) (unbroken content) (Finds-kept row text version content earlier)
    (λ r. allowed_other (not (is_some (break_of content r))) RuleBroken r rule_broken)

Finds-all_rules : (row : RowReading) (text : List ℕ) (version : Version) (content : Content) → Finds row text (rules version content)
Finds-all_rules row text version content =
    Finds-then row text (number 2) (λ count. items (held_rule version content) count []) (Finds-number row text 2)
    (λ count. Finds-items row text (held_rule version content) (Finds-held row text version content) count [])

Finds-rules : (row : RowReading) (text : List ℕ) (version : Version) (content : Content) → Finds row text (rules_in version content)
Finds-rules row text First content = Finds-done {T = List Rule} row text []
Finds-rules row text Second content = Finds-done {T = List Rule} row text []
Finds-rules row text Third content = Finds-all_rules row text Third content
Finds-rules row text Fourth content = Finds-all_rules row text Fourth content

-- ---- the front and the end of a file, which have no fault of shape

version_other : (word : List ℕ) → IfErr (version_of word) IsOther
version_other word = by_first (bytes_eq word (codes "SFSTORE1"))
  where
    by_third : (b : Bool) → IfErr (cond b (Ok Third) (allowed (bytes_eq word (codes "SFSTORE4")) BadFile Fourth)) IsOther
    by_third true = tt
    by_third false = allowed_other (bytes_eq word (codes "SFSTORE4")) BadFile Fourth bad_file

    by_second : (b : Bool) → IfErr (cond b (Ok Second) (cond (bytes_eq word (codes "SFSTORE3")) (Ok Third) (allowed (bytes_eq word (codes "SFSTORE4")) BadFile Fourth))) IsOther
    by_second true = tt
    by_second false = by_third (bytes_eq word (codes "SFSTORE3"))

    by_first : (b : Bool) → IfErr (cond b (Ok First) (cond (bytes_eq word (codes "SFSTORE2")) (Ok Second)
        (cond (bytes_eq word (codes "SFSTORE3")) (Ok Third) (allowed (bytes_eq word (codes "SFSTORE4")) BadFile Fourth)))) IsOther
    by_first true = tt
    by_first false = by_second (bytes_eq word (codes "SFSTORE2"))

Finds-grid : (row : RowReading) (text : List ℕ) (version : Version) → Finds row text (on_grid version)
Finds-grid row text First = Finds-done row text First
Finds-grid row text Second = Finds-rule row text 1 (λ byte. allowed (nat_eq byte 24) BadFile Second) (λ byte. allowed_other (nat_eq byte 24) BadFile Second bad_file)
Finds-grid row text Third = Finds-rule row text 1 (λ byte. allowed (nat_eq byte 24) BadFile Third) (λ byte. allowed_other (nat_eq byte 24) BadFile Third bad_file)
Finds-grid row text Fourth = Finds-rule row text 1 (λ byte. allowed (nat_eq byte 31) BadFile Fourth) (λ byte. allowed_other (nat_eq byte 31) BadFile Fourth bad_file)

Finds-head : (row : RowReading) (text : List ℕ) → Finds row text head
Finds-head row text = Finds-then row text (field (bytes 8) version_of) on_grid (Finds-field row text (bytes 8) version_of (Finds-bytes row text 8) version_other) (Finds-grid row text)

Fits-end : (row : RowReading) (text : List ℕ) (left : Left) → IsOf text left → Fits row text (end left)
Fits-end row text left is = by_bytes left.bytes left.place is
  where
    by_bytes : (rest : List ℕ) (place : ℕ) → rest ≡ drop place text → Fits row text (end (record { place = place; bytes = rest }))
    by_bytes [] place is = is
    by_bytes (b ∷ more) place is = λ fault same. absurd cc

Finds-rest : (row : RowReading) (text : List ℕ) (version : Version) (content : Content) → Finds row text (file_after_layers version content)
Finds-rest row text version content =
    Finds-then row text (rules_in version content) (file_after_rules content) (Finds-rules row text version content)
    (λ kept. Finds-then row text end (λ ended. done (record { content = content; rules = kept })) (Fits-end row text) (λ ended. Finds-done {T = Ruled} row text (record { content = content; rules = kept })))

Finds-behind : (text : List ℕ) (version : Version) → Finds (read_in (grid_of version)) text (file_after_head version)
Finds-behind text version =
    let row = read_in (grid_of version) in
    Finds-then row text (layers row) (file_after_layers version) (Finds-layers row text (read_is_sized (grid_of version))) (Finds-rest row text version)

-- ---- the whole file

-- a reading that finds no geometry, for the front of a file, where none stands
abbrev no_row : RowReading
no_row text = Err binaries.Truncated

none_there : (text : List ℕ) (place : ℕ) (fault : ShapeFault) → Faulty no_row text place fault → ⊥
none_there text place fault faulty = by_row faulty.is_there
  where
    by_row : no_row (take faulty.size (drop place text)) ≡ Ok faulty.geometry → ⊥
    by_row is = cc

by_rest : (row : RowReading) (text : List ℕ) (place : ℕ) (fault : ShapeFault) (r : Reads Ruled) → Fits row text r
    → value_of r ≡ Err (record { place = place; defect = Invalid fault }) → Faulty row text place fault
by_rest row text place fault (Ok x) fits refused = absurd cc
by_rest row text place fault (Err found) fits refused =
    let same : found ≡ record { place = place; defect = Invalid fault } = cc in
    subst (λ p. Faulty row text p fault) (ap (λ f. f.place) same) (fits fault (ap (λ f. f.defect) same))

by_head : (text : List ℕ) (place : ℕ) (fault : ShapeFault) (front : Reads Version) → head (at 0 text) ≡ front → Fits no_row text front
    → value_of (and_then front file_after_head) ≡ Err (record { place = place; defect = Invalid fault }) → HasFaultyGeometry text place fault
by_head text place fault (Ok x) is fits refused =
    let faulty = by_rest (read_in (grid_of x.0)) text place fault (file_after_head x.0 x.1) (Finds-behind text x.0 x.1 fits) refused in
    record {
      version = x.0;
      behind_head = x.1;
      told = is;
      size = faulty.size;
      geometry = faulty.geometry;
      is_there = faulty.is_there;
      first = faulty.first;
    }
by_head text place fault (Err found) is fits refused =
    let same : found ≡ record { place = place; defect = Invalid fault } = cc in
    absurd (none_there text found.place fault (fits fault (ap (λ f. f.defect) same)))

pub files-are-judged : FilesAreJudgedOverThePlane
files-are-judged text place fault refused = by_head text place fault (head (at 0 text)) refl (Finds-head no_row text (at 0 text) refl) refused
