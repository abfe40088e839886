-- Internal: who wants to trust the program need not read this file.
-- The types of a layer's columns by number, and values that follow others.
use Rattle.std.specs.Prelude.{◌≡◌, ℕ, ◌+◌, List, [], length, nat_le, Option, Result, Ok, Err, nat_eq, option_map}
use Rattle.std.specs.List.{AllByRecursion}
use Rattle.std.specs.List.Sorted.{IsStrictlySortedBy}
use Rattle.std.specs.Map.{keys_of, lookup}
use Rattle.std.specs.Ordering.{nat_cmp}
use Rattle.sf_features.specs.declared.column.Column.{Column}
use Rattle.sf_features.specs.declared.column_type.ColumnType.{ColumnType}
use Rattle.sf_features.specs.declared.attr_value.AttrValue.{AttrValue}
use Rattle.sf_features.specs.Columns.{numbered}
use Rattle.sf_features.specs.Features.{FeatureContent}
use Rattle.sf_layers.specs.declared.layer_kind.LayerKind.{LayerKind}
use Rattle.sf_layers.specs.WellFormed.{IsIssued}
use Rattle.sf_streams.specs.Streams.{Left}
use Rattle.sf_format.specs.declared.defect.Defect.TheVariants.{NoColumn}
use Rattle.sf_format.specs.Readings.{Reading, ◌>>=◌, done, field, items, number}
use Rattle.sf_format.specs.Format.{RowReading, allowed, geometry, last_number, next_column_of, next_of, typed_value, value}
use Rattle.sf_loading.specs.declared.halt.Halt.{Halt}
use Rattle.sf_loading.specs.Streaming.{Ends, Takes}

-- the type of the column of a number
abbrev pub type_of : List Column → ℕ → Option ColumnType
type_of columns number = option_map (λ column. column.column_type) (numbered columns number)

-- under each number stands the type of the column of that number
abbrev pub AreTypesOf : List (ℕ × ColumnType) → List Column → Type 0
AreTypesOf types columns = (number : ℕ) → lookup (nat_eq number) types ≡ type_of columns number

-- a value above a number, behind the number of its column
abbrev pub value_above : List Column → ℕ → Reading (ℕ × AttrValue)
value_above columns before = do
  column ← field (number 2) (next_column_of columns before)
  content ← typed_value column.column_type
  done (column.number, content)

-- what a function returned are the number and the type of the next value's column, or it ended before
abbrev pub GivesColumn : List Column → ℕ → Option (List ℕ) → Option (List ℕ) → Left → Left → Result (ℕ × ColumnType) Halt → Type 0
GivesColumn columns before unread_before unread old new (Ok entry) = (column : Column)
    × Takes (field (number 2) (next_column_of columns before)) column unread_before unread old new × (column.number ≡ entry.0) × (column.column_type ≡ entry.1)
GivesColumn columns before unread_before unread old new (Err halt) = Ends (field (number 2) (next_column_of columns before)) unread_before unread old halt

-- entries by rising numbers from 1 on, the last of them under this one, which is 0 where there is none
pub record AreUpTo {X : Type 0} (last : ℕ) (entries : List (ℕ × X)) : Type 0 where
  pub is_last : last_number entries ≡ last
  pub issued : AllByRecursion (IsIssued (last + 1)) (keys_of entries)
  pub rising : IsStrictlySortedBy nat_cmp (keys_of entries)

-- a feature of a layer, behind its identifier, which is above a number
abbrev pub feature_above : RowReading → LayerKind → ℕ → List Column → ℕ → Reading (ℕ × FeatureContent)
feature_above row kind next_id columns before = do
  id ← field (number 4) (next_of next_id before)
  shape ← geometry row kind
  count ← field (number 2) (λ n. allowed (nat_le n (length columns)) NoColumn n)
  values ← items (value columns) count []
  done (id, record { geometry = shape; values = values })
