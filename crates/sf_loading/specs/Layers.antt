-- Internal: who wants to trust the program need not read this file.
-- What is read of a layer behind its first fields.
use Rattle.std.specs.Prelude.{◌≡◌, ℕ, List, [], nat_lt}
use Rattle.sf_layers.specs.Content.{LayerContent}
use Rattle.sf_layers.specs.WellFormed.{IsLayer}
use Rattle.sf_format.specs.declared.defect.Defect.TheVariants.{ColumnsExhausted, IdsExhausted}
use Rattle.sf_format.specs.Readings.{Reading, ◌>>=◌, done, field, items, number}
use Rattle.sf_format.specs.Format.{RowReading, allowed, column, feature}

-- behind the count of features
abbrev pub layer_after_feature_count : RowReading → List ℕ × LayerContent → ℕ → Reading (List ℕ × LayerContent)
layer_after_feature_count row entry count = do
  features ← items (feature row entry.1.kind entry.1.next_id entry.1.columns) count []
  done (entry.0, record entry.1 { features = features })

-- behind the columns
abbrev pub layer_after_columns : RowReading → List ℕ × LayerContent → Reading (List ℕ × LayerContent)
layer_after_columns row entry = do
  count ← field (number 4) (λ n. allowed (nat_lt n entry.1.next_id) IdsExhausted n)
  layer_after_feature_count row entry count

-- behind the count of columns
abbrev pub layer_after_column_count : RowReading → List ℕ × LayerContent → ℕ → Reading (List ℕ × LayerContent)
layer_after_column_count row entry count = do
  columns ← items (column entry.1.next_column) count []
  layer_after_columns row (entry.0, record entry.1 { columns = columns })

-- behind the counters
abbrev pub layer_after_counters : RowReading → List ℕ × LayerContent → Reading (List ℕ × LayerContent)
layer_after_counters row entry = do
  count ← field (number 2) (λ n. allowed (nat_lt n entry.1.next_column) ColumnsExhausted n)
  layer_after_column_count row entry count

-- a layer with no column and no feature
pub record IsBare (layer : LayerContent) : Type 0 where
  pub columns : layer.columns ≡ []
  pub features : layer.features ≡ []
  pub fits : IsLayer layer
