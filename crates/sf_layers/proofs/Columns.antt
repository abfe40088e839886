-- A column taken out of a layer with its values, and put back.
use Rattle.std.proofs.Common.{◌≡◌, ℕ, suc, ◌+◌, Bool, true, false, not, cond, List, [], ◌∷◌, map, find, slice_get, Option, None, Some, is_some, bytes_eq, refl, ap, ◌∙◌, arith}
use Rattle.std.specs.List.{position_or_len}
use Rattle.std.specs.Map.{values_of}
use Rattle.sf_features.specs.declared.column.Column.{Column}
use Rattle.sf_layers.specs.Content.{LayerContent, column_named, column_place, column_values, with_values, without_values, with_column, without_column}
use Rattle.sf_layers.specs.WellFormed.{IsFeature, IsLayer}
use Rattle.sf_layers.proofs.Kept.{all-weaker}
use Rattle.sf_layers.proofs.Places.{insert-remove}
use Rattle.sf_layers.proofs.Values.{HasRising, with_values-without_values}

abbrev place_in : List Column → List ℕ → ℕ
place_in columns name = position_or_len (bytes_eq name) (map (λ column. column.name) columns)

-- the column of a name stands at the place of the name
column_at_place-of : (columns : List Column) (name : List ℕ) (column : Column) → find (λ c. bytes_eq name c.name) columns ≡ Some column → slice_get columns (place_in columns name) ≡ Some column
column_at_place-of [] name column found = cc
column_at_place-of (c ∷ cs) name column found = by (column_at_place-of cs name column) (bytes_eq name c.name) found
  where
    by : (find (λ d. bytes_eq name d.name) cs ≡ Some column → slice_get cs (place_in cs name) ≡ Some column) → (b : Bool)
        → cond b (Some c) (find (λ d. bytes_eq name d.name) cs) ≡ Some column
        → slice_get (c ∷ cs) (cond (not b) (1 + place_in cs name) 0) ≡ Some column
    by later true h = h
    by later false h = let next : 1 + place_in cs name ≡ suc (place_in cs name) = omega arith in ap (slice_get (c ∷ cs)) next ∙ later h

pub column_at_place : (layer : LayerContent) (name : List ℕ) (column : Column) → column_named layer name ≡ Some column → slice_get layer.columns (column_place layer name) ≡ Some column
column_at_place layer name column found = column_at_place-of layer.columns name column found

-- what stands at the place of a name is the column of that name
pub column-at : (layer : LayerContent) (name : List ℕ) (place : ℕ) (o : Option Column) → place ≡ column_place layer name → true ≡ is_some (column_named layer name)
    → o ≡ slice_get layer.columns place → o ≡ column_named layer name
column-at layer name place o at stands is = by (column_named layer name) refl stands
  where
    by : (found : Option Column) → column_named layer name ≡ found → true ≡ is_some found → o ≡ found
    by None k h = cc
    by (Some column) k h = is ∙ ap (slice_get layer.columns) at ∙ column_at_place layer name column k

-- a column is put back at its place, with its values
pub column-back : (layer : LayerContent) (name : List ℕ) (column : Column) → IsLayer layer → column_named layer name ≡ Some column
    → with_values column.number (column_values column.number layer)
    (with_column (column_place layer name) column (without_column (column_place layer name) (without_values column.number layer))) ≡ layer
column-back layer name column fine found =
    let place = column_place layer name in
    let bare : LayerContent = without_values column.number layer in
    let whole : with_column place column (without_column place bare) ≡ bare =
    ap (λ cs. let l : LayerContent = record bare { columns = cs } in l) (insert-remove layer.columns place column (column_at_place layer name column found)) in
    ap (with_values column.number (column_values column.number layer)) whole
    ∙ with_values-without_values column.number layer fine.rising
    (all-weaker (IsFeature layer.kind layer.columns) HasRising (λ f is. is.rising) (values_of layer.features) fine.features)
