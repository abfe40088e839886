-- Columns put in and taken out, with their values, leave a layer well formed.
use Rattle.std.proofs.Common.{◌≡◌, ℕ, zero, suc, ◌<◌, Bool, true, false, cond, List, [], ◌∷◌, map, remove, slice_get, Some, IsTrue, IsSomeAnd, bytes_eq, nat_eq, refl, ap, sym, subst, ◌∙◌, arith}
use Rattle.std.proofs.lemmas.Bool.Decides.{nat_tests}
use Rattle.std.proofs.lemmas.Map.Made.{keys_of-map_values}
use Rattle.std.specs.declared.cmp.Ordering.TheVariants.{Less}
use Rattle.std.specs.List.{AllByRecursion}
use Rattle.std.specs.List.Sorted.{IsStrictlySortedBy}
use Rattle.std.specs.Map.{keys_of, values_of, remove_entry}
use Rattle.std.specs.Ordering.{nat_cmp}
use Rattle.sf_features.specs.declared.attr_value.AttrValue.{AttrValue}
use Rattle.sf_features.specs.declared.column.Column.{Column}
use Rattle.sf_layers.specs.declared.layer_kind.LayerKind.{LayerKind}
use Rattle.sf_features.specs.Features.{FeatureContent, without_value}
use Rattle.sf_layers.specs.Content.{LayerContent, without_values, without_column}
use Rattle.sf_features.specs.Values.{is_of_type}
use Rattle.sf_features.specs.Columns.{numbered}
use Rattle.sf_layers.specs.WellFormed.{IsFeature, IsLayer, IsValue, IsColumn, IsIssued}
use Rattle.sf_layers.proofs.Kept.{distinct-remove, remove-all, rising-remove_entry}
use Rattle.sf_layers.proofs.Values.{less-below}

-- another column is found where one is taken out
column_of-remove : (columns : List Column) (place : ℕ) (column : Column) (number : ℕ) → slice_get columns place ≡ Some column → nat_eq column.number number ≡ false
    → numbered (remove columns place) number ≡ numbered columns number
column_of-remove [] place column number there apart = cc
column_of-remove (c ∷ cs) zero column number there apart =
    let is : c ≡ column = cc in sym (ap (λ b. cond b (Some c) (numbered cs number)) (ap (λ d. nat_eq d.number number) is ∙ apart))
column_of-remove (c ∷ cs) (suc place) column number there apart = ap (cond (nat_eq c.number number) (Some c)) (column_of-remove cs place column number there apart)

IsValue-remove : (columns : List Column) (place : ℕ) (column : Column) (entry : ℕ × AttrValue) → slice_get columns place ≡ Some column → nat_eq column.number entry.0 ≡ false
    → IsValue columns entry → IsValue (remove columns place) entry
IsValue-remove columns place column entry there apart h =
    subst (λ o. IsSomeAnd o (λ c. IsTrue (is_of_type c.column_type entry.1))) (sym (column_of-remove columns place column entry.0 there apart)) h

values_above : (columns : List Column) (place : ℕ) (column : Column) (es : List (ℕ × AttrValue)) → slice_get columns place ≡ Some column → AllByRecursion (λ n. nat_cmp column.number n ≡ Less) (keys_of es)
    → AllByRecursion (IsValue columns) es → AllByRecursion (IsValue (remove columns place)) es
values_above columns place column [] there above all = tt
values_above columns place column (e ∷ es) there above all =
    let over : column.number < e.0 = less-below column.number e.0 above.0 in
    let apart : nat_eq column.number e.0 ≡ false = grind (arith, nat_tests, over) in
    (IsValue-remove columns place column e there apart all.0, values_above columns place column es there above.1 all.1)

-- the values of a feature in the other columns
values-remove : (columns : List Column) (place : ℕ) (column : Column) (es : List (ℕ × AttrValue)) → slice_get columns place ≡ Some column → IsStrictlySortedBy nat_cmp (keys_of es)
    → AllByRecursion (IsValue columns) es → AllByRecursion (IsValue (remove columns place)) (remove_entry (nat_eq column.number) es)
unfolding IsStrictlySortedBy
values-remove columns place column [] there rising all = tt
values-remove columns place column (e ∷ es) there rising all = by (values-remove columns place column es there rising.1 all.1) (nat_eq column.number e.0) refl
  where
    by : AllByRecursion (IsValue (remove columns place)) (remove_entry (nat_eq column.number) es) → (b : Bool) → nat_eq column.number e.0 ≡ b
        → AllByRecursion (IsValue (remove columns place)) (cond b es (e ∷ remove_entry (nat_eq column.number) es))
    by later true is =
        let same : column.number ≡ e.0 = grind (arith, nat_tests, is) in
        values_above columns place column es there (subst (λ m. AllByRecursion (λ n. nat_cmp m n ≡ Less) (keys_of es)) (sym same) rising.0) all.1
    by later false is = (IsValue-remove columns place column e there is all.0, later)

IsFeature-without_value : (kind : LayerKind) (columns : List Column) (place : ℕ) (column : Column) (feature : FeatureContent) → slice_get columns place ≡ Some column
    → IsFeature kind columns feature → IsFeature kind (remove columns place) (without_value column.number feature)
IsFeature-without_value kind columns place column feature there h = record {
  admitted = h.admitted;
  on_grid = h.on_grid;
  valid = h.valid;
  rising = rising-remove_entry (nat_eq column.number) feature.values h.rising;
  values = values-remove columns place column feature.values there h.rising h.values;
}

all-bare : (kind : LayerKind) (columns : List Column) (place : ℕ) (column : Column) (es : List (ℕ × FeatureContent)) → slice_get columns place ≡ Some column
    → AllByRecursion (IsFeature kind columns) (values_of es) → AllByRecursion (IsFeature kind (remove columns place)) (values_of (map (λ e. (e.0, without_value column.number e.1)) es))
all-bare kind columns place column [] there all = tt
all-bare kind columns place column (e ∷ es) there all = (IsFeature-without_value kind columns place column e.1 there all.0, all-bare kind columns place column es there all.1)

-- a layer less a column and the values in it
pub IsLayer-without_column : (layer : LayerContent) (place : ℕ) (column : Column) → slice_get layer.columns place ≡ Some column → IsLayer layer
    → IsLayer (without_column place (without_values column.number layer))
IsLayer-without_column layer place column there h =
    let same = sym (keys_of-map_values (without_value column.number) layer.features) in
    record {
      next_id = h.next_id;
      next_column = h.next_column;
      columns = remove-all (IsColumn layer.next_column) layer.columns place h.columns;
      column_names = distinct-remove bytes_eq (λ c. c.name) layer.columns place h.column_names;
      column_numbers = distinct-remove nat_eq (λ c. c.number) layer.columns place h.column_numbers;
      rising = subst (IsStrictlySortedBy nat_cmp) same h.rising;
      ids = subst (AllByRecursion (IsIssued layer.next_id)) same h.ids;
      features = all-bare layer.kind layer.columns place column layer.features there h.features;
    }
