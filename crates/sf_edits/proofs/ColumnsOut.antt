-- A layer from which a column was taken out with its values: what is free in it, and what is bare.
use Rattle.std.proofs.Common.{◌≡◌, ℕ, zero, suc, Bool, true, false, cond, List, [], ◌∷◌, map, filter_map, find, remove, slice_get, Option, None, Some, is_some, option_map, bytes_eq, nat_eq, refl, ap, sym, ◌∙◌, arith}
use Rattle.std.proofs.lemmas.Bool.{eq-eqb}
use Rattle.std.proofs.lemmas.Bool.Decides.{nat_tests}
use Rattle.std.specs.Cmp.Lexicographic.{nat_list_eq_equiv}
use Rattle.std.specs.List.{AllByRecursion, cons_option, list_any}
use Rattle.std.specs.Map.{keys_of, lookup, values_of}
use Rattle.std.specs.Option.{IsSome}
use Rattle.sf_features.specs.Columns.{IsDistinct, named, numbered}
use Rattle.sf_features.specs.Features.{FeatureContent, value_in, without_value}
use Rattle.sf_features.specs.declared.attr_value.AttrValue.{AttrValue}
use Rattle.sf_features.specs.declared.column.Column.{Column}
use Rattle.sf_layers.specs.Content.{LayerContent, column_values, feature_of, without_values}
use Rattle.sf_layers.specs.WellFormed.{IsFeature, IsLayer}
use Rattle.sf_layers.proofs.Kept.{all-weaker, none_or}
use Rattle.sf_layers.proofs.Values.{HasRising}
use Rattle.sf_steps.proofs.InverseLaws.{lookup-remove_entry}

-- ---- columns

module _ {Y : Type 0} (eq : Y → Y → Bool) (f : Column → Y) where
  none-found : (test : Column → Bool) (y : Y) (columns : List Column) → ((c : Column) → eq y (f c) ≡ false → test c ≡ false) → list_any (eq y) (map f columns) ≡ false → find test columns ≡ None
  none-found test y [] apart h = refl
  none-found test y (c ∷ cs) apart h =
      let both = none_or (eq y (f c)) (list_any (eq y) (map f cs)) h in
      ap (λ b. cond b (Some c) (find test cs)) (apart c both.0) ∙ none-found test y cs apart both.1

  apart-at : (y : Y) (columns : List Column) (place : ℕ) (column : Column) → list_any (eq y) (map f columns) ≡ false → slice_get columns place ≡ Some column → eq y (f column) ≡ false
  apart-at y [] place column h there = cc
  apart-at y (c ∷ cs) zero column h there = let is : c ≡ column = cc in ap (λ d. eq y (f d)) (sym is) ∙ (none_or (eq y (f c)) (list_any (eq y) (map f cs)) h).0
  apart-at y (c ∷ cs) (suc place) column h there = apart-at y cs place column (none_or (eq y (f c)) (list_any (eq y) (map f cs)) h).1 there

  -- a test that only one of distinct columns can pass finds none once that is taken out
  find-remove : (test : Column → Bool) (columns : List Column) (place : ℕ) (column : Column) → ((c : Column) → eq (f column) (f c) ≡ false → test c ≡ false)
      → ((c : Column) → eq (f c) (f column) ≡ false → test c ≡ false) → slice_get columns place ≡ Some column → IsDistinct eq (map f columns) → find test (remove columns place) ≡ None
  find-remove test [] place column after before there distinct = cc
  find-remove test (c ∷ cs) zero column after before there distinct =
      let is : c ≡ column = cc in none-found test (f column) cs after (ap (λ d. list_any (eq (f d)) (map f cs)) (sym is) ∙ distinct.0)
  find-remove test (c ∷ cs) (suc place) column after before there distinct =
      ap (λ b. cond b (Some c) (find test (remove cs place))) (before c (apart-at (f c) cs place column distinct.0 there)) ∙ find-remove test cs place column after before there distinct.1

-- the name of a column that was taken out is free
pub name-out : (layer : LayerContent) (place : ℕ) (column : Column) → IsLayer layer → slice_get layer.columns place ≡ Some column → named (remove layer.columns place) column.name ≡ None
name-out layer place column fine there =
    find-remove bytes_eq (λ c. c.name) (λ c. bytes_eq column.name c.name) layer.columns place column (λ c h. h) (λ c h. nat_list_eq_equiv.symm column.name c.name ∙ h) there fine.column_names

-- and its number
pub number-out : (layer : LayerContent) (place : ℕ) (column : Column) → IsLayer layer → slice_get layer.columns place ≡ Some column → numbered (remove layer.columns place) column.number ≡ None
number-out layer place column fine there =
    find-remove nat_eq (λ c. c.number) (λ c. nat_eq c.number column.number) layer.columns place column (λ c h. grind (arith, nat_tests, h)) (λ c h. h) there fine.column_numbers

-- ---- values

abbrev valued : ℕ → ℕ × FeatureContent → Option (ℕ × AttrValue)
valued number entry = option_map (λ value. (entry.0, value)) (value_in number entry.1)

abbrev bare : ℕ → ℕ × FeatureContent → ℕ × FeatureContent
bare number entry = (entry.0, without_value number entry.1)

none-valued : (number : ℕ) (es : List (ℕ × FeatureContent)) → AllByRecursion HasRising (values_of es) → filter_map (valued number) (map (bare number) es) ≡ []
none-valued number [] all = refl
none-valued number (e ∷ es) all =
    ap (λ o. cons_option (option_map (λ value. (e.0, value)) o) (filter_map (valued number) (map (bare number) es))) (lookup-remove_entry number e.1.values all.0) ∙ none-valued number es all.1

-- once the values of a column are taken out, no feature has one
pub values-out : (number : ℕ) (layer : LayerContent) → IsLayer layer → column_values number (without_values number layer) ≡ []
values-out number layer fine = none-valued number layer.features (all-weaker (IsFeature layer.kind layer.columns) HasRising (λ f is. is.rising) (values_of layer.features) fine.features)

there-next : (e : ℕ × FeatureContent) (es : List (ℕ × FeatureContent)) (id : ℕ) → IsSome (lookup (nat_eq id) es) → IsSome (lookup (nat_eq id) (e ∷ es))
there-next e es id h = by (nat_eq id e.0)
  where
    by : (b : Bool) → IsSome (cond b (Some e.1) (lookup (nat_eq id) es))
    by true = refl
    by false = h

all-there : (number : ℕ) (es : List (ℕ × FeatureContent)) → AllByRecursion (λ id. IsSome (lookup (nat_eq id) (map (bare number) es))) (keys_of (filter_map (valued number) es))
all-there number [] = tt
all-there number (e ∷ es) = by (all-later (all-there number es)) (value_in number e.1)
  where
    all-later : AllByRecursion (λ id. IsSome (lookup (nat_eq id) (map (bare number) es))) (keys_of (filter_map (valued number) es))
        → AllByRecursion (λ id. IsSome (lookup (nat_eq id) (map (bare number) (e ∷ es)))) (keys_of (filter_map (valued number) es))
    all-later there =
        all-weaker (λ id. IsSome (lookup (nat_eq id) (map (bare number) es))) (λ id. IsSome (lookup (nat_eq id) (map (bare number) (e ∷ es))))
        (λ id h. there-next (bare number e) (map (bare number) es) id h) (keys_of (filter_map (valued number) es)) there

    by : AllByRecursion (λ id. IsSome (lookup (nat_eq id) (map (bare number) (e ∷ es)))) (keys_of (filter_map (valued number) es)) → (o : Option AttrValue)
        → AllByRecursion (λ id. IsSome (lookup (nat_eq id) (map (bare number) (e ∷ es)))) (keys_of (cons_option (option_map (λ value. (e.0, value)) o) (filter_map (valued number) es)))
    by later None = later
    by later (Some value) = (ap (λ b. is_some (cond b (Some (without_value number e.1)) (lookup (nat_eq e.0) (map (bare number) es)))) (eq-eqb e.0 e.0 refl), later)

-- the features that had one are all there
pub valued-there : (number : ℕ) (layer : LayerContent) → AllByRecursion (λ id. IsSome (feature_of (without_values number layer) id)) (keys_of (column_values number layer))
valued-there number layer = all-there number layer.features
