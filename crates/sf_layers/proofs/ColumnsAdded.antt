-- A column more, and a value in a column that is there, leave a layer well formed.
use Rattle.std.proofs.Common.{◌≡◌, ℕ, ◌+◌, ◌<◌, Bool, true, false, cond, List, [], ◌∷◌, ◌++◌, map, find, Option, Some, None, IsTrue, IsSomeAnd, bytes_eq, nat_eq, refl, ap, sym, subst, ◌∙◌, arith}
use Rattle.std.proofs.lemmas.Bool.{eq-eqb}
use Rattle.std.proofs.lemmas.Bool.Decides.{nat_tests}
use Rattle.std.specs.Cmp.Lexicographic.{nat_list_eq_equiv}
use Rattle.std.specs.List.{list_any, AllByRecursion}
use Rattle.std.specs.Map.{values_of, remove_entry}
use Rattle.sf_features.specs.declared.attr_value.AttrValue.{AttrValue}
use Rattle.sf_features.specs.declared.column.Column.{Column}
use Rattle.sf_features.specs.declared.column_type.ColumnType.{ColumnType}
use Rattle.sf_layers.specs.declared.layer_kind.LayerKind.{LayerKind}
use Rattle.sf_features.specs.Names.{is_name}
use Rattle.sf_features.specs.Features.{FeatureContent, with_value, without_value}
use Rattle.sf_layers.specs.Content.{LayerContent, column_named}
use Rattle.sf_features.specs.Columns.{IsDistinct, numbered}
use Rattle.sf_features.specs.Values.{is_of_type}
use Rattle.sf_layers.specs.WellFormed.{IsFeature, IsLayer, IsValue, IsColumn, column_end}
use Rattle.sf_layers.proofs.Kept.{none_or, none-from, all-weaker, rising-remove_entry}
use Rattle.sf_layers.proofs.Fine.{rising-insert_entry, all-insert_entry}

all-append : {X : Type 0} (P : X → Type 0) (xs : List X) (x : X) → AllByRecursion P xs → P x → AllByRecursion P (xs ++ x ∷ [])
all-append P [] x all new = (new, tt)
all-append P (y ∷ ys) x all new = (all.0, all-append P ys x all.1 new)

none-append : {X Y : Type 0} (test : Y → Bool) (f : X → Y) (xs : List X) (x : X) → list_any test (map f xs) ≡ false → test (f x) ≡ false → list_any test (map f (xs ++ x ∷ [])) ≡ false
none-append test f [] x h new = none-from (test (f x)) false new refl
none-append test f (y ∷ ys) x h new =
    let both = none_or (test (f y)) (list_any test (map f ys)) h in
    none-from (test (f y)) (list_any test (map f (ys ++ x ∷ []))) both.0 (none-append test f ys x both.1 new)

-- a column more at the end keeps what is found
column_of-append : (columns : List Column) (new column : Column) (number : ℕ) → numbered columns number ≡ Some column → numbered (columns ++ new ∷ []) number ≡ Some column
column_of-append [] new column number found = cc
column_of-append (c ∷ cs) new column number found = by (column_of-append cs new column number) (nat_eq c.number number) found
  where
    by : (numbered cs number ≡ Some column → numbered (cs ++ new ∷ []) number ≡ Some column) → (b : Bool) → cond b (Some c) (numbered cs number) ≡ Some column
        → cond b (Some c) (numbered (cs ++ new ∷ []) number) ≡ Some column
    by later true h = h
    by later false h = later h

IsValue-append : (columns : List Column) (new : Column) (entry : ℕ × AttrValue) → IsValue columns entry → IsValue (columns ++ new ∷ []) entry
IsValue-append columns new entry h = by (numbered columns entry.0) refl h
  where
    by : (o : Option Column) → numbered columns entry.0 ≡ o → IsSomeAnd o (λ c. IsTrue (is_of_type c.column_type entry.1)) → IsValue (columns ++ new ∷ []) entry
    by None is h = absurd h
    by (Some column) is h = subst (λ o. IsSomeAnd o (λ c. IsTrue (is_of_type c.column_type entry.1))) (sym (column_of-append columns new column entry.0 is)) h

names-append : (columns : List Column) (new : Column) → find (λ c. bytes_eq new.name c.name) columns ≡ None → IsDistinct bytes_eq (map (λ c. c.name) columns) → IsDistinct bytes_eq (map (λ c. c.name) (columns ++ new ∷ []))
names-append [] new absent h = (refl, tt)
names-append (c ∷ cs) new absent h = by (λ none. names-append cs new none h.1) (bytes_eq new.name c.name) refl absent
  where
    by : (find (λ d. bytes_eq new.name d.name) cs ≡ None → IsDistinct bytes_eq (map (λ d. d.name) (cs ++ new ∷ []))) → (b : Bool) → bytes_eq new.name c.name ≡ b
        → cond b (Some c) (find (λ d. bytes_eq new.name d.name) cs) ≡ None → IsDistinct bytes_eq (map (λ d. d.name) (c ∷ (cs ++ new ∷ [])))
    by later true is none = cc
    by later false is none = (none-append (bytes_eq c.name) (λ d. d.name) cs new h.0 (nat_list_eq_equiv.symm c.name new.name ∙ is), later none)

numbers-append : (end : ℕ) (columns : List Column) (new : Column) → new.number ≡ end → AllByRecursion (IsColumn end) columns → IsDistinct nat_eq (map (λ c. c.number) columns) → IsDistinct nat_eq (map (λ c. c.number) (columns ++ new ∷ []))
numbers-append end [] new is all h = (refl, tt)
numbers-append end (c ∷ cs) new is all h =
    let below : c.number < end = all.0.1.1 in
    let apart : nat_eq c.number new.number ≡ false = grind (arith, nat_tests, below, is) in
    (none-append (nat_eq c.number) (λ d. d.number) cs new h.0 apart, numbers-append end cs new is all.1 h.1)

-- a layer with one more column, under the next number
pub IsLayer-add_column : (layer : LayerContent) (name : List ℕ) (column_type : ColumnType) → IsTrue (is_name name) → column_named layer name ≡ None → layer.next_column < column_end → IsLayer layer
    → (let column : Column = record { number = layer.next_column; name = name; column_type = column_type } in
    IsLayer (record layer { columns = layer.columns ++ column ∷ []; next_column = layer.next_column + 1 }))
IsLayer-add_column layer name column_type named absent room h =
    let column : Column = record { number = layer.next_column; name = name; column_type = column_type } in
    record {
      next_id = h.next_id;
      next_column = (omega (arith, h.next_column), omega (arith, room));
      columns = all-append (IsColumn (layer.next_column + 1)) layer.columns column
          (all-weaker (IsColumn layer.next_column) (IsColumn (layer.next_column + 1)) (λ c is. (is.0, (is.1.0, omega (arith, is.1.1)))) layer.columns h.columns)
          (named, (omega (arith, h.next_column), omega arith));
      column_names = names-append layer.columns column absent h.column_names;
      column_numbers = numbers-append layer.next_column layer.columns column refl h.columns h.column_numbers;
      rising = h.rising;
      ids = h.ids;
      features = all-weaker (IsFeature layer.kind layer.columns) (IsFeature layer.kind (layer.columns ++ column ∷ []))
          (λ f is. record {
            admitted = is.admitted;
            valid = is.valid;
            on_grid = is.on_grid;
            rising = is.rising;
            values = all-weaker (IsValue layer.columns) (IsValue (layer.columns ++ column ∷ [])) (λ entry. IsValue-append layer.columns column entry) f.values is.values;
          })
          (values_of layer.features) h.features;
    }

number-apart : (n : ℕ) (columns : List Column) (name : List ℕ) (column : Column) → list_any (nat_eq n) (map (λ c. c.number) columns) ≡ false → find (λ c. bytes_eq name c.name) columns ≡ Some column → nat_eq n column.number ≡ false
number-apart n [] name column none found = cc
number-apart n (c ∷ cs) name column none found =
    let both = none_or (nat_eq n c.number) (list_any (nat_eq n) (map (λ d. d.number) cs)) none in
    by both.0 (number-apart n cs name column both.1) (bytes_eq name c.name) found
  where
    by : nat_eq n c.number ≡ false → (find (λ d. bytes_eq name d.name) cs ≡ Some column → nat_eq n column.number ≡ false) → (b : Bool) → cond b (Some c) (find (λ d. bytes_eq name d.name) cs) ≡ Some column → nat_eq n column.number ≡ false
    by apart later true h = let is : c ≡ column = cc in ap (λ d. nat_eq n d.number) (sym is) ∙ apart
    by apart later false h = later h

-- the column of a name is that of its number
pub column_of-named : (columns : List Column) (name : List ℕ) (column : Column) → IsDistinct nat_eq (map (λ c. c.number) columns) → find (λ c. bytes_eq name c.name) columns ≡ Some column
    → numbered columns column.number ≡ Some column
column_of-named [] name column distinct found = cc
column_of-named (c ∷ cs) name column distinct found = by (column_of-named cs name column distinct.1) (bytes_eq name c.name) found
  where
    by : (find (λ d. bytes_eq name d.name) cs ≡ Some column → numbered cs column.number ≡ Some column) → (b : Bool) → cond b (Some c) (find (λ d. bytes_eq name d.name) cs) ≡ Some column
        → cond (nat_eq c.number column.number) (Some c) (numbered cs column.number) ≡ Some column
    by later true h = let is : c ≡ column = cc in ap (λ b. cond b (Some c) (numbered cs column.number)) (eq-eqb c.number column.number (ap (λ d. d.number) is)) ∙ ap (λ d. Some d) is
    by later false h = ap (λ b. cond b (Some c) (numbered cs column.number)) (number-apart c.number cs name column distinct.0 h) ∙ later h

-- a feature with a value of the type of a column
pub IsFeature-with_value : (kind : LayerKind) (columns : List Column) (name : List ℕ) (column : Column) (value : AttrValue) (feature : FeatureContent) → IsDistinct nat_eq (map (λ c. c.number) columns)
    → find (λ c. bytes_eq name c.name) columns ≡ Some column → IsTrue (is_of_type column.column_type value) → IsFeature kind columns feature → IsFeature kind columns (with_value column.number value feature)
IsFeature-with_value kind columns name column value feature distinct found fits h = record {
  admitted = h.admitted;
  on_grid = h.on_grid;
  valid = h.valid;
  rising = rising-insert_entry column.number value feature.values h.rising;
  values = all-insert_entry (IsValue columns) column.number value feature.values
      (subst (λ o. IsSomeAnd o (λ c. IsTrue (is_of_type c.column_type value))) (sym (column_of-named columns name column distinct found)) fits) h.values;
}

all-out : (P : ℕ × AttrValue → Type 0) (number : ℕ) (es : List (ℕ × AttrValue)) → AllByRecursion P es → AllByRecursion P (remove_entry (nat_eq number) es)
all-out P number [] all = tt
all-out P number (e ∷ es) all = by (all-out P number es all.1) (nat_eq number e.0)
  where
    by : AllByRecursion P (remove_entry (nat_eq number) es) → (b : Bool) → AllByRecursion P (cond b es (e ∷ remove_entry (nat_eq number) es))
    by later true = all.1
    by later false = (all.0, later)

-- a feature less a value
pub IsFeature-without_value : (kind : LayerKind) (columns : List Column) (number : ℕ) (feature : FeatureContent) → IsFeature kind columns feature → IsFeature kind columns (without_value number feature)
IsFeature-without_value kind columns number feature h = record {
  admitted = h.admitted;
  on_grid = h.on_grid;
  valid = h.valid;
  rising = rising-remove_entry (nat_eq number) feature.values h.rising;
  values = all-out (IsValue columns) number feature.values h.values;
}

-- no column has the next number
pub numbered-next : (end : ℕ) (columns : List Column) → AllByRecursion (IsColumn end) columns → numbered columns end ≡ None
numbered-next end [] all = refl
numbered-next end (c ∷ cs) all =
    let below : c.number < end = all.0.1.1 in
    let apart : nat_eq c.number end ≡ false = grind (arith, nat_tests, below) in
    ap (λ b. cond b (Some c) (numbered cs end)) apart ∙ numbered-next end cs all.1
