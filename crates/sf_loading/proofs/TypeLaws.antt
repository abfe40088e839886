-- Columns by number and their types.
use Rattle.std.proofs.Common.{◌≡◌, ℕ, Bool, true, false, cond, List, [], ◌∷◌, Option, Some, None, IfOk, IsTrue, Result, Ok, Err, refl, sym, ap, subst, ◌∙◌, nat_eq}
use Rattle.std.specs.Prelude.{IsSomeAnd, nat_lt, option_map}
use Rattle.std.specs.Map.{lookup}
use Rattle.std.proofs.lemmas.Bool.{eqb-true}
use Rattle.sf_features.specs.declared.attr_value.AttrValue.{AttrValue}
use Rattle.sf_features.specs.declared.column.Column.{Column}
use Rattle.sf_features.specs.declared.column_type.ColumnType.{ColumnType}
use Rattle.sf_features.specs.Columns.{numbered}
use Rattle.sf_features.specs.Values.{is_of_type}
use Rattle.sf_layers.specs.WellFormed.{IsValue}
use Rattle.sf_format.specs.declared.defect.Defect.TheVariants.{NoColumn, WrongValue}
use Rattle.sf_format.specs.Format.{next_column_of, present}
use Rattle.sf_loading.specs.declared.halt.Halt.{Halt}
use Rattle.sf_loading.specs.Streaming.{Judges}
use Rattle.sf_loading.specs.Types.{AreTypesOf}

number-found : (columns : List Column) (n : ℕ) (column : Column) → numbered columns n ≡ Some column → column.number ≡ n
number-found [] n column h = absurd (cc h)
number-found (d ∷ columns) n column h = by (number-found columns n column) (nat_eq d.number n) refl h
  where
    by : (numbered columns n ≡ Some column → column.number ≡ n) → (b : Bool) → nat_eq d.number n ≡ b → cond b (Some d) (numbered columns n) ≡ Some column → column.number ≡ n
    by later true same h = let is : d ≡ column = cc in ap (λ (c : Column). c.number) (sym is) ∙ eqb-true d.number n same
    by later false other h = later h

-- the column that a value stands in
pub column-found : (types : List (ℕ × ColumnType)) (columns : List Column) (before n : ℕ) (t : ColumnType) → AreTypesOf types columns → cond (nat_lt before n) (lookup (nat_eq n) types) None ≡ Some t
    → (column : Column) × (next_column_of columns before n ≡ Ok column) × (column.number ≡ n) × (column.column_type ≡ t)
column-found types columns before n t are h = by (nat_lt before n) refl h
  where
    among : (o : Option Column) → numbered columns n ≡ o → option_map (λ (c : Column). c.column_type) o ≡ Some t → (column : Column) × (present (numbered columns n) NoColumn ≡ Ok column) × (column.number ≡ n) × (column.column_type ≡ t)
    among None is h = absurd (cc h)
    among (Some column) is h = let same : column.column_type ≡ t = cc in (column, ap (λ o. present o NoColumn) is, number-found columns n column is, same)

    by : (b : Bool) → nat_lt before n ≡ b → cond b (lookup (nat_eq n) types) None ≡ Some t → (column : Column) × (next_column_of columns before n ≡ Ok column) × (column.number ≡ n) × (column.column_type ≡ t)
    by true above h =
        let found = among (numbered columns n) refl (sym (are n) ∙ h) in
        (found.0, ap (λ b. present (cond b (numbered columns n) None) NoColumn) above ∙ found.1, found.2, found.3)
    by false above h = absurd (cc h)

-- or there is none
pub column-missing : (types : List (ℕ × ColumnType)) (columns : List Column) (before n : ℕ) → AreTypesOf types columns → cond (nat_lt before n) (lookup (nat_eq n) types) None ≡ None → next_column_of columns before n ≡ Err NoColumn
column-missing types columns before n are h = by (nat_lt before n) refl h
  where
    among : (o : Option Column) → numbered columns n ≡ o → option_map (λ (c : Column). c.column_type) o ≡ None → present (numbered columns n) NoColumn ≡ Err NoColumn
    among None is h = ap (λ o. present o NoColumn) is
    among (Some column) is h = absurd (cc h)

    by : (b : Bool) → nat_lt before n ≡ b → cond b (lookup (nat_eq n) types) None ≡ None → next_column_of columns before n ≡ Err NoColumn
    by true above h = ap (λ b. present (cond b (numbered columns n) None) NoColumn) above ∙ among (numbered columns n) refl (sym (are n) ∙ h)
    by false above h = ap (λ b. present (cond b (numbered columns n) None) NoColumn) above

present-of : (o : Option Column) (column : Column) → present o NoColumn ≡ Ok column → o ≡ Some column
present-of None column h = absurd (cc h)
present-of (Some d) column h = cc

above-of : (b : Bool) (o : Option Column) (column : Column) → cond b o None ≡ Some column → o ≡ Some column
above-of true o column h = h
above-of false o column h = absurd (cc h)

-- a value of its column's type is one of the layer
pub value-fits : (columns : List Column) (before x n : ℕ) (column : Column) (value : AttrValue) → next_column_of columns before x ≡ Ok column → column.number ≡ n → IsTrue (is_of_type column.column_type value) → IsValue columns (n, value)
value-fits columns before x n column value found is typed =
    let there = above-of (nat_lt before x) (numbered columns x) column (present-of (cond (nat_lt before x) (numbered columns x) None) column found) in
    let same = sym (number-found columns x column there) ∙ is in
    subst (λ m. IsValue columns (m, value)) same (subst (λ o. IsSomeAnd o (λ c. IsTrue (is_of_type c.column_type value))) (sym there) typed)

-- where what is there is of a type, so is what a rule lets pass
pub typed-present : (t : ColumnType) (o : Option AttrValue) (place : ℕ) (r : Result AttrValue Halt) → ((v : AttrValue) → o ≡ Some v → is_of_type t v ≡ true) → Judges (λ v. v) place (present o WrongValue) r
    → IfOk r (λ v. IsTrue (is_of_type t v))
typed-present t (Some v) place (Ok x) typed is = let same : v ≡ x = cc in typed x (ap Some same)
typed-present t None place (Ok x) typed is = absurd cc
typed-present t o place (Err halt) typed is = tt
