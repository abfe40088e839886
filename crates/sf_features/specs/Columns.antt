-- Columns in order, each with a number and a name of its own.
use Rattle.std.specs.Prelude.{◌≡◌, ℕ, Bool, false, List, [], ◌∷◌, map, find, Option, ⊤, bytes_eq, nat_eq}
use Rattle.std.specs.List.{list_any, position_or_len}
use Rattle.std.specs.Map.{lookup, keys_of, values_of}
use Rattle.sf_features.specs.declared.column.Column.{Column}

-- the column of a name
abbrev pub named : List Column → List ℕ → Option Column
named columns name = find (λ column. bytes_eq name column.name) columns

-- the place of the column of a name in the order, or the number of columns where none has it
abbrev pub place_named : List Column → List ℕ → ℕ
place_named columns name = position_or_len (bytes_eq name) (map (λ column. column.name) columns)

-- the column of a number
abbrev pub numbered : List Column → ℕ → Option Column
numbered columns number = find (λ column. nat_eq column.number number) columns

-- no element stands twice
abbrev pub IsDistinct : {X : Type 0} → (X → X → Bool) → List X → Type 0
IsDistinct eq [] = ⊤
IsDistinct eq (x ∷ xs) = (list_any (eq x) xs ≡ false) × IsDistinct eq xs

-- the numbers by name, in the order of the columns
abbrev pub numbers_of : List (ℕ × Column) → List (List ℕ × ℕ)
numbers_of entries = map (λ entry. (entry.1.name, entry.0)) entries

-- names and numbered columns fit together: each column stands under its own number, no two have one name, and each name
-- is found under its column's number
pub record AreNumbered (number : List ℕ → Option ℕ) (entries : List (ℕ × Column)) : Type 0 where
  pub keyed : keys_of entries ≡ map (λ column. column.number) (values_of entries)
  pub distinct : IsDistinct bytes_eq (map (λ column. column.name) (values_of entries))
  pub found : (name : List ℕ) → number name ≡ lookup (bytes_eq name) (numbers_of entries)
