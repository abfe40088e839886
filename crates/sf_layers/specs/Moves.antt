-- Internal: who wants to trust the program need not read this file.
-- How the values of a column are moved out of the features of a layer, and into them, one after the other.
use Rattle.std.specs.Prelude.{◌≡◌, ℕ, List, [], ◌∷◌, ◌++◌, drop, filter_map, option_map, IsSomeAnd, Some, nat_eq}
use Rattle.std.specs.Map.{lookup, keys_of, values_of}
use Rattle.sf_features.specs.declared.attr_value.AttrValue.{AttrValue}
use Rattle.sf_features.specs.Features.{FeatureContent, value_in, with_value, without_value}
use Rattle.sf_layers.specs.Content.{change_value}

-- features by identifier
abbrev pub Features : Type 0
Features = List (ℕ × FeatureContent)

-- the values in the column of a number, by the identifiers of their features
abbrev pub values_in : ℕ → Features → List (ℕ × AttrValue)
values_in number features =
    filter_map (λ entry. option_map (λ value. (entry.0, value)) (value_in number entry.1)) features

-- the features with each of these values put into its feature
abbrev pub put_each : ℕ → List (ℕ × AttrValue) → Features → Features
put_each number [] features = features
put_each number (entry ∷ entries) features =
    change_value (nat_eq entry.0) (put_each number entries features) (with_value number entry.1)

-- each of these values is in its feature, and features come to this once all are removed
abbrev pub Takes : ℕ → List (ℕ × AttrValue) → Features → Features → Type 0
Takes number [] before after = before ≡ after
Takes number (entry ∷ entries) before after =
    IsSomeAnd (lookup (nat_eq entry.0) before) (λ feature. value_in number feature ≡ Some entry.1)
    × Takes number entries (change_value (nat_eq entry.0) before (without_value number)) after

-- of these identifiers the first n have given their values; once the others have, features and values come to this
pub record IsTaking (number : ℕ) (ids : List ℕ) (after : Features) (all : List AttrValue) (features : Features) (n : ℕ) (values : List AttrValue) : Type 0 where
  pub rest : List (ℕ × AttrValue)
  pub keys : keys_of rest ≡ drop n ids
  pub takes : Takes number rest features after
  pub whole : values ++ values_of rest ≡ all
