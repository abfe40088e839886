-- A feature: its geometry, and its values by column number.
use Rattle.std.specs.Prelude.{ℕ, ◌<◌, List, [], Option, Result, Ok, Err, nat_eq}
use Rattle.std.specs.List.{AllByRecursion}
use Rattle.std.specs.List.Sorted.{IsStrictlySortedBy}
use Rattle.std.specs.Map.{keys_of, lookup, remove_entry}
use Rattle.std.specs.Ordering.{nat_cmp}
use Rattle.std.specs.BTreeMap.{insert_entry}
use Rattle.sf_geometry.specs.declared.geometry.Geometry.{Geometry}
use Rattle.sf_geometry.specs.declared.refusal.Refusal.{Refusal as GeometryRefusal}
use Rattle.sf_features.specs.declared.attr_value.AttrValue.{AttrValue}

-- a feature: its geometry, and its values by column number, rising
pub record FeatureContent : Type 0 where
  pub geometry : Geometry
  pub values : List (ℕ × AttrValue)

-- no number of a column reaches this
abbrev pub number_end : ℕ
number_end = 65536

-- values by column number: the numbers rise, and are below their end
pub record AreByNumber (values : List (ℕ × AttrValue)) : Type 0 where
  pub rising : IsStrictlySortedBy nat_cmp (keys_of values)
  pub below : AllByRecursion (λ number. number < number_end) (keys_of values)

-- a feature with no values
abbrev pub plain_feature : Geometry → FeatureContent
plain_feature geometry = record { geometry = geometry; values = [] }

-- the feature with another geometry
abbrev pub with_geometry : Geometry → FeatureContent → FeatureContent
with_geometry geometry feature = record feature { geometry = geometry }

-- the feature's value in the column of a number
abbrev pub value_in : ℕ → FeatureContent → Option AttrValue
value_in number feature = lookup (nat_eq number) feature.values

-- the feature with a value in the column of a number
abbrev pub with_value : ℕ → AttrValue → FeatureContent → FeatureContent
with_value number value feature =
    record feature { values = insert_entry nat_cmp feature.values number value }

-- the feature with no value in the column of a number
abbrev pub without_value : ℕ → FeatureContent → FeatureContent
without_value number feature =
    record feature { values = remove_entry (nat_eq number) feature.values }

-- a change of a geometry, which may be refused
abbrev pub GeometryChange : Type 0
GeometryChange = Geometry → Result Geometry GeometryRefusal

-- the geometry that a change leads to, or the one before where it is refused
abbrev pub result_or : Geometry → Result Geometry GeometryRefusal → Geometry
result_or geometry (Ok after) = after
result_or geometry (Err refusal) = geometry

-- the feature with its geometry changed
abbrev pub change_geometry : GeometryChange → FeatureContent → FeatureContent
change_geometry change feature =
    with_geometry (result_or feature.geometry (change feature.geometry)) feature
