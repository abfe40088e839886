-- Internal: who wants to trust the program need not read this file.
-- Lengths and counts of a store's parts fit the fields that they are written to.
use Rattle.std.specs.Prelude.{ℕ, ◌<◌, List, length}
use Rattle.std.specs.List.{AllByRecursion}
use Rattle.std.specs.Map.{values_of}
use Rattle.sf_geometry.specs.Size.{IsSized}
use Rattle.sf_features.specs.Features.{FeatureContent}
use Rattle.sf_layers.specs.Content.{LayerContent}

-- a geometry is sized, so that its length has four bytes; the values have a count of two bytes
pub record FeatureFits (feature : FeatureContent) : Type 0 where
  pub sized : IsSized feature.geometry
  pub few : length feature.values < 65536

-- columns have a count of two bytes, features one of four
pub record EntryFits (entry : List ℕ × LayerContent) : Type 0 where
  pub few_columns : length entry.1.columns < 65536
  pub few_features : length entry.1.features < 4294967296
  pub features : AllByRecursion FeatureFits (values_of entry.1.features)
