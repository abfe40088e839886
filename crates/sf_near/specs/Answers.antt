-- Which features of a layer are within a distance of a geometry, computed.
use Rattle.std.specs.Prelude.{ℕ, Bool, false, List, filter}
use Rattle.std.specs.Map.{keys_of}
use Rattle.std.specs.Option.{option_map_or}
use Rattle.sf_grid.specs.Fraction.{Fraction, fraction_le}
use Rattle.sf_geometry.specs.declared.geometry.Geometry.{Geometry}
use Rattle.sf_nearness.specs.Least.{least_square_of}
use Rattle.sf_layers.specs.Content.{LayerContent, feature_of}

-- the feature's geometry a has a point no farther than the root of the bound from one of b
abbrev pub is_within_of : Fraction → Geometry → Geometry → Bool
is_within_of bound a b = fraction_le (least_square_of a b) bound

-- so has the feature under an identifier, which is there
abbrev pub is_within_at : LayerContent → Fraction → Geometry → ℕ → Bool
is_within_at layer bound b id = option_map_or (λ feature. is_within_of bound feature.geometry b) (feature_of layer id) false

-- computes the identifiers of the features that are within the root of the bound (AreWithin), as the law WithinIsOverThePlane says; rising
abbrev pub ids_within : LayerContent → Fraction → Geometry → List ℕ
ids_within layer bound b = keys_of (filter (λ entry. is_within_of bound entry.1.geometry b) layer.features)
