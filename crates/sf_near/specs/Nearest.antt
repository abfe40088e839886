-- The features of a layer that are nearest to a geometry, in their order, computed.
use Rattle.std.specs.Prelude.{ℕ, Bool, ◌&&◌, ◌||◌, nat_lt, List, [], ◌∷◌, map, take, if◌then◌else◌}
use Rattle.sf_grid.specs.Fraction.{Fraction, fraction_eq, fraction_lt}
use Rattle.sf_geometry.specs.declared.geometry.Geometry.{Geometry}
use Rattle.sf_nearness.specs.Least.{least_square_of}
use Rattle.sf_features.specs.Features.{FeatureContent}
use Rattle.sf_layers.specs.Content.{LayerContent}

-- of two features, each an identifier with the square of its distance, the first is nearer; at one distance the one of the lesser identifier
abbrev pub is_nearer : ℕ × Fraction → ℕ × Fraction → Bool
is_nearer p q = fraction_lt p.1 q.1 || (fraction_eq p.1 q.1 && nat_lt p.0 q.0)

-- put behind those before it, which stand in order
abbrev pub put_in_order : {X : Type 0} → (X → X → Bool) → X → List X → List X
put_in_order is_before x [] = x ∷ []
put_in_order is_before x (y ∷ ys) = if is_before y x then y ∷ put_in_order is_before x ys else x ∷ y ∷ ys

-- each put in order among those that stand so
abbrev pub in_order : {X : Type 0} → (X → X → Bool) → List X → List X → List X
in_order is_before sorted [] = sorted
in_order is_before sorted (x ∷ xs) = in_order is_before (put_in_order is_before x sorted) xs

-- a feature with the square of its distance
abbrev pub distance_of : Geometry → ℕ × FeatureContent → ℕ × Fraction
distance_of b entry = (entry.0, least_square_of entry.1.geometry b)

-- computes the k nearest features (AreNearest), as the law NearestIsOverThePlane says: each with the square of its distance
abbrev pub nearest_of : LayerContent → ℕ → Geometry → List (ℕ × Fraction)
nearest_of layer k b = take k (in_order is_nearer [] (map (distance_of b) layer.features))
