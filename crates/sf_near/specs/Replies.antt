-- What the calls answer: as it is computed, and over all points of the plane (6.1.2.4, Distance).
use Rattle.std.specs.Prelude.{◌≡◌, ◌↔◌, ℕ, List, [], ◌∷◌, length, map, Option, Some, None, Result, Ok, Err, Contains, IsTrue, min}
use Rattle.std.specs.Global.{Vec}
use Rattle.std.specs.List.Sorted.{IsStrictlySortedBy}
use Rattle.std.specs.List.{AllByRecursion}
use Rattle.std.specs.Map.{keys_of, values_of}
use Rattle.std.specs.Ordering.{nat_cmp}
use Rattle.sf_grid.specs.Fraction.{Fraction, fraction_eq}
use Rattle.sf_geometry.specs.declared.geometry.Geometry.{Geometry}
use Rattle.sf_valid_rules.specs.Validity.{IsValid}
use Rattle.sf_distance.specs.Mixed.{number_of}
use Rattle.sf_distance.specs.Squares.{IsLeastSquare, IsWithin}
use Rattle.sf_distance.specs.declared.square.Square.{Square}
use Rattle.sf_nearness.specs.Least.{least_square_of}
use Rattle.sf_nearness.specs.Sets.{IsOf}
use Rattle.sf_features.specs.Features.{FeatureContent}
use Rattle.sf_layers.specs.Content.{LayerContent, feature_of}
use Rattle.sf_query.specs.declared.refusal.Refusal.{Refusal}
use Rattle.sf_query.specs.declared.refusal.Refusal.TheVariants.{Memory, NoLayer, NoFeature}
use Rattle.sf_near.specs.Answers.{ids_within}
use Rattle.sf_near.specs.Nearest.{is_nearer, nearest_of}
use Rattle.sf_near.specs.Found.{AreTold}
use Rattle.sf_near.specs.declared.distant.Distant.{Distant}

-- just the features are listed that have a point no farther than the root of the bound from one of b, of all points of the plane; rising
pub record AreWithin (layer : LayerContent) (bound : Fraction) (b : Geometry) (ids : List ℕ) : Type 0 where
  pub rising : IsStrictlySortedBy nat_cmp ids
  pub just : (id : ℕ) → Contains ids id
      ↔ ((feature : FeatureContent) × (feature_of layer id ≡ Some feature) × IsWithin (IsOf feature.geometry) (IsOf b) bound)

-- of any layer whose identifiers rise and whose geometries are valid what is computed are just those
abbrev pub WithinIsOverThePlane : Type 0
WithinIsOverThePlane =
    (layer : LayerContent) (bound : Fraction) (b : Geometry) → IsStrictlySortedBy nat_cmp (keys_of layer.features)
    → AllByRecursion (λ feature. IsValid feature.geometry) (values_of layer.features) → IsValid b
    → AreWithin layer bound b (ids_within layer bound b)

-- of the features within a distance
abbrev pub IsFoundWithin : Option LayerContent → Fraction → Geometry → Result (Vec ℕ) Refusal → Type 0
IsFoundWithin None bound b result = result ≡ Err NoLayer
IsFoundWithin (Some layer) bound b (Ok ids) = (ids.items ≡ ids_within layer bound b) × AreWithin layer bound b ids.items
IsFoundWithin (Some layer) bound b (Err refusal) = refusal ≡ Memory

-- of how far a single feature is
abbrev pub IsMeasuredTo : Option FeatureContent → Geometry → Result Square Refusal → Type 0
IsMeasuredTo None b result = result ≡ Err NoFeature
IsMeasuredTo (Some feature) b (Ok square) =
    IsLeastSquare (IsOf feature.geometry) (IsOf b) (number_of square) × IsTrue (fraction_eq (number_of square) (least_square_of feature.geometry b))
IsMeasuredTo (Some feature) b (Err refusal) = refusal ≡ Memory

abbrev pub IsMeasured : Option LayerContent → ℕ → Geometry → Result Square Refusal → Type 0
IsMeasured None id b result = result ≡ Err NoLayer
IsMeasured (Some layer) id b result = IsMeasuredTo (feature_of layer id) b result

-- ---- the nearest

-- each is nearer than all behind it
abbrev pub AreInOrder : List (ℕ × Fraction) → Type 0
AreInOrder [] = Unit {0}
AreInOrder (p ∷ ps) = AllByRecursion (λ q. IsTrue (is_nearer p q)) ps × AreInOrder ps

-- k features, or all where there are fewer, each with the square of its distance from b, over all points of the plane; whichever is not
-- listed is farther than all that are
pub record AreNearest (layer : LayerContent) (k : ℕ) (b : Geometry) (found : List (ℕ × Fraction)) : Type 0 where
  pub in_order : AreInOrder found
  pub as_many : length found ≡ min k (length layer.features)
  pub measured : AllByRecursion
      (λ p. (feature : FeatureContent) × (feature_of layer p.0 ≡ Some feature) × IsLeastSquare (IsOf feature.geometry) (IsOf b) p.1) found
  pub no_other : (id : ℕ) (feature : FeatureContent) (square : Fraction) → feature_of layer id ≡ Some feature
      → IsLeastSquare (IsOf feature.geometry) (IsOf b) square → ¬ (Contains (map (λ p. p.0) found) id)
      → AllByRecursion (λ p. IsTrue (is_nearer p (id, square))) found

-- of any layer whose identifiers rise and whose geometries are valid what is computed are just those
abbrev pub NearestIsOverThePlane : Type 0
NearestIsOverThePlane =
    (layer : LayerContent) (k : ℕ) (b : Geometry) → IsStrictlySortedBy nat_cmp (keys_of layer.features)
    → AllByRecursion (λ feature. IsValid feature.geometry) (values_of layer.features) → IsValid b
    → AreNearest layer k b (nearest_of layer k b)

-- of the nearest features: those that are computed
abbrev pub IsToldNearest : Option LayerContent → ℕ → Geometry → Result (Vec Distant) Refusal → Type 0
IsToldNearest None k b result = result ≡ Err NoLayer
IsToldNearest (Some layer) k b (Ok found) = AreTold found.items (nearest_of layer k b)
IsToldNearest (Some layer) k b (Err refusal) = refusal ≡ Memory
