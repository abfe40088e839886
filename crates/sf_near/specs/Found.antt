-- Internal: who wants to trust the program need not read this file.
-- Features with the squares of their distances, as the code has them.
use Rattle.std.specs.Prelude.{◌≡◌, ◌≤◌, ◌⊎◌, ℕ, Bool, List, [], ◌∷◌, length, IsTrue, pos}
use Rattle.std.specs.Map.{keys_of}
use Rattle.std.specs.Option.{option_map_or}
use Rattle.sf_grid.specs.Fraction.{Fraction, IsFraction, fraction_eq, whole}
use Rattle.sf_geometry.specs.declared.geometry.Geometry.{Geometry}
use Rattle.sf_distance.specs.Mixed.{number_of}
use Rattle.sf_nearness.specs.Least.{least_square_of}
use Rattle.sf_layers.specs.Content.{LayerContent, feature_of}
use Rattle.sf_near.specs.declared.distant.Distant.{Distant}
use Rattle.sf_near.specs.Answers.{ids_within}
use Rattle.sf_near.specs.Nearest.{is_nearer}

-- a feature as the definitions have it
abbrev pub distance_told : Distant → ℕ × Fraction
distance_told d = (d.id, number_of d.square)

abbrev pub is_told_nearer : Distant → Distant → Bool
is_told_nearer d e = is_nearer (distance_told d) (distance_told e)

-- the same feature, and the same number whatever its terms
pub record IsTold (d : Distant) (p : ℕ × Fraction) : Type 0 where
  pub same : d.id ≡ p.0
  pub equal : IsTrue (fraction_eq (number_of d.square) p.1)
  pub told : IsFraction (number_of d.square)
  pub is_number : IsFraction p.1

-- each feature as it is in another list
abbrev pub AreTold : List Distant → List (ℕ × Fraction) → Type 0
AreTold [] [] = Unit {0}
AreTold [] (p ∷ ps) = ⊥
AreTold (d ∷ ds) [] = ⊥
AreTold (d ∷ ds) (p ∷ ps) = IsTold d p × AreTold ds ps

-- the feature under an identifier with the square of its distance; where none is there, with 0
abbrev pub distance_at : LayerContent → Geometry → ℕ → ℕ × Fraction
distance_at layer b id = (id, option_map_or (λ feature. least_square_of feature.geometry b) (feature_of layer id) (whole (pos 0)))

-- the identifiers of all features within some distance, which are k at least, or of all that there are
abbrev pub AreEnough : LayerContent → ℕ → Geometry → List ℕ → Type 0
AreEnough layer k b ids = ((bound : Fraction) × (ids ≡ ids_within layer bound b) × (k ≤ length ids)) ⊎ (ids ≡ keys_of layer.features)
