-- Joins computed, of points.
use Rattle.std.proofs.Common.{◌≡◌, ℕ, true, false, List, [], ◌∷◌, pos, refl}
use Rattle.sf_geometry.specs.declared.geometry.Geometry.TheVariants.{Point}
use Rattle.sf_features.specs.Features.{FeatureContent}
use Rattle.sf_layers.specs.Content.{LayerContent}
use Rattle.sf_layers.specs.declared.layer_kind.LayerKind.TheVariants.{Any}
use Rattle.sf_known.specs.declared.predicate.Predicate.TheVariants.{Equals, Disjoint, Intersects}
use Rattle.sf_near.specs.Passed.{Named}
use Rattle.sf_near.specs.declared.pair_ask.PairAsk.TheVariants.{Matrix, Near}
use Rattle.sf_joins.specs.Joins.{pairs_found, found_beside}

abbrev at : ℕ → ℕ → FeatureContent
at x y = record { geometry = Point (record { x = pos x; y = pos y }); values = [] }

abbrev points : List (ℕ × FeatureContent) → LayerContent
points features = record { kind = Any; next_id = 9; next_column = 1; columns = []; features = features }

abbrev a : LayerContent
a = points ((1, at 1 1) ∷ (2, at 2 2) ∷ (4, at 1 1) ∷ [])

abbrev b : LayerContent
b = points ((1, at 2 2) ∷ (3, at 1 1) ∷ [])

two_layers : pairs_found false a (Matrix (Named Equals)) b ≡ (1, 3) ∷ (2, 1) ∷ (4, 3) ∷ []
two_layers = refl

one_layer : pairs_found true a (Matrix (Named Intersects)) a ≡ (1, 4) ∷ (4, 1) ∷ []
one_layer = refl

apart : pairs_found true a (Matrix (Named Disjoint)) a ≡ (1, 2) ∷ (2, 1) ∷ (2, 4) ∷ (4, 2) ∷ []
apart = refl

none_there : pairs_found false a (Matrix (Named Equals)) (points []) ≡ []
none_there = refl

beside_itself : found_beside true a (Matrix (Named Equals)) (1, at 1 1) ≡ 4 ∷ []
beside_itself = refl

-- the root of 2 is 1.41421..
near : pairs_found false a (Near 1415) b ≡ (1, 1) ∷ (1, 3) ∷ (2, 1) ∷ (2, 3) ∷ (4, 1) ∷ (4, 3) ∷ []
near = refl

not_near : pairs_found false a (Near 1414) b ≡ (1, 3) ∷ (2, 1) ∷ (4, 3) ∷ []
not_near = refl
