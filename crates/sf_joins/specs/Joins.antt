-- Which pairs of features of two layers are as asked: the first feature is a, the second b.
use Rattle.std.specs.Prelude.{◌≡◌, ◌↔◌, ℕ, Bool, not, ◌&&◌, List, flat_map, filter, map, Contains, IsTrue, Some, nat_eq}
use Rattle.std.specs.List.{AllByRecursion}
use Rattle.std.specs.List.Sorted.{IsStrictlySortedBy}
use Rattle.std.specs.Map.{keys_of, values_of}
use Rattle.std.specs.Ordering.{nat_cmp, ordering_then}
use Rattle.std.specs.declared.cmp.Ordering.{Ordering}
use Rattle.sf_features.specs.Features.{FeatureContent}
use Rattle.sf_layers.specs.Content.{LayerContent, feature_of}
use Rattle.sf_valid_rules.specs.Validity.{IsValid}
use Rattle.sf_near.specs.declared.pair_ask.PairAsk.{PairAsk}
use Rattle.sf_near.specs.Pairs.{AreAsked, are_asked}

-- whether two features, each with its identifier, are distinct: where both are of one layer, by their identifiers
abbrev pub are_distinct : Bool → ℕ → ℕ → Bool
are_distinct one a b = not (one && nat_eq a b)

-- whether they are distinct and as asked
abbrev pub is_pair : Bool → PairAsk → ℕ × FeatureContent → ℕ × FeatureContent → Bool
is_pair one ask a b = are_distinct one a.0 b.0 && are_asked ask a.1.geometry b.1.geometry

-- the pairs of identifiers, rising by the first and then by the second
abbrev pub pairs_found : Bool → LayerContent → PairAsk → LayerContent → List (ℕ × ℕ)
pairs_found one first ask second =
    flat_map (λ a. map (λ b. (a.0, b.0)) (filter (is_pair one ask a) second.features)) first.features

-- the identifiers of the features of the first layer beside one feature of the second, rising
abbrev pub found_beside : Bool → LayerContent → PairAsk → ℕ × FeatureContent → List ℕ
found_beside one first ask b = keys_of (filter (λ a. is_pair one ask a b) first.features)

-- ---- over all points of the plane

-- two features are distinct and as asked over the plane, by their matrix or by their distance
pub record IsJoined (one : Bool) (first : LayerContent) (ask : PairAsk) (second : LayerContent) (i j : ℕ) : Type 0 where
  pub a : FeatureContent
  pub b : FeatureContent
  pub first_there : feature_of first i ≡ Some a
  pub second_there : feature_of second j ≡ Some b
  pub distinct : IsTrue (are_distinct one i j)
  pub asked : AreAsked ask a.geometry b.geometry

-- the order of pairs
abbrev pub pair_cmp : ℕ × ℕ → ℕ × ℕ → Ordering
pair_cmp p q = ordering_then (nat_cmp p.0 q.0) (nat_cmp p.1 q.1)

-- just the pairs that are joined are listed, rising
pub record AreJoined (one : Bool) (first : LayerContent) (ask : PairAsk) (second : LayerContent) (pairs : List (ℕ × ℕ)) : Type 0 where
  pub rising : IsStrictlySortedBy pair_cmp pairs
  pub just : (i j : ℕ) → Contains pairs (i, j) ↔ IsJoined one first ask second i j

-- just the features beside one that are joined to it are listed, rising
pub record AreBeside (one : Bool) (first : LayerContent) (ask : PairAsk) (second : LayerContent) (j : ℕ) (ids : List ℕ) : Type 0 where
  pub rising : IsStrictlySortedBy nat_cmp ids
  pub just : (i : ℕ) → Contains ids i ↔ IsJoined one first ask second i j

-- the geometries of a layer are valid
abbrev pub HasValid : LayerContent → Type 0
HasValid layer = AllByRecursion (λ feature. IsValid feature.geometry) (values_of layer.features)

-- of layers whose identifiers rise and whose geometries are valid what is computed are just those
abbrev pub JoinsAreOverThePlane : Type 0
JoinsAreOverThePlane =
    (one : Bool) (first second : LayerContent) (ask : PairAsk)
    → IsStrictlySortedBy nat_cmp (keys_of first.features) → IsStrictlySortedBy nat_cmp (keys_of second.features) → HasValid first → HasValid second
    → AreJoined one first ask second (pairs_found one first ask second)

abbrev pub BesideIsOverThePlane : Type 0
BesideIsOverThePlane =
    (one : Bool) (first second : LayerContent) (ask : PairAsk) (id : ℕ) (feature : FeatureContent)
    → IsStrictlySortedBy nat_cmp (keys_of first.features) → HasValid first → IsValid feature.geometry → feature_of second id ≡ Some feature
    → AreBeside one first ask second id (found_beside one first ask (id, feature))
