-- Internal: who wants to trust the program need not read this file.
-- What the calls of joins answer: as it is computed, and over all points of the plane.
use Rattle.std.specs.Prelude.{◌≡◌, ℕ, Bool, Option, None, Some, Result, Ok, Err}
use Rattle.sf_features.specs.Features.{FeatureContent}
use Rattle.sf_layers.specs.Content.{LayerContent, feature_of}
use Rattle.sf_near.specs.declared.pair_ask.PairAsk.{PairAsk}
use Rattle.sf_near.specs.Passed.{Refusal}
use Rattle.sf_near.specs.Passed.{Memory, NoLayer, NoFeature}
use Rattle.sf_joins.specs.Joins.{AreJoined, AreBeside, pairs_found, found_beside}
use Rattle.sf_joins.specs.declared.joined.Joined.{Joined}
use Rattle.sf_joins.specs.declared.joined.Beside.{Beside}

-- of two layers: the pairs; out of memory in their place alone
abbrev pub IsJoinOf : Bool → LayerContent → PairAsk → LayerContent → Result Joined Refusal → Type 0
IsJoinOf one first ask second (Ok joined) = (joined.pairs.items ≡ pairs_found one first ask second) × AreJoined one first ask second joined.pairs.items
IsJoinOf one first ask second (Err refusal) = refusal ≡ Memory

-- of two names: NoLayer where a layer is missing
abbrev pub IsJoin : Bool → Option LayerContent → PairAsk → Option LayerContent → Result Joined Refusal → Type 0
IsJoin one None ask second result = result ≡ Err NoLayer
IsJoin one (Some first) ask None result = result ≡ Err NoLayer
IsJoin one (Some first) ask (Some second) result = IsJoinOf one first ask second result

-- beside one feature: its identifier is searched last
abbrev pub IsBesideOf : Bool → LayerContent → PairAsk → LayerContent → ℕ → Option FeatureContent → Result Beside Refusal → Type 0
IsBesideOf one first ask second id None result = result ≡ Err NoFeature
IsBesideOf one first ask second id (Some feature) (Ok beside) =
    (beside.ids.items ≡ found_beside one first ask (id, feature)) × AreBeside one first ask second id beside.ids.items
IsBesideOf one first ask second id (Some feature) (Err refusal) = refusal ≡ Memory

abbrev pub IsBeside : Bool → Option LayerContent → PairAsk → Option LayerContent → ℕ → Result Beside Refusal → Type 0
IsBeside one None ask second id result = result ≡ Err NoLayer
IsBeside one (Some first) ask None id result = result ≡ Err NoLayer
IsBeside one (Some first) ask (Some second) id result = IsBesideOf one first ask second id (feature_of second id) result
