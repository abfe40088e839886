-- Which features chains lead to, computed: round by round, as many as there are features.
use Rattle.std.specs.Prelude.{ℕ, zero, suc, Bool, true, false, not, ◌&&◌, ◌||◌, List, Option, None, Some, filter, length, nat_eq}
use Rattle.std.specs.List.{list_any}
use Rattle.std.specs.Map.{keys_of}
use Rattle.sf_features.specs.Features.{FeatureContent}
use Rattle.sf_layers.specs.Content.{LayerContent}
use Rattle.sf_query.specs.declared.ask.Ask.{Ask}
use Rattle.sf_joins.specs.Joins.{is_pair}
use Rattle.sf_joins.specs.Passed.{Matrix}
use Rattle.sf_reach.specs.Chains.{Stop}

-- a feature ends chains
abbrev pub is_end : Option Stop → ℕ × FeatureContent → Bool
is_end None entry = false
is_end (Some stop) entry = list_any (is_pair stop.is_own (Matrix stop.ask) entry) stop.layer.features

-- a chain goes on from a feature to another one
abbrev pub is_step : Ask → Option Stop → ℕ × FeatureContent → ℕ × FeatureContent → Bool
is_step ask stop from to = not (is_end stop from) && is_pair true (Matrix ask) from to

-- the identifiers have this one
abbrev pub is_among : List ℕ → ℕ × FeatureContent → Bool
is_among ids entry = list_any (nat_eq entry.0) ids

-- the features that are given, and those that a step leads to from features found so far
abbrev pub are_next : LayerContent → Ask → Option Stop → List ℕ → List ℕ → ℕ × FeatureContent → Bool
are_next layer ask stop given found entry =
    is_among given entry || list_any (λ from. is_among found from && is_step ask stop from entry) layer.features

-- the identifiers of what is found after so many rounds
abbrev pub found_after : LayerContent → Ask → Option Stop → List ℕ → ℕ → List ℕ
found_after layer ask stop given zero = keys_of (filter (is_among given) layer.features)
found_after layer ask stop given (suc rounds) =
    keys_of (filter (are_next layer ask stop given (found_after layer ask stop given rounds)) layer.features)

-- computes the identifiers of the features that are reached (AreReached), as the law ReachedIsOverThePlane says; rising
abbrev pub ids_reached : LayerContent → Ask → Option Stop → List ℕ → List ℕ
ids_reached layer ask stop given = found_after layer ask stop given (length layer.features)
