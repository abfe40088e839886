use Rattle.std.proofs.Common.{◌≡◌, ℕ, map}
use Rattle.std.specs.Map.{keys_of}
use Rattle.std.specs.Map.Iter.{deref_pair}
use Rattle.sf_features.specs.Features.{FeatureContent}
use Rattle.sf_layers.specs.Moves.{values_in}
use Rattle.sf_layers.proofs.column_moves.ids_with_value.Given as goal

-- the identifiers of the features so far
abbrev pub invariant-loop-id : goal.invariant-loop-id
invariant-loop-id l = l.ids.items ≡ keys_of (values_in l.number (map (deref_pair {K = ℕ} {X = FeatureContent}) l.yielded))
