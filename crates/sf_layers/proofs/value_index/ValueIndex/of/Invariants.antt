use Rattle.std.proofs.Common.{ℕ, map}
use Rattle.std.specs.Map.Iter.{deref_pair}
use Rattle.sf_features.specs.Features.{FeatureContent}
use Rattle.sf_layers.specs.ValueIndexes.{HasAll}
use Rattle.sf_layers.proofs.value_index.ValueIndex.of.Given as goal

-- the pairs of the features so far
abbrev pub invariant-loop-id : goal.invariant-loop-id
invariant-loop-id l = HasAll l.number l.index (map (deref_pair {K = ℕ} {X = FeatureContent}) l.yielded)
