use Rattle.std.proofs.Common.{◌≡◌, ◌++◌, ℕ, map}
use Rattle.std.specs.Map.Iter.{deref_pair}
use Rattle.sf_features.specs.Features.{FeatureContent}
use Rattle.sf_together.specs.Exchanges.{key_at}
use Rattle.sf_together.proofs.removals.push_keys.Given as goal

-- the keys before, and those of the features so far
abbrev pub invariant-loop-id : goal.invariant-loop-id
invariant-loop-id l = l.keys.items ≡ l.initial.keys.items ++ map (key_at l.place) (map (deref_pair {K = ℕ} {X = FeatureContent}) l.yielded)
