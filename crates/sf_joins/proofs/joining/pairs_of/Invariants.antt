use Rattle.std.proofs.Common.{◌≡◌, ℕ, flat_map, map}
use Rattle.std.specs.Map.Iter.{deref_pair}
use Rattle.sf_features.specs.Features.{FeatureContent}
use Rattle.sf_joins.proofs.PlaneLaws.{row}
use Rattle.sf_joins.proofs.joining.pairs_of.Given as goal

-- the pairs of the features so far
abbrev pub invariant-loop-id : goal.invariant-loop-id
invariant-loop-id l = l.pairs.items ≡ flat_map (row l.one l.ask l.second) (map (deref_pair {K = ℕ} {X = FeatureContent}) l.yielded)
