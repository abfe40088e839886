use Rattle.std.proofs.Common.{◌≡◌, ℕ, map}
use Rattle.std.specs.Map.Iter.{deref_pair}
use Rattle.sf_features.specs.Features.{FeatureContent}
use Rattle.sf_layers.specs.Boxes.{boxes_of}
use Rattle.sf_layers.proofs.index.boxes_of.Given as goal

-- the boxes of the features so far
abbrev pub invariant-loop-id : goal.invariant-loop-id
invariant-loop-id l = l.boxes.items ≡ boxes_of (map (deref_pair {K = ℕ} {X = FeatureContent}) l.yielded)
