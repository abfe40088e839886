use Rattle.std.proofs.Common.{◌≡◌, filter, ℕ, map}
use Rattle.std.specs.Map.{keys_of}
use Rattle.std.specs.Map.Iter.{deref_pair}
use Rattle.sf_features.specs.Features.{FeatureContent}
use Rattle.sf_layers.specs.Found.{has_value_that}
use Rattle.sf_layers.proofs.found.ids_among_all.Given as goal

-- those among the features so far
abbrev pub invariant-loop-id : goal.invariant-loop-id
invariant-loop-id g l =
    l.ids.items ≡ keys_of (filter (λ entry. has_value_that (g.T.ValueTest.test l.test) l.number entry.1) (map (deref_pair {K = ℕ} {X = FeatureContent}) l.yielded))
