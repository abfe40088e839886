use Rattle.std.proofs.Common.{◌≡◌, ℕ, ◌∙◌, ap, filter, map, rules}
use Rattle.std.proofs.lemmas.Map.Iter.{iter_end}
use Rattle.std.specs.Map.{keys_of}
use Rattle.std.specs.Map.Iter.{deref_pair}
use Rattle.sf_features.specs.Features.{FeatureContent}
use Rattle.sf_layers.specs.Found.{has_value_that}
use Rattle.sf_layers.proofs.found.ids_among_all.Goals as goal

pub returns : goal.returns
returns g c =
    let all : map (deref_pair {K = ℕ} {X = FeatureContent}) c.loop-id.yielded ≡ c.args.features.now.entries = search (rules, iter_end) in
    c.loop-id.invariant ∙ ap (λ entries. keys_of (filter (λ entry. has_value_that (g.T.ValueTest.test c.args.test.now) c.args.number entry.1) entries)) all
