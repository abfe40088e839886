use Rattle.std.proofs.Common.{ℕ, map, ◌∷◌, [], subst, sym}
use Rattle.std.proofs.lemmas.List.{map-append}
use Rattle.std.specs.Map.Iter.{deref_pair}
use Rattle.sf_features.specs.Features.{FeatureContent}
use Rattle.sf_layers.specs.ValueIndexes.{HasAll}
use Rattle.sf_layers.proofs.ValueNotes.{has_all-more}
use Rattle.sf_layers.proofs.value_index.ValueIndex.of.Goals as goal

pub loop-id-preserved : goal.loop-id-preserved
loop-id-preserved c =
    subst (HasAll c.args.number c.add_from.new.self) (sym (map-append (deref_pair {K = ℕ} {X = FeatureContent}) c.loop-id.yielded ((c.in-Some.id, c.in-Some.feature) ∷ [])))
    (has_all-more c.args.number c.loop-id.index c.add_from.new.self (map (deref_pair {K = ℕ} {X = FeatureContent}) c.loop-id.yielded) (c.in-Some.id.now, c.in-Some.feature.now)
    c.add_from.ensures.kept c.loop-id.invariant c.in_ok-add_from.ensures.has)
