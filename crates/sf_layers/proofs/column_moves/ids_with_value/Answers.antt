use Rattle.std.proofs.Common.{◌≡◌, ◌∙◌, ◌++◌, ◌∷◌, [], ℕ, None, IsSome, map, sym, ap, rules}
use Rattle.std.proofs.lemmas.List.{map-append}
use Rattle.std.specs.Map.{keys_of}
use Rattle.std.specs.Map.Iter.{deref_pair}
use Rattle.sf_features.specs.Features.{FeatureContent, value_in}
use Rattle.sf_layers.specs.Moves.{values_in}
use Rattle.sf_layers.proofs.ColumnMoves.{keys-values_in-none, keys-values_in-some}
use Rattle.sf_layers.proofs.column_moves.ids_with_value.Goals as goal

pub loop-id-preserved-in-Continue-branch-2 : goal.loop-id-preserved-in-Continue-branch-2
loop-id-preserved-in-Continue-branch-2 c =
    let pushed : c.push.new.self.items ≡ c.loop-id.ids.items ++ c.in-Some.id.now ∷ [] = search rules in
    let some : IsSome (value_in c.args.number c.in-Some.feature.now) = search rules in
    pushed ∙ ap (λ ids. ids ++ c.in-Some.id.now ∷ []) c.loop-id.invariant
    ∙ sym (keys-values_in-some c.args.number c.in-Some.id.now c.in-Some.feature.now (map (deref_pair {K = ℕ} {X = FeatureContent}) c.loop-id.yielded) some)
    ∙ ap (λ es. keys_of (values_in c.args.number es)) (sym (map-append (deref_pair {K = ℕ} {X = FeatureContent}) c.loop-id.yielded ((c.in-Some.id, c.in-Some.feature) ∷ [])))

pub loop-id-preserved : goal.loop-id-preserved
loop-id-preserved c =
    let none : value_in c.args.number c.in-Some.feature.now ≡ None = search rules in
    c.loop-id.invariant
    ∙ sym (keys-values_in-none c.args.number c.in-Some.id.now c.in-Some.feature.now (map (deref_pair {K = ℕ} {X = FeatureContent}) c.loop-id.yielded) none)
    ∙ ap (λ es. keys_of (values_in c.args.number es)) (sym (map-append (deref_pair {K = ℕ} {X = FeatureContent}) c.loop-id.yielded ((c.in-Some.id, c.in-Some.feature) ∷ [])))
