use Rattle.std.proofs.Common.{◌≡◌, ℕ, ◌∷◌, length, sum_by, ap, ◌∙◌, arith}
use Rattle.std.proofs.lemmas.List.Sums.{sum_by-cons}
use Rattle.std.proofs.lemmas.Map.Iter.{rest_more}
use Rattle.std.specs.Map.Iter.{deref_pair}
use Rattle.sf_features.specs.Features.{FeatureContent}
use Rattle.sf_steps.specs.Inverses.{feature_weight}
use Rattle.sf_steps.proofs.weight.layer_weight.Goals as goal
use Rattle.sf_steps.proofs.weight.layer_weight.Goals.{In-Some}

-- the features that were left are this one and those that are left then
turn : (c : In-Some) → c.loop-feature.feature-iterator ≡ (c.in-Some.field-0-0.now, c.in-Some.feature.now) ∷ c.next.new.self
turn c = rest_more (deref_pair {K = ℕ} {X = FeatureContent}) _ _ _ (c.in-Some.field-0-0, c.in-Some.feature) c.in-Some.is c.next.ensures.steps

pub overflow_add-weight : goal.overflow_add-weight
overflow_add-weight c =
    let left = turn (goal.at.overflow_add-weight c).In-Some in
    omega (arith, ap length left, c.loop-feature.invariant.1, c.feature_weight-weight.ensures.bound)

pub loop-feature-preserved : goal.loop-feature-preserved
loop-feature-preserved c =
    let left = turn (goal.at.loop-feature-preserved c).In-Some in
    let whole = ap (sum_by (λ entry. feature_weight entry.1)) left ∙ sum_by-cons (λ entry. feature_weight entry.1) (c.in-Some.field-0-0.now, c.in-Some.feature.now) c.next.new.self in
    (omega (arith, whole, c.loop-feature.invariant.0, c.feature_weight-weight.ensures.weight), omega (arith, ap length left, c.loop-feature.invariant.1, c.feature_weight-weight.ensures.bound))
