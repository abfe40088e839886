use Rattle.std.proofs.Common.{◌≡◌, ◌+◌, ◌*◌, ◌^◌, ◌≤◌, length, sum_by}
use Rattle.sf_steps.specs.Inverses.{feature_weight}
use Rattle.sf_steps.proofs.weight.layer_weight.Given as goal

-- with the features that are left it comes to the whole, and they are few enough
abbrev pub invariant-loop-feature : goal.invariant-loop-feature
invariant-loop-feature l =
    (l.weight + sum_by (λ entry. feature_weight entry.1) l.feature-iterator ≡ sum_by (λ entry. feature_weight entry.1) l.layer.features + length l.layer.columns)
    × (l.weight + 2 ^ 21 * length l.feature-iterator ≤ 2 ^ 63 + 2 ^ 53)
