use Rattle.std.proofs.Common.{◌∙◌, ◌++◌, ℕ, ap, append-nil, sym}
use Rattle.sf_features.specs.Features.{FeatureContent}
use Rattle.sf_rules.specs.Doubles.{keys_in}
use Rattle.sf_rules.proofs.DoubleLaws.{taken}
use Rattle.sf_rules.proofs.doubles.values_of.Goals as goal

pub loop-id-preserved : goal.loop-id-preserved
loop-id-preserved c =
    let e : ℕ × FeatureContent = (c.in-Some.id.now, c.in-Some.feature.now) in
    taken c.args.number e c.loop-id.id-iterator c.next.new.self _ c.loop-id.keys.items c.push_value.new.keys.items (keys_in c.args.number c.args.layer.now.features) c.in-Some.ensures.steps c.value.ensures c.in_ok-push_value.ensures c.loop-id.invariant

pub returns : goal.returns
returns c =
    sym (append-nil c.loop-id.keys.items) ∙ ap (λ es. c.loop-id.keys.items ++ keys_in c.args.number es) (sym c.in-None.ensures.steps.0) ∙ c.loop-id.invariant
