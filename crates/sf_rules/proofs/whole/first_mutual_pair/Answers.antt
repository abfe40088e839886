use Rattle.std.proofs.Common.{◌∙◌, ℕ, sym}
use Rattle.sf_features.specs.Features.{FeatureContent}
use Rattle.sf_rules.proofs.MutualLaws.{once-found, once-none}
use Rattle.sf_rules.proofs.whole.first_mutual_pair.Goals as goal

pub returns-then-is_some : goal.returns-then-is_some
returns-then-is_some c =
    let e : ℕ × FeatureContent = (c.in-Some.id.now, c.in-Some.feature.now) in
    once-found c.args.between.now c.requires c.loop-id.id-iterator c.next.new.self e c.valid.result.now c.in_ok-first.first c.loop-id.invariant c.in-Some.ensures.steps c.valid.ensures.same
    c.in_ok-first.ensures (sym c.is_some.ensures ∙ c.if-is_some.true)

pub loop-id-preserved : goal.loop-id-preserved
loop-id-preserved c =
    let e : ℕ × FeatureContent = (c.in-Some.id.now, c.in-Some.feature.now) in
    once-none c.args.between.now c.requires c.loop-id.id-iterator c.next.new.self e c.valid.result.now c.in_ok-first.first c.loop-id.invariant c.in-Some.ensures.steps c.valid.ensures.same
    c.in_ok-first.ensures (sym c.is_some.ensures ∙ c.if-is_some.false)
