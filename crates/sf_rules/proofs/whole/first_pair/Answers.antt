use Rattle.std.proofs.Common.{◌∙◌, ℕ, sym}
use Rattle.sf_features.specs.Features.{FeatureContent}
use Rattle.sf_rules.specs.Looks.{pairs_of_entry}
use Rattle.sf_rules.proofs.WholeLaws.{found-here, none-here, row-least}
use Rattle.sf_rules.proofs.whole.first_pair.Goals as goal

pub returns-then-is_some : goal.returns-then-is_some
returns-then-is_some c =
    let e : ℕ × FeatureContent = (c.in-Some.id.now, c.in-Some.feature.now) in
    found-here (pairs_of_entry c.args.between.now) c.loop-id.id-iterator e c.next.new.self _ c.in_ok-least.least c.loop-id.invariant c.in-Some.ensures.steps
    (c.in_ok-least.ensures ∙ row-least c.args.between.now e c.valid.result.now c.requires c.valid.ensures.same) (sym c.is_some.ensures ∙ c.if-is_some.true)

pub loop-id-preserved : goal.loop-id-preserved
loop-id-preserved c =
    let e : ℕ × FeatureContent = (c.in-Some.id.now, c.in-Some.feature.now) in
    none-here (pairs_of_entry c.args.between.now) c.loop-id.id-iterator e c.next.new.self _ c.in_ok-least.least c.loop-id.invariant c.in-Some.ensures.steps
    (c.in_ok-least.ensures ∙ row-least c.args.between.now e c.valid.result.now c.requires c.valid.ensures.same) (sym c.is_some.ensures ∙ c.if-is_some.false)
