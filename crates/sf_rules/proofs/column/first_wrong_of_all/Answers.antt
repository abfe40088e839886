use Rattle.std.proofs.Common.{◌∙◌, ℕ, ap, flat_map, sym}
use Rattle.sf_features.specs.Features.{FeatureContent}
use Rattle.sf_rules.specs.ColumnLooks.{wrong_of_entry}
use Rattle.sf_rules.specs.Rules.{first_of}
use Rattle.sf_rules.proofs.WholeLaws.{found-here, none-here}
use Rattle.sf_rules.proofs.ColumnLaws.{all-wrong, of-entry}
use Rattle.sf_rules.proofs.column.first_wrong_of_all.Goals as goal

pub returns-then-is_some : goal.returns-then-is_some
returns-then-is_some c =
    let e : ℕ × FeatureContent = (c.in-Some.id.now, c.in-Some.feature.now) in
    found-here (wrong_of_entry c.args.demand.now c.args.number) c.loop-id.id-iterator e c.next.new.self _ c.first_wrong-first.result c.loop-id.invariant c.in-Some.ensures.steps
    (of-entry c.args.demand.now c.args.number e _ c.first_wrong-first.result c.value.ensures c.first_wrong-first.ensures) (sym c.is_some.ensures ∙ c.if-is_some.true)
    ∙ ap first_of (all-wrong c.args.demand.now c.args.number c.args.layer.now.features)

pub loop-id-preserved : goal.loop-id-preserved
loop-id-preserved c =
    let e : ℕ × FeatureContent = (c.in-Some.id.now, c.in-Some.feature.now) in
    none-here (wrong_of_entry c.args.demand.now c.args.number) c.loop-id.id-iterator e c.next.new.self _ c.first_wrong-first.result c.loop-id.invariant c.in-Some.ensures.steps
    (of-entry c.args.demand.now c.args.number e _ c.first_wrong-first.result c.value.ensures c.first_wrong-first.ensures) (sym c.is_some.ensures ∙ c.if-is_some.false)

pub returns : goal.returns
returns c =
    sym (ap (λ es. first_of (flat_map (wrong_of_entry c.args.demand.now c.args.number) es)) c.in-None.ensures.steps.0)
    ∙ c.loop-id.invariant
    ∙ ap first_of (all-wrong c.args.demand.now c.args.number c.args.layer.now.features)
