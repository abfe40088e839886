use Rattle.std.proofs.Common.{◌∙◌, sym}
use Rattle.sf_rules.specs.declared.breaks.Break.TheVariants.{Pair}
use Rattle.sf_rules.specs.Looks.{is_partner}
use Rattle.sf_rules.proofs.LoopLaws.{kept-more, passed-more}
use Rattle.sf_rules.proofs.pairs.least_with.Goals as goal
use Rattle.sf_rules.proofs.pairs.least_with.Goals.{then-is_partner, else-is_partner}

pub loop-other-preserved : goal.loop-other-preserved
loop-other-preserved c =
    elim c.if-is_partner.branch [
      | then-is_partner w ↦ kept-more (λ j. Pair c.args.id j) (is_partner c.args.between.now c.args.id) c.as_slice-other-items.result.now c.loop-other.other-index _ c.args.least c.loop-other.least
          c.if-is_partner.least c.loop-other-test.true c.loop-other.invariant (sym c.is_partner.ensures ∙ w.if-is_partner.true) (w.least-is ∙ w.lesser-least.ensures)
      | else-is_partner w ↦ passed-more (λ j. Pair c.args.id j) (is_partner c.args.between.now c.args.id) c.as_slice-other-items.result.now c.loop-other.other-index _ c.args.least c.loop-other.least
          c.if-is_partner.least c.loop-other-test.true c.loop-other.invariant (sym c.is_partner.ensures ∙ w.if-is_partner.false) w.least-is
    ]
