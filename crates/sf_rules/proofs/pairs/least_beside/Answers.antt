use Rattle.std.proofs.Common.{◌∙◌, sym}
use Rattle.sf_rules.specs.declared.breaks.Break.TheVariants.{Pair}
use Rattle.sf_rules.specs.Looks.{is_partnered}
use Rattle.sf_rules.proofs.LoopLaws.{kept-more, passed-more}
use Rattle.sf_rules.proofs.pairs.least_beside.Goals as goal
use Rattle.sf_rules.proofs.pairs.least_beside.Goals.{then-is_partnered, else-is_partnered}

pub loop-other-preserved : goal.loop-other-preserved
loop-other-preserved c =
    elim c.if-is_partnered.branch [
      | then-is_partnered w ↦ kept-more (λ i. Pair i c.args.id) (is_partnered c.args.between.now c.args.id) c.as_slice-other-items.result.now c.loop-other.other-index _ c.args.least c.loop-other.least
          c.if-is_partnered.least c.loop-other-test.true c.loop-other.invariant (sym c.is_partnered.ensures ∙ w.if-is_partnered.true) (w.least-is ∙ w.lesser-least.ensures)
      | else-is_partnered w ↦ passed-more (λ i. Pair i c.args.id) (is_partnered c.args.between.now c.args.id) c.as_slice-other-items.result.now c.loop-other.other-index _ c.args.least c.loop-other.least
          c.if-is_partnered.least c.loop-other-test.true c.loop-other.invariant (sym c.is_partnered.ensures ∙ w.if-is_partnered.false) w.least-is
    ]
