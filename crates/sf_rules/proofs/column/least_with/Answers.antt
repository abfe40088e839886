use Rattle.std.proofs.Common.{◌∙◌, ap, sym}
use Rattle.sf_rules.specs.Breaks.{lesser}
use Rattle.sf_rules.specs.ColumnLooks.{double_of, is_other}
use Rattle.sf_rules.proofs.LoopLaws.{kept-more, passed-more}
use Rattle.sf_rules.proofs.column.least_with.Goals as goal
use Rattle.sf_rules.proofs.column.least_with.Goals.{then-is_other, else-is_other}

pub loop-other-preserved : goal.loop-other-preserved
loop-other-preserved c =
    elim c.if-is_other.branch [
      | then-is_other w ↦ kept-more (double_of c.args.id) (is_other c.args.column.now c.args.id) c.args.others.now c.loop-other.other-index _ c.args.least c.loop-other.least
          c.if-is_other.least c.loop-other-test.true c.loop-other.invariant (sym c.is_other.ensures ∙ w.if-is_other.true) (w.least-is ∙ w.lesser-least.ensures ∙ ap (λ b. lesser b c.loop-other.least) w.double.ensures)
      | else-is_other w ↦ passed-more (double_of c.args.id) (is_other c.args.column.now c.args.id) c.args.others.now c.loop-other.other-index _ c.args.least c.loop-other.least
          c.if-is_other.least c.loop-other-test.true c.loop-other.invariant (sym c.is_other.ensures ∙ w.if-is_other.false) w.least-is
    ]
