use Rattle.std.proofs.Common.{◌∙◌, sym, arith}
use Rattle.sf_first_meeting.proofs.TableLaws.{ascend-more}
use Rattle.sf_first_meeting.proofs.vertices.do_ascend.Goals as goal

pub loop-next-init : goal.loop-next-init
loop-next-init c = λ k d h. absurd (omega (arith, h))

pub loop-next-preserved : goal.loop-next-preserved
loop-next-preserved c =
    ascend-more c.args.vertices.now c.loop-next.next _ _ (omega arith) c.loop-next-test.true c.loop-next.invariant (sym c.comes_before.ensures ∙ c.if-not-comes_before.false)

pub returns : goal.returns
returns c = λ t k d h. c.loop-next.invariant k d (omega (arith, h, c.loop-next-test.false))
