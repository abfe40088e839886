use Rattle.sf_first_meeting.proofs.TableLaws.{table-read}
use Rattle.sf_first_meeting.proofs.sweep.first_meeting.Goals as goal

pub sweep-requires : goal.sweep-requires
sweep-requires c =
    table-read c.args.points.now c.in_ok-vertices.vertices.items _ _ c.requires c.lie_on_grid.ensures c.in_ok-vertices.ensures c.as_slice.ensures.value c.as_slice-then-do_ascend.ensures.value
    (c.do_ascend.ensures c.if-do_ascend.true)

pub returns : goal.returns
returns c = λ e. let no : ⊥ = cc in absurd no
