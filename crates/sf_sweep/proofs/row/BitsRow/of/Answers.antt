use Rattle.sf_sweep.proofs.ParityRowLaws.{row-filled}
use Rattle.sf_sweep.proofs.row.BitsRow.of.Goals as goal

pub returns : goal.returns
returns g c = row-filled g.row.N c.args.marks.now c.first_marks-first.result.now c.copy_from_slice.new.self c.split_at_mut.result.1.now c.first_marks-first.ensures c.copy_from_slice.ensures.after c.split_at_mut.ensures.back
