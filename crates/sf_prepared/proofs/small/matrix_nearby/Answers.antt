use Rattle.sf_prepared.proofs.TransposedLaws.{told-transposed}
use Rattle.sf_prepared.proofs.small.matrix_nearby.Goals as goal

pub returns : goal.returns
returns c = told-transposed c.args.area.now c.args.small.now c.in_ok-matrix.matrix c.transposed.result c.in_ok-matrix.ensures c.transposed.ensures
