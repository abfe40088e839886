use Rattle.sf_faults.proofs.AreaLaws.{leaves-told}
use Rattle.sf_faults.proofs.comparing.leaves_area.Goals as goal

pub returns : goal.returns
returns c = leaves-told c.args.area.now c.args.other.now c.in_ok-matrix.matrix.0 _ _ c.is_one_filled.result c.in_ok-matrix.ensures c.is_one_filled.ensures
