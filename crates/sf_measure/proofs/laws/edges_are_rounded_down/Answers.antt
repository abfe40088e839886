use Rattle.std.proofs.Common.{◌*◌, arith}
use Rattle.sf_measure.specs.Lengths.{length_square, parts_of_step}
use Rattle.sf_measure.proofs.RootLaws.{root-is}
use Rattle.sf_measure.proofs.laws.edges_are_rounded_down.Goals as goal

pub returns : goal.returns
returns c = λ e small. root-is (length_square e * (parts_of_step * parts_of_step)) (omega (arith, small))
