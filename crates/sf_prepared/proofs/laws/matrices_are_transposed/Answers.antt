use Rattle.sf_prepared.proofs.TransposedLaws.{matrices_are_transposed as law}
use Rattle.sf_prepared.proofs.laws.matrices_are_transposed.Goals as goal

pub returns : goal.returns
returns c = law
