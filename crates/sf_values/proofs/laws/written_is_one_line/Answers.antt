use Rattle.sf_values.proofs.OneLine.{value-line}
use Rattle.sf_values.proofs.laws.written_is_one_line.Goals as goal

pub returns : goal.returns
returns c = value-line
