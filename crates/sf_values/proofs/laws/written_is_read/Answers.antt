use Rattle.sf_values.proofs.WrittenValues.{value-read}
use Rattle.sf_values.proofs.laws.written_is_read.Goals as goal

pub returns : goal.returns
returns c = value-read
