use Rattle.sf_distance.proofs.TextLaws.{equal_is_written_alike}
use Rattle.sf_distance.proofs.laws.equal_is_written_alike.Goals as goal

pub returns : goal.returns
returns c = equal_is_written_alike
