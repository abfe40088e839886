use Rattle.sf_prepared.proofs.PlacedLaws.{apart_from_lines as law}
use Rattle.sf_prepared.proofs.laws.apart_from_lines.Goals as goal

pub returns : goal.returns
returns c = law
