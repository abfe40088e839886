use Rattle.sf_pieces.proofs.PassLaws.{items-pass}
use Rattle.sf_pieces.proofs.laws.items_pass_as_points.Goals as goal

pub returns : goal.returns
returns c = items-pass
