use Rattle.sf_pieces.proofs.CountLaws.{items-count}
use Rattle.sf_pieces.proofs.laws.items_count.Goals as goal

pub returns : goal.returns
returns c = items-count
