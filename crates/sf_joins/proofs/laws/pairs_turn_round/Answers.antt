use Rattle.sf_joins.proofs.ConverseLaws.{pairs-turn-round}
use Rattle.sf_joins.proofs.laws.pairs_turn_round.Goals as goal

pub returns : goal.returns
returns c = pairs-turn-round
