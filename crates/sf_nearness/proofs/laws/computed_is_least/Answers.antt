use Rattle.sf_nearness.proofs.PairLaws.{computed_is_least}
use Rattle.sf_nearness.proofs.laws.computed_is_least.Goals as goal

pub returns : goal.returns
returns c = computed_is_least
