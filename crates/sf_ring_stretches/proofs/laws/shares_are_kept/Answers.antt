use Rattle.sf_ring_stretches.proofs.ExchangeLaws.{shares_are_kept}
use Rattle.sf_ring_stretches.proofs.laws.shares_are_kept.Goals as goal

pub returns : goal.returns
returns c = shares_are_kept
