use Rattle.sf_ring_stretches.proofs.ExchangeLaws.{rings_agree_outside}
use Rattle.sf_ring_stretches.proofs.laws.rings_agree_outside.Goals as goal

pub returns : goal.returns
returns c = rings_agree_outside
