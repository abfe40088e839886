use Rattle.sf_ring_stretches.proofs.ExchangeLaws.{other_rings_are_one_sided}
use Rattle.sf_ring_stretches.proofs.laws.other_rings_are_one_sided.Goals as goal

pub returns : goal.returns
returns c = other_rings_are_one_sided
