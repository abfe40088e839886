use Rattle.sf_patches.proofs.HalvesLaws.{fits-growing, fits-removing}
use Rattle.sf_patches.proofs.halves.Halves.exchange.Goals as goal

pub exchange-requires : goal.exchange-requires
exchange-requires c = fits-growing c.args.store.now c.args.self.now c.requires

pub exchange-requires-2 : goal.exchange-requires-2
exchange-requires-2 c = fits-removing c.args.store.now c.exchange.new.store c.args.self.now c.requires c.in_ok-exchange.ensures.exchanged
