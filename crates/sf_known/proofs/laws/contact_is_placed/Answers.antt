use Rattle.sf_known.proofs.PlacedLaws.{contact_is_placed}
use Rattle.sf_known.proofs.laws.contact_is_placed.Goals as goal

pub returns : goal.returns
returns c = contact_is_placed
