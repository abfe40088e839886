use Rattle.sf_patches.proofs.HalvesLaws.{halves-take_back}
use Rattle.sf_patches.proofs.laws.halves_take_back.Goals as goal

pub returns : goal.returns
returns c = halves-take_back
