use Rattle.sf_nearness.proofs.LeavingLaws.{leaving_passes}
use Rattle.sf_nearness.proofs.laws.leaving_passes.Goals as goal

pub returns : goal.returns
returns c = leaving_passes
