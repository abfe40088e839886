use Rattle.sf_console.proofs.WellFormedSessions.{serving_keeps_contents_well_formed}
use Rattle.sf_console.proofs.laws.serving_keeps_contents_well_formed.Goals as goal

pub returns : goal.returns
returns c = serving_keeps_contents_well_formed
