use Rattle.sf_console.proofs.WellFormedSessions.{sessions_keep_contents_well_formed}
use Rattle.sf_console.proofs.laws.sessions_keep_contents_well_formed.Goals as goal

pub returns : goal.returns
returns c = sessions_keep_contents_well_formed
