use Rattle.sf_console.proofs.WellFormedSessions.{fresh_machines_are_well_formed}
use Rattle.sf_console.proofs.laws.fresh_machines_are_well_formed.Goals as goal

pub returns : goal.returns
returns c = fresh_machines_are_well_formed
