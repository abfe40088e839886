use Rattle.sf_groups.proofs.GroupsFine.{groups-fine}
use Rattle.sf_groups.proofs.laws.groups_keep_well_formed.Goals as goal

pub returns : goal.returns
returns c = groups-fine
