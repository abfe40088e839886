use Rattle.sf_valid_rules.proofs.FirstLaws.{first_fault-over_plane}
use Rattle.sf_valid_rules.proofs.laws.first_fault_is_over_the_plane.Goals as goal

pub returns : goal.returns
returns c = first_fault-over_plane
