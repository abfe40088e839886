use Rattle.sf_valid_rules.proofs.FirstLaws.{simplicity-over_plane}
use Rattle.sf_valid_rules.proofs.laws.simplicity_is_over_the_plane.Goals as goal

pub returns : goal.returns
returns c = simplicity-over_plane
