use Rattle.sf_rules.proofs.HoldsLaws.{rules_are_over_the_plane}
use Rattle.sf_rules.proofs.laws.rules_are_over_the_plane.Goals as goal

pub returns : goal.returns
returns c = rules_are_over_the_plane
