use Rattle.sf_console.proofs.LawProofs.{nearest_replies_are_over_the_plane}
use Rattle.sf_console.proofs.laws.nearest_replies_are_over_the_plane.Goals as goal

pub returns : goal.returns
returns c = nearest_replies_are_over_the_plane
