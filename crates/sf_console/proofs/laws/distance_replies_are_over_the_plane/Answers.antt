use Rattle.sf_console.proofs.LawProofs.{distance_replies_are_over_the_plane}
use Rattle.sf_console.proofs.laws.distance_replies_are_over_the_plane.Goals as goal

pub returns : goal.returns
returns c = distance_replies_are_over_the_plane
