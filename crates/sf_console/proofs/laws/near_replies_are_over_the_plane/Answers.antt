use Rattle.sf_console.proofs.LawProofs.{near_replies_are_over_the_plane}
use Rattle.sf_console.proofs.laws.near_replies_are_over_the_plane.Goals as goal

pub returns : goal.returns
returns c = near_replies_are_over_the_plane
