use Rattle.sf_console.proofs.LawProofs.{check_replies_are_over_the_plane}
use Rattle.sf_console.proofs.laws.check_replies_are_over_the_plane.Goals as goal

pub returns : goal.returns
returns c = check_replies_are_over_the_plane
