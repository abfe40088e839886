use Rattle.sf_console.proofs.LawProofs.{reach_until_replies_are_over_the_plane}
use Rattle.sf_console.proofs.laws.reach_until_replies_are_over_the_plane.Goals as goal

pub returns : goal.returns
returns c = reach_until_replies_are_over_the_plane
