use Rattle.sf_console.proofs.LawProofs.{simple_replies_are_over_the_plane}
use Rattle.sf_console.proofs.laws.simple_replies_are_over_the_plane.Goals as goal

pub returns : goal.returns
returns c = simple_replies_are_over_the_plane
