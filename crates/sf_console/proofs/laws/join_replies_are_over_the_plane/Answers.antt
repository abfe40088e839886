use Rattle.sf_console.proofs.JoinLaws.{join_replies_are_over_the_plane}
use Rattle.sf_console.proofs.laws.join_replies_are_over_the_plane.Goals as goal

pub returns : goal.returns
returns c = join_replies_are_over_the_plane
