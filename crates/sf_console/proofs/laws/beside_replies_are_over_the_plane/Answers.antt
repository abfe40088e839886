use Rattle.sf_console.proofs.JoinLaws.{beside_replies_are_over_the_plane}
use Rattle.sf_console.proofs.laws.beside_replies_are_over_the_plane.Goals as goal

pub returns : goal.returns
returns c = beside_replies_are_over_the_plane
