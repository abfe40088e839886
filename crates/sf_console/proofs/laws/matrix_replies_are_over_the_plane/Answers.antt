use Rattle.sf_console.proofs.LawProofs.{matrix_replies_are_over_the_plane}
use Rattle.sf_console.proofs.laws.matrix_replies_are_over_the_plane.Goals as goal

pub returns : goal.returns
returns c = matrix_replies_are_over_the_plane
