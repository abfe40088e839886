use Rattle.sf_console.proofs.LawProofs.{query_replies_are_over_the_plane}
use Rattle.sf_console.proofs.laws.query_replies_are_over_the_plane.Goals as goal

pub returns : goal.returns
returns c = query_replies_are_over_the_plane
