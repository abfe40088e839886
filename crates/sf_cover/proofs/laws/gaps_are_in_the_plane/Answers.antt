use Rattle.sf_cover.proofs.CoverLaws.{gaps-in}
use Rattle.sf_cover.proofs.laws.gaps_are_in_the_plane.Goals as goal

pub returns : goal.returns
returns c = gaps-in
