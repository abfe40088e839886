use Rattle.sf_cover.proofs.CoverLaws.{cover-over}
use Rattle.sf_cover.proofs.laws.cover_is_over_the_plane.Goals as goal

pub returns : goal.returns
returns c = cover-over
