use Rattle.sf_cover.proofs.NearLaws.{cover-kept}
use Rattle.sf_cover.proofs.laws.cover_is_kept_near.Goals as goal

pub returns : goal.returns
returns c = cover-kept
