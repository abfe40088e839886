use Rattle.sf_cover.proofs.NearLaws.{cover-found}
use Rattle.sf_cover.proofs.laws.cover_is_found.Goals as goal

pub returns : goal.returns
returns c = cover-found
