use Rattle.sf_format.proofs.First.{second-version-is-kept}
use Rattle.sf_format.proofs.laws.second_version_is_kept.Goals as goal

pub returns : goal.returns
returns c = second-version-is-kept
