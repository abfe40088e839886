use Rattle.sf_format.proofs.First.{first-version-is-kept}
use Rattle.sf_format.proofs.laws.first_version_is_kept.Goals as goal

pub returns : goal.returns
returns c = first-version-is-kept
