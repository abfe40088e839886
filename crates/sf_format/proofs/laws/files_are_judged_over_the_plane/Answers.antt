use Rattle.sf_format.proofs.Judged.{files-are-judged}
use Rattle.sf_format.proofs.laws.files_are_judged_over_the_plane.Goals as goal

pub returns : goal.returns
returns c = files-are-judged
