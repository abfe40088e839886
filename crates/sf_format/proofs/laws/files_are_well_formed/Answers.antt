use Rattle.sf_format.proofs.Loaded.{files-are-well-formed}
use Rattle.sf_format.proofs.laws.files_are_well_formed.Goals as goal

pub returns : goal.returns
returns c = files-are-well-formed
