use Rattle.sf_format.proofs.Loaded.{files-are-ruled-well}
use Rattle.sf_format.proofs.laws.files_are_ruled_well.Goals as goal

pub returns : goal.returns
returns c = files-are-ruled-well
