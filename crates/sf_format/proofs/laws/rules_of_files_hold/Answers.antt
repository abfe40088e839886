use Rattle.sf_format.proofs.Loaded.{rules-of-files-hold}
use Rattle.sf_format.proofs.laws.rules_of_files_hold.Goals as goal

pub returns : goal.returns
returns c = rules-of-files-hold
