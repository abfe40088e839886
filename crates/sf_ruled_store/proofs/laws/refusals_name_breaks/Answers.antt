use Rattle.sf_ruled_store.proofs.RuledLaws.{refusals_name_breaks}
use Rattle.sf_ruled_store.proofs.laws.refusals_name_breaks.Goals as goal

pub returns : goal.returns
returns c = refusals_name_breaks
