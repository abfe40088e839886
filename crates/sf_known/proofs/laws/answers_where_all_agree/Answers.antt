use Rattle.sf_known.proofs.KnownLaws.{answers_where_all_agree}
use Rattle.sf_known.proofs.laws.answers_where_all_agree.Goals as goal

pub returns : goal.returns
returns c = answers_where_all_agree
