use Rattle.sf_dates.proofs.Days.{date_back}
use Rattle.sf_dates.proofs.laws.date_read_is_written.Goals as goal

pub returns : goal.returns
returns c = date_back
