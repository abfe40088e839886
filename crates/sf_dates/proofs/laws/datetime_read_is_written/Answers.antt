use Rattle.sf_dates.proofs.Moments.{datetime_back}
use Rattle.sf_dates.proofs.laws.datetime_read_is_written.Goals as goal

pub returns : goal.returns
returns c = datetime_back
