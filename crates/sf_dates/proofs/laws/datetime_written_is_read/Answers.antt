use Rattle.sf_dates.proofs.Moments.{datetime_read}
use Rattle.sf_dates.proofs.laws.datetime_written_is_read.Goals as goal

pub returns : goal.returns
returns c = datetime_read
