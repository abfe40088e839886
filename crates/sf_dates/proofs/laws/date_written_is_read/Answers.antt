use Rattle.sf_dates.proofs.Days.{date_read}
use Rattle.sf_dates.proofs.laws.date_written_is_read.Goals as goal

pub returns : goal.returns
returns c = λ date is. date_read date.year date.month date.day is
