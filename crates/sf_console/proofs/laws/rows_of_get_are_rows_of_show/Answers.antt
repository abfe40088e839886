use Rattle.sf_console.proofs.FindLaws.{rows_of_get_are_rows_of_show}
use Rattle.sf_console.proofs.laws.rows_of_get_are_rows_of_show.Goals as goal

pub returns : goal.returns
returns c = rows_of_get_are_rows_of_show
