use Rattle.std.proofs.lemmas.Bool.{false≢true}
use Rattle.sf_strands.proofs.far.does_doubt_hold.Goals as goal

pub returns-in-Pair : goal.returns-in-Pair
returns-in-Pair c = c.does_some_pair_meet.ensures

pub returns-in-Open : goal.returns-in-Open
returns-in-Open c = λ h. absurd (false≢true h)
