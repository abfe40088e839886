use Rattle.sf_journal.proofs.SumLaws.{Summed}
use Rattle.sf_journal.proofs.file_sums.sum_of.Given as goal

-- what was read is hashed
abbrev pub invariant-loop : goal.invariant-loop
invariant-loop g l = Summed (g.R.Read.remaining l.fn.reader) (g.R.Read.remaining l.reader) l.hasher l.size l.counter
