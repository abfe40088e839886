use Rattle.sf_words.specs.Words.{words}
use Rattle.sf_commands.proofs.LookupLemmas.{AreRead}
use Rattle.sf_commands.proofs.lookup_commands.ids_of.Given as goal

-- so many words were read
abbrev pub invariant-loop : goal.invariant-loop
invariant-loop l = AreRead (words l.fn.words) (words l.words) l.ids l.counter
