use Rattle.sf_words.specs.Words.{words}
use Rattle.sf_commands.proofs.ReachLemmas.{AreLinked}
use Rattle.sf_commands.proofs.reach_commands.reach_from.Given as goal

-- so many identifiers were read
abbrev pub invariant-loop : goal.invariant-loop
invariant-loop l = AreLinked (words l.fn.words) (words l.words) l.ids l.counter
