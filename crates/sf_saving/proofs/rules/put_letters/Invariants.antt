use Rattle.std.proofs.Common.{drop, flat_map}
use Rattle.sf_saving.specs.Parts.{letter_bytes}
use Rattle.sf_streams.proofs.Putting.{Putting}
use Rattle.sf_saving.proofs.rules.put_letters.Given as goal

-- the letters from the index on are left
abbrev pub invariant-loop-letter : goal.invariant-loop-letter
invariant-loop-letter g l =
    Putting (g.W.Write.contents l.fn.writer) (g.W.Write.contents l.writer) l.fn.output l.output (flat_map letter_bytes l.letters) (flat_map letter_bytes (drop l.letter-index l.letters))
