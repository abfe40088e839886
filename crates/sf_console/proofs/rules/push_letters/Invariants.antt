use Rattle.std.proofs.Common.{◌≡◌, ◌++◌, drop, string_bytes}
use Rattle.sf_known.specs.Patterns.{pattern_text}
use Rattle.sf_console.proofs.rules.push_letters.Given as goal

abbrev pub invariant-loop-letter : goal.invariant-loop-letter
invariant-loop-letter l =
    string_bytes l.text ++ pattern_text (drop l.letter-index l.letters) ≡ string_bytes l.initial.text ++ pattern_text l.letters
