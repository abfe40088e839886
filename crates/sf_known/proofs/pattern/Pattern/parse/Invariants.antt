use Rattle.std.proofs.Common.{◌≡◌, ◌++◌, take, drop, length, option_map}
use Rattle.sf_known.specs.Patterns.{letters_of}
use Rattle.sf_known.proofs.pattern.Pattern.parse.Given as goal

abbrev pub invariant-loop-place : goal.invariant-loop-place
invariant-loop-place l =
    (length l.letters ≡ 9)
    × (letters_of l.bytes ≡ option_map (λ rest. take l.place l.letters ++ rest) (letters_of (drop l.place l.bytes)))
