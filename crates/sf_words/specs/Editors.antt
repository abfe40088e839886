-- The editor who gives a line: its first word may name one.
use Rattle.std.specs.Prelude.{ℕ, ◌^◌, ◌&&◌, List, [], ◌∷◌, length, Option, None, Some, Result, Ok, Err, nat_eq, nat_lt, nat_le, if◌then◌else◌}
use Rattle.std.specs.Char.{is_ascii_digit}
use Rattle.std.specs.List.{list_all}
use Rattle.sf_refusals.specs.declared.refusal.Refusal.{Refusal}
use Rattle.sf_refusals.specs.declared.refusal.Refusal.TheVariants.{BadCommand}
use Rattle.sf_wkt.specs.Tokens.{digits_value}
use Rattle.sf_words.specs.Words.{words, skip_word}
use Rattle.sf_words.specs.Naming.{given}

-- what stands behind the `@` at the front of a word, if one stands there
abbrev pub behind_at : List ℕ → Option (List ℕ)
behind_at [] = None
behind_at (b ∷ bytes) = if nat_eq b 64 then Some bytes else None

-- how many digits the number of an editor has at most
abbrev pub editor_digits_max : ℕ
editor_digits_max = 3

-- the number of an editor that one to three digits spell: from 1 to 255
abbrev pub editor_of : List ℕ → Option ℕ
editor_of digits = let editor = digits_value digits in
    if (nat_le (length digits) editor_digits_max && list_all is_ascii_digit digits) && (nat_lt 0 editor && nat_lt editor (2 ^ 8)) then Some editor else None

-- the editor whose digits stand behind an `@`, and the line behind them; editor 0 and the whole line where no `@` stands
abbrev pub by_digits : Option (List ℕ) → List ℕ → List ℕ → Result (ℕ × List ℕ) Refusal
by_digits None rest line = Ok (0, line)
by_digits (Some digits) rest line = given (editor_of digits) (λ editor. Ok (editor, rest))

-- the editor of a line of these words, and the line behind the word that names it
abbrev pub by_first_word : List (List ℕ) → List ℕ → Result (ℕ × List ℕ) Refusal
by_first_word [] line = Err BadCommand
by_first_word (word ∷ more) line = by_digits (behind_at word) (skip_word line) line

-- the editor of a line, and the line behind the word that names it
abbrev pub addressed : List ℕ → Result (ℕ × List ℕ) Refusal
addressed line = by_first_word (words line) line
