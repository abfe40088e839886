-- Texts with escapes, E'..', in which each control character has a spelling of its own.
use Rattle.std.specs.Prelude.{ℕ, ◌+◌, ◌-◌, ◌*◌, ◌/◌, ◌%◌, Bool as Truth, not, ◌||◌, ◌==◌, nat_lt, List, [], ◌∷◌, ◌++◌, length, drop, take, flat_map, Option, None, Some, if◌then◌else◌}
use Rattle.std.specs.Char.{digit_char}
use Rattle.std.specs.Option.{option_to_list}
use Rattle.sf_values.specs.declared.state.State.{State}
use Rattle.sf_values.specs.declared.state.State.TheVariants.{Plain, Quote, Backslash, Code, Digit}

-- a control character of ASCII
abbrev pub is_control : ℕ → Truth
is_control b = nat_lt b 32 || b == 127

-- a byte that stands as it is between E' and a quote: no control character, no backslash, no quote
abbrev pub is_unescaped : ℕ → Truth
is_unescaped b = not (is_control b || b == 92 || b == 39)

-- \x and the two digits of a byte in base 16, in small letters
abbrev pub code_of : ℕ → List ℕ
code_of b = 92 ∷ 120 ∷ digit_char (b / 16) ∷ digit_char (b % 16) ∷ []

-- what stands for another byte: \n, \t, \r, \\, two quotes, or its code
abbrev pub escape_of : ℕ → List ℕ
escape_of b =
    if b == 10 then 92 ∷ 110 ∷ []
    else if b == 9 then 92 ∷ 116 ∷ []
    else if b == 13 then 92 ∷ 114 ∷ []
    else if b == 92 then 92 ∷ 92 ∷ []
    else if b == 39 then 39 ∷ 39 ∷ []
    else code_of b

-- a byte of a text between E' and a quote
abbrev pub escaped_byte : ℕ → List ℕ
escaped_byte b = if is_unescaped b then b ∷ [] else escape_of b

-- a text with escapes
abbrev pub escaped : List ℕ → List ℕ
escaped text = 69 ∷ 39 ∷ flat_map escaped_byte text ++ 39 ∷ []

-- ---- read

-- the value of a digit in base 16
abbrev pub digit_value : ℕ → ℕ
digit_value b = if nat_lt b 58 then b - 48 else b - 87

-- the byte that a letter behind a backslash stands for, any other than these for itself
abbrev pub named_byte : ℕ → ℕ
named_byte b = if b == 110 then 10 else if b == 116 then 9 else if b == 114 then 13 else b

-- the byte that is told at a byte, if one is
abbrev pub byte_at : State → ℕ → Option ℕ
byte_at Plain b = if b == 92 || b == 39 then None else Some b
byte_at Quote b = Some 39
byte_at Backslash b = if b == 120 then None else Some (named_byte b)
byte_at Code b = None
byte_at (Digit d) b = Some ((16 * d + digit_value b) % 256)

-- where the reading stands behind a byte
abbrev pub state_behind : State → ℕ → State
state_behind Plain b = if b == 92 then Backslash else if b == 39 then Quote else Plain
state_behind Quote b = Plain
state_behind Backslash b = if b == 120 then Code else Plain
state_behind Code b = Digit (digit_value b)
state_behind (Digit d) b = Plain

-- the text that bytes between E' and a quote spell, where they are written as escaped_byte says
abbrev pub unescaped : State → List ℕ → List ℕ
unescaped state [] = []
unescaped state (b ∷ bytes) = option_to_list (byte_at state b) ++ unescaped (state_behind state b) bytes

-- the bytes between E' and a quote at the end
abbrev pub within_escape : List ℕ → List ℕ
within_escape bytes = take (length bytes - 3) (drop 2 bytes)
