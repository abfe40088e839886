-- The values that texts spell, and the text of each value.
use Rattle.std.specs.Prelude.{ℕ, ◌-◌, Bool as Truth, true, false, not, ◌&&◌, ◌==◌, nat_le, List, [], ◌∷◌, ◌++◌, length, drop, take, flat_map, Option, None, Some, option_map, bytes_eq, codes, if◌then◌else◌}
use Rattle.std.specs.Fmt.{signed_decimal}
use Rattle.std.specs.List.{list_any}
use Rattle.std.specs.Map.{lookup}
use Rattle.std.specs.Str.{is_utf8}
use Rattle.sf_dates.specs.Texts.{date_spelled, date_text, datetime_spelled, datetime_text}
use Rattle.sf_decimals.specs.Decimals.{decimal_spelled, decimal_text}
use Rattle.sf_features.specs.declared.attr_value.AttrValue.{AttrValue}
use Rattle.sf_features.specs.declared.attr_value.AttrValue.TheVariants.{Int, Text, Decimal, Bool, Date, DateTime}
use Rattle.sf_features.specs.Values.{number_value}
use Rattle.sf_values.specs.Escapes.{escape_of, escaped, escaped_byte, is_control, is_unescaped, unescaped, within_escape}
use Rattle.sf_values.specs.declared.form.Form.{Form}
use Rattle.sf_values.specs.declared.form.Form.TheVariants.{Quoted, Escaped}
use Rattle.sf_values.specs.declared.state.State.TheVariants.{Plain}

-- the first of two that is there
abbrev pub or_else : Option AttrValue → Option AttrValue → Option AttrValue
or_else (Some value) other = Some value
or_else None other = other

-- the truth value that a word spells
abbrev pub bool_of : List ℕ → Option AttrValue
bool_of bytes = option_map Bool (lookup (bytes_eq bytes) ((codes "true", true) ∷ (codes "false", false) ∷ []))

-- the day that a text spells, and the moment of a day
abbrev pub date_of : List ℕ → Option AttrValue
date_of bytes = option_map Date (date_spelled bytes)

abbrev pub datetime_of : List ℕ → Option AttrValue
datetime_of bytes = option_map DateTime (datetime_spelled bytes)

-- the number that a text spells
abbrev pub number_of : List ℕ → Option AttrValue
number_of bytes = option_map number_value (decimal_spelled bytes)

-- no quote
abbrev pub is_plain : ℕ → Truth
is_plain b = not (b == 39)

-- a byte of a text between quotes: each quote is doubled
abbrev pub quoted_byte : ℕ → List ℕ
quoted_byte b = if b == 39 then 39 ∷ 39 ∷ [] else b ∷ []

-- a text in quotes
abbrev pub quoted : List ℕ → List ℕ
quoted text = 39 ∷ flat_map quoted_byte text ++ 39 ∷ []

-- a text as it is written: in quotes, or with escapes where it has a control character
abbrev pub written_text : List ℕ → List ℕ
written_text text = if list_any is_control text then escaped text else quoted text

-- whether a byte stands as it is in a form, what stands for it where it does not, and so how it is written
abbrev pub is_plain_in : Form → ℕ → Truth
is_plain_in Quoted b = is_plain b
is_plain_in Escaped b = is_unescaped b

abbrev pub special_byte : Form → ℕ → List ℕ
special_byte Quoted b = 39 ∷ 39 ∷ []
special_byte Escaped b = escape_of b

abbrev pub written_byte : Form → ℕ → List ℕ
written_byte Quoted b = quoted_byte b
written_byte Escaped b = escaped_byte b

-- the bytes with each second one of two quotes dropped, where the byte before them is a quote that counts or not
abbrev pub undoubled : Truth → List ℕ → List ℕ
undoubled after_quote [] = []
undoubled after_quote (b ∷ bytes) =
    let second = after_quote && b == 39 in
    let rest = undoubled (not second && b == 39) bytes in
    if second then rest else b ∷ rest

-- the text that is written so in quotes
abbrev pub text_of : List ℕ → Option AttrValue
text_of bytes =
    let text = undoubled false (take (length bytes - 2) (drop 1 bytes)) in
    if bytes_eq (quoted text) bytes then Some (Text text) else None

-- the text that is written so with escapes
abbrev pub escaped_text_of : List ℕ → Option AttrValue
escaped_text_of bytes =
    let text = unescaped Plain (within_escape bytes) in
    if is_utf8 text && bytes_eq (escaped text) bytes then Some (Text text) else None

-- whether the bytes begin with a quote
abbrev pub begins_with_quote : List ℕ → Truth
begins_with_quote [] = false
begins_with_quote (b ∷ bytes) = b == 39

-- whether they begin with E and a quote
abbrev pub begins_with_escape : List ℕ → Truth
begins_with_escape [] = false
begins_with_escape (b ∷ bytes) = b == 69 && begins_with_quote bytes

-- whether they begin with a letter, or another byte from A on
abbrev pub begins_with_letter : List ℕ → Truth
begins_with_letter [] = false
begins_with_letter (b ∷ bytes) = nat_le 65 b

-- the day or the moment that a text spells
abbrev pub dated_of : List ℕ → Option AttrValue
dated_of bytes = or_else (date_of bytes) (datetime_of bytes)

-- the day, the moment or the number that a text spells
abbrev pub wordless_of : List ℕ → Option AttrValue
wordless_of bytes = or_else (date_of bytes) (or_else (datetime_of bytes) (number_of bytes))

-- the value that a text without a quote in front spells
abbrev pub unquoted_of : List ℕ → Option AttrValue
unquoted_of bytes = or_else (bool_of bytes) (wordless_of bytes)

-- the value that the rest of a line spells
abbrev pub value_of : List ℕ → Option AttrValue
value_of bytes = if begins_with_quote bytes then text_of bytes else if begins_with_escape bytes then escaped_text_of bytes else unquoted_of bytes

-- a value as it is written: a number with no sign for plus and no zero that says nothing, a text in quotes, a word, a day, or a
-- moment with its milliseconds
abbrev pub value_text : AttrValue → List ℕ
value_text (Int n) = signed_decimal n
value_text (Text text) = written_text text
value_text (Decimal number) = decimal_text number
value_text (Bool true) = codes "true"
value_text (Bool false) = codes "false"
value_text (Date date) = date_text date
value_text (DateTime moment) = datetime_text moment
