-- Worked texts, by computing.
use Rattle.std.proofs.Common.{◌≡◌, List, ℕ, [], ◌∷◌, codes, None, Some, refl}
use Rattle.std.specs.Str.{is_utf8, chars}
use lib.Utf8.{encode}
use Rattle.sf_features.specs.declared.attr_value.AttrValue.TheVariants.{Text}
use Rattle.sf_values.specs.Values.{value_of, value_text, written_text}

-- a tab, a line feed, an escape, a backslash, a quote and a delete among letters
abbrev odd : List ℕ
odd = 97 ∷ 9 ∷ 98 ∷ 10 ∷ 27 ∷ 92 ∷ 39 ∷ 127 ∷ 99 ∷ []

abbrev odd_written : List ℕ
odd_written = codes "E'a\\tb\\n\\x1b\\\\''\\x7fc'"

odd_is_written : value_text (Text odd) ≡ odd_written
odd_is_written = refl

odd_is_read : value_of odd_written ≡ Some (Text odd)
unfolding is_utf8 chars encode
odd_is_read = refl

carriage_return : written_text (13 ∷ []) ≡ codes "E'\\r'"
carriage_return = refl

-- a letter of two bytes beside a line feed stands as it is
letter_of_two_bytes : value_of (69 ∷ 39 ∷ 195 ∷ 164 ∷ 92 ∷ 110 ∷ 39 ∷ []) ≡ Some (Text (195 ∷ 164 ∷ 10 ∷ []))
unfolding is_utf8 chars encode
letter_of_two_bytes = refl

-- a text with no control character is written in quotes, its backslash as it stands
backslash : value_text (Text (codes "a\\b'c")) ≡ codes "'a\\b''c'"
backslash = refl

-- and is read with escapes too
abc : value_of (codes "E'abc'") ≡ Some (Text (codes "abc"))
unfolding is_utf8 chars encode
abc = refl

empty : value_of (codes "E''") ≡ Some (Text [])
unfolding is_utf8 chars encode
empty = refl

-- a tab that stands in quotes is taken as it stands
tab_in_quotes : value_of (39 ∷ 9 ∷ 39 ∷ []) ≡ Some (Text (9 ∷ []))
tab_in_quotes = refl

-- each text has one spelling with escapes, so these spell no value
unknown_letter : value_of (codes "E'\\q'") ≡ None
unfolding is_utf8 chars encode
unknown_letter = refl

line_feed_by_code : value_of (codes "E'\\x0a'") ≡ None
unfolding is_utf8 chars encode
line_feed_by_code = refl

letter_by_code : value_of (codes "E'\\x41'") ≡ None
unfolding is_utf8 chars encode
letter_by_code = refl

capital_digit : value_of (codes "E'\\x1B'") ≡ None
unfolding is_utf8 chars encode
capital_digit = refl

no_last_quote : value_of (codes "E'abc") ≡ None
unfolding is_utf8 chars encode
no_last_quote = refl

single_quote : value_of (codes "E''x'") ≡ None
unfolding is_utf8 chars encode
single_quote = refl

cut_code : value_of (codes "E'\\x1'") ≡ None
unfolding is_utf8 chars encode
cut_code = refl

raw_tab : value_of (69 ∷ 39 ∷ 9 ∷ 39 ∷ []) ≡ None
unfolding is_utf8 chars encode
raw_tab = refl

quote_alone : value_of (codes "E'") ≡ None
unfolding is_utf8 chars encode
quote_alone = refl

letter_alone : value_of (codes "E") ≡ None
letter_alone = refl

small_letter : value_of (codes "e'abc'") ≡ None
small_letter = refl

double_quotes : value_of (codes "E \"abc\"") ≡ None
double_quotes = refl
