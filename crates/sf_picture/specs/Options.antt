-- Beside the headline, which says nothing of pictures.
-- The command of the program, and what its words ask for, by clap's own definitions.
use Rattle.std.specs.Prelude.{◌≡◌, ◌<◌, FitsSigned, ◌^◌, ◌≤ℤ◌, ◌==◌, ◌&&◌, ℕ, ℤ, pos, negsuc, Bool, false, true, List, [], ◌∷◌, Option, Some, None, Result, Ok, Err, codes, unwrap_or}
use Rattle.std.specs.List.{list_any}
use Rattle.std.specs.Char.{is_ascii_digit}
use Rattle.std.specs.Int.{w32}
use Rattle.std.specs.Str.Parse.{IsNumeral, digits_value, signed_digits_value, without_leading_plus, without_leading_sign}
use Rattle.clap.specs.Words.{App, Row, Rule, Kinds, IsAmong, all_of, first_of, fault_of, kind_of, matches_of, new_app, new_rule, with_rule}
use Rattle.clap.specs.declared.builder.action.ArgAction.TheVariants.{Append}
use Rattle.clap.specs.declared.builder.value_parser.ValueParser.TheVariants.{Signed}
use Rattle.sf_geometry.specs.declared.extent.Extent.{Extent}
use Rattle.sf_picture.specs.declared.asked.Asked.{Asked}
use Rattle.sf_picture.specs.declared.asked.AskedFault.{AskedFault}
use Rattle.sf_picture.specs.declared.asked.AskedFault.TheVariants.{Memory, Refused, EmptyWindow}

-- ---- the command

-- an option `--NAME` with some values
abbrev pub option_rule : List ℕ → ℕ → Rule
option_rule name count = record (new_rule name) { long = Some name; value_names = count }

-- `--layer NAME`, which may be given again
abbrev pub layer_rule : Rule
layer_rule = record (option_rule (codes "layer") 1) { action = Some Append }

-- `--window MINX MINY MAXX MAXY`, numbers of 32 bits
abbrev pub window_rule : Rule
window_rule = record (option_rule (codes "window") 4) { parser = Some (Signed (negsuc 2147483647) (pos 2147483647)) }

-- `--width PIXELS`, from 1 to 100000
abbrev pub width_rule : Rule
width_rule = record (option_rule (codes "width") 1) { parser = Some (Signed (pos 1) (pos 100000)) }

-- a command with a version, which `--version` asks for
abbrev pub with_version : App → App
with_version app = record app { top = record app.top { has_version = true } }

-- the program's command: three options, and a version
abbrev pub program : App
program = with_rule (with_rule (with_rule (with_version (new_app (codes "sfmap"))) layer_rule) window_rule) width_rule

-- the matches of the command on these words
abbrev pub program_matches : List (List ℕ) → List Row
program_matches words = matches_of program words

-- the kinds of fault that the words have
abbrev pub program_faults : List (List ℕ) → Kinds
program_faults words = fault_of program words

-- a word begins as a negative number does: by a minus and a digit
abbrev pub is_negative : List ℕ → Bool
is_negative (sign ∷ digit ∷ rest) = sign == 45 && is_ascii_digit digit
is_negative word = false

-- one of the words begins so. Of such words clap's definitions do not say which of them an option takes
abbrev pub has_negative : List (List ℕ) → Bool
has_negative words = list_any is_negative words

-- ---- what the matches ask for

-- the values that matches give an option, in order
abbrev pub values_of : List ℕ → List Row → List (List ℕ)
values_of id rows = unwrap_or (all_of id rows) []

-- a text spells a number of 32 bits, as std reads it
pub record IsNumber (text : List ℕ) (number : ℤ) : Type 0 where
  pub numeral : IsNumeral 10 (without_leading_sign text)
  pub fits : FitsSigned w32 (signed_digits_value 10 text)
  pub value : number ≡ signed_digits_value 10 text

-- four texts spell the sides of a box, whose least coordinates are not above its greatest
pub record IsBox (left bottom right top : List ℕ) (box : Extent) : Type 0 where
  pub min_x : IsNumber left box.min_x
  pub min_y : IsNumber bottom box.min_y
  pub max_x : IsNumber right box.max_x
  pub max_y : IsNumber top box.max_y
  pub wide : box.min_x ≤ℤ box.max_x
  pub high : box.min_y ≤ℤ box.max_y

-- the values of the option are four that spell such a box
abbrev pub IsWindow : List (List ℕ) → Extent → Type 0
IsWindow (left ∷ bottom ∷ right ∷ top ∷ []) box = IsBox left bottom right top box
IsWindow texts box = ⊥

-- the window of the values of the option, or none where it is not given
abbrev pub IsWindowIfGiven : Option (List (List ℕ)) → Option Extent → Type 0
IsWindowIfGiven None None = Unit {0}
IsWindowIfGiven None (Some window) = ⊥
IsWindowIfGiven (Some values) None = ⊥
IsWindowIfGiven (Some values) (Some window) = IsWindow values window

-- the option is given, and its values are no window
abbrev pub IsEmptyWindow : Option (List (List ℕ)) → Type 0
IsEmptyWindow None = ⊥
IsEmptyWindow (Some values) = (window : Extent) → IsWindow values window → ⊥

-- how wide a picture is if nothing is said
abbrev pub width_default : ℕ
width_default = 800

-- a text spells a natural number of 32 bits, as std reads it
abbrev pub SpellsWidth : List ℕ → Type 0
SpellsWidth text = IsNumeral 10 (without_leading_plus text) × (digits_value 10 (without_leading_plus text) < 2 ^ 32)

-- the width that the value spells, or the usual one
abbrev pub IsWidth : Option (List ℕ) → ℕ → Type 0
IsWidth None width = width ≡ width_default
IsWidth (Some text) width = (SpellsWidth text → width ≡ digits_value 10 (without_leading_plus text))
    × ((SpellsWidth text → ⊥) → width ≡ width_default)

-- the matches ask for this
pub record Asks (rows : List Row) (asked : Asked) : Type 0 where
  pub layers : asked.choice.layers ≡ values_of (codes "layer") rows
  pub window : IsWindowIfGiven (all_of (codes "window") rows) asked.choice.window
  pub width : IsWidth (first_of (codes "width") rows) asked.width

-- what is made of the matches
abbrev pub Answers : List Row → Result Asked AskedFault → Type 0
Answers rows (Ok asked) = Asks rows asked
Answers rows (Err EmptyWindow) = IsEmptyWindow (all_of (codes "window") rows)
Answers rows (Err fault) = Unit {0}

-- what is made of the words, by their matches: those of clap's definitions where no word is a negative number
pub record IsReadAs (words : List (List ℕ)) (result : Result Asked AskedFault) : Type 0 where
  pub rows : List Row
  pub matches : has_negative words ≡ false → rows ≡ program_matches words
  pub answers : Answers rows result

-- words are taken where they have no fault, and refused for one that they have; or memory is wanting
abbrev pub IsRefusedBy : Kinds → Result Asked AskedFault → Type 0
IsRefusedBy faults (Ok asked) = faults ≡ []
IsRefusedBy faults (Err EmptyWindow) = faults ≡ []
IsRefusedBy faults (Err Memory) = Unit {0}
IsRefusedBy faults (Err (Refused error)) = IsAmong (kind_of error) faults
