-- Laws of the geometries that commands bring along.
use Rattle.std.specs.Prelude.{◌≡◌, ℕ, List, [], ◌∷◌, Option, Some, Result, Ok, Err, if◌then◌else◌}
use Rattle.sf_refusals.specs.declared.refusal.Refusal.{Refusal}
use Rattle.sf_geometry.specs.declared.geometry.Geometry.{Geometry}
use Rattle.sf_valid_rules.specs.declared.fault.Fault.{Fault}
use Rattle.sf_valid_rules.specs.Faults.{refusal_of as refusal_of_fault}
use Rattle.sf_valid_rules.specs.Validity.{IsFirstFault, IsValid}
use Rattle.sf_wkt.specs.Grammar.{read}
use Rattle.sf_commands.specs.declared.command.Command.{Command}
use Rattle.sf_commands.specs.declared.command.Command.TheVariants as commands
use Rattle.sf_words.specs.declared.verb.Verb.{Verb}
use Rattle.sf_words.specs.declared.verb.Verb.TheVariants as verbs
use Rattle.sf_words.specs.Reaches.{is_near}
use Rattle.sf_words.specs.Verbs.{verb_of}
use Rattle.sf_words.specs.Words.{words, skip_blanks, skip_word}
use Rattle.sf_words.specs.Editors.{addressed}
use Rattle.sf_commands.specs.Commands.{command_of}

-- the rest of a line from its third word on
abbrev pub from_third : List ℕ → List ℕ
from_third rest = skip_blanks (skip_word (skip_word rest))

-- the text of a geometry behind `query`: from the third word on, or behind `near` and the word of a distance
abbrev pub query_text : List (List ℕ) → List ℕ → List ℕ
query_text (layer ∷ ask ∷ more) text = if is_near ask then skip_blanks (skip_word text) else text
query_text arguments text = text

-- the text of a geometry that features are compared with, behind a verb
abbrev pub text_behind : Option Verb → List ℕ → List ℕ
text_behind (Some verbs.Query) rest = query_text (words rest) (from_third rest)
text_behind verb rest = from_third rest

-- the same in a line of these words, behind the first of which the rest stands
abbrev pub text_by_words : List (List ℕ) → List ℕ → List ℕ
text_by_words [] rest = from_third rest
text_by_words (verb ∷ arguments) rest = text_behind (verb_of verb) rest

-- the same in a line with its editor
abbrev pub given_text : Result (ℕ × List ℕ) Refusal → List ℕ
given_text (Ok at) = text_by_words (words at.1) (skip_word at.1)
given_text (Err refusal) = []

-- the text is that of a geometry that is valid over all points of the plane
abbrev pub SpellsValid : List ℕ → Geometry → Type 0
SpellsValid text given = (read text ≡ Ok given) × IsValid given

-- the text is that of a geometry whose first fault over all points of the plane is this one
pub record SpellsFaulty (text : List ℕ) (fault : Fault) : Type 0 where
  pub given : Geometry
  pub spelled : read text ≡ Ok given
  pub first : IsFirstFault given fault

-- what is said of the given geometry of a command
abbrev pub HasValidGiven : List ℕ → Command → Type 0
HasValidGiven text (commands.Distance name id given) = SpellsValid text given
HasValidGiven text (commands.Nearest name count given) = SpellsValid text given
HasValidGiven text (commands.Relate name id given) = SpellsValid text given
HasValidGiven text (commands.Match name letters given) = SpellsValid text given
HasValidGiven text (commands.Query name predicate given) = SpellsValid text given
HasValidGiven text (commands.Near name reach given) = SpellsValid text given
HasValidGiven text command = Unit {0}

-- what is said of a refusal: one for a fault of shape is for the given geometry's first one
abbrev pub HasFaultyGiven : List ℕ → Refusal → Type 0
HasFaultyGiven text refusal = (fault : Fault) → refusal ≡ refusal_of_fault fault → SpellsFaulty text fault

abbrev pub HasJudgedGiven : List ℕ → Result (ℕ × Command) Refusal → Type 0
HasJudgedGiven text (Ok asked) = HasValidGiven text asked.1
HasJudgedGiven text (Err refusal) = HasFaultyGiven text refusal

-- a geometry that features are compared with is valid over all points of the plane, and where a line is refused for a fault
-- of shape that is the first one there of the geometry that its text spells
abbrev pub GivenGeometriesAreJudgedOverThePlane : Type 0
GivenGeometriesAreJudgedOverThePlane = (line : List ℕ) → HasJudgedGiven (given_text (addressed line)) (command_of line)
