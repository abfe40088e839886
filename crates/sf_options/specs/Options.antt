-- Beside the headline, which says nothing of the words of the command line.
-- The command of the program, and what its words ask for, by clap's own definitions.
use Rattle.std.specs.Prelude.{◌≡◌, ℕ, true, List, [], Option, Some, Result, Ok, Err, codes}
use Rattle.clap.specs.declared.builder.action.ArgAction.TheVariants.{SetTrue}
use Rattle.clap.specs.Words.{App, Row, Rule, Kinds, IsAmong, new_app, new_rule, with_rule, matches_of, fault_of, first_of, kind_of}
use Rattle.sf_options.specs.declared.asked.Options.{Options}
use Rattle.sf_options.specs.declared.asked.OptionsFault.{OptionsFault}
use Rattle.sf_options.specs.declared.asked.OptionsFault.TheVariants.{Memory, Refused}

-- an option `--NAME FILE`
abbrev pub option_rule : List ℕ → Rule
option_rule name = record (new_rule name) { long = Some name; value_names = 1 }

-- a flag `--NAME`
abbrev pub flag_rule : List ℕ → Rule
flag_rule name = record (new_rule name) { long = Some name; action = Some SetTrue }

-- a command with a version, which `--version` asks for
abbrev pub with_version : App → App
with_version app = record app { top = record app.top { has_version = true } }

-- the options that load and save a file
abbrev pub two_files : App
two_files = with_rule (with_rule (with_version (new_app (codes "sfstore"))) (option_rule (codes "load"))) (option_rule (codes "save"))

-- the program's command: three options with a file, a flag, and a version
abbrev pub program : App
program = with_rule (with_rule two_files (option_rule (codes "store"))) (flag_rule (codes "keep"))

-- the matches of the command on these words
abbrev pub program_matches : List (List ℕ) → List Row
program_matches words = matches_of program words

-- the kinds of fault that the words have
abbrev pub program_faults : List (List ℕ) → Kinds
program_faults words = fault_of program words

-- the value that matches give an option
abbrev pub given : List ℕ → List Row → Option (List ℕ)
given id rows = first_of id rows

-- words are taken where they have no fault, and refused for one that they have; or memory is wanting
abbrev pub IsRefusedBy : Kinds → Result Options OptionsFault → Type 0
IsRefusedBy faults (Ok options) = faults ≡ []
IsRefusedBy faults (Err Memory) = Unit {0}
IsRefusedBy faults (Err (Refused error)) = IsAmong (kind_of error) faults
