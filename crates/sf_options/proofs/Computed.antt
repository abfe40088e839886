-- Words of the command line, computed from the definitions alone.
use Rattle.std.proofs.Common.{◌≡◌, ℕ, List, [], ◌∷◌, Option, Some, None, true, codes, refl}
use Rattle.clap.specs.Words.{is_simple, is_simple_and_free}
use Rattle.clap.specs.declared.error.kind.ErrorKind.TheVariants as kinds
use Rattle.clap.proofs.OnLiterals.{clap_on_literals}
use Rattle.sf_options.specs.Options.{program, program_matches, program_faults, given}

abbrev load : List (List ℕ) → Option (List ℕ)
load words = given (codes "load") (program_matches words)

abbrev save : List (List ℕ) → Option (List ℕ)
save words = given (codes "save") (program_matches words)

pub program_is_simple : is_simple program ≡ true
unfolding clap_on_literals
program_is_simple = refl

pub program_is_free : is_simple_and_free program ≡ true
unfolding clap_on_literals
program_is_free = refl

abbrev both_files : List (List ℕ)
both_files = codes "sfstore" ∷ codes "--load" ∷ codes "a" ∷ codes "--save" ∷ codes "b" ∷ []

pub both_files_load : load both_files ≡ Some (codes "a")
unfolding clap_on_literals
both_files_load = refl

pub both_files_save : save both_files ≡ Some (codes "b")
unfolding clap_on_literals
both_files_save = refl

pub both_files_pass : program_faults both_files ≡ []
unfolding clap_on_literals
both_files_pass = refl

pub no_files_load : load (codes "sfstore" ∷ []) ≡ None
unfolding clap_on_literals
no_files_load = refl

pub no_files_save : save (codes "sfstore" ∷ []) ≡ None
unfolding clap_on_literals
no_files_save = refl

pub no_files_pass : program_faults (codes "sfstore" ∷ []) ≡ []
unfolding clap_on_literals
no_files_pass = refl

pub joined_by_equals : save (codes "sfstore" ∷ codes "--save=b" ∷ []) ≡ Some (codes "b")
unfolding clap_on_literals
joined_by_equals = refl

pub misspelt : program_faults (codes "sfstore" ∷ codes "--lod" ∷ codes "a" ∷ []) ≡ kinds.UnknownArgument ∷ []
unfolding clap_on_literals
misspelt = refl

pub given_twice : program_faults (codes "sfstore" ∷ codes "--load" ∷ codes "a" ∷ codes "--load" ∷ codes "b" ∷ []) ≡ kinds.ArgumentConflict ∷ []
unfolding clap_on_literals
given_twice = refl

pub without_value : program_faults (codes "sfstore" ∷ codes "--load" ∷ []) ≡ kinds.InvalidValue ∷ []
unfolding clap_on_literals
without_value = refl

pub further_word : program_faults (codes "sfstore" ∷ codes "a" ∷ []) ≡ kinds.UnknownArgument ∷ []
unfolding clap_on_literals
further_word = refl

pub help_asked : program_faults (codes "sfstore" ∷ codes "--help" ∷ []) ≡ kinds.DisplayHelp ∷ []
unfolding clap_on_literals
help_asked = refl

pub short_help_asked : program_faults (codes "sfstore" ∷ codes "-h" ∷ []) ≡ kinds.DisplayHelp ∷ []
unfolding clap_on_literals
short_help_asked = refl
