-- The command of the program, computed from the definitions alone, and values of its options.
use Rattle.std.proofs.Common.{◌≡◌, ℕ, List, [], ◌∷◌, None, Some, Bor, codes, length, map, true, refl}
use Rattle.clap.specs.Words.{all_of, first_of, is_simple, is_simple_and_free}
use Rattle.clap.specs.declared.error.kind.ErrorKind.TheVariants as kinds
use Rattle.clap.proofs.OnLiterals.{clap_on_literals}
use Rattle.sf_geometry.specs.declared.extent.Extent.{Extent}
use Rattle.sf_picture.specs.Options.{IsWindow, program, program_faults, program_matches, values_of}

pub program_is_simple : is_simple program ≡ true
unfolding clap_on_literals
program_is_simple = refl

pub program_is_free : is_simple_and_free program ≡ true
unfolding clap_on_literals
program_is_free = refl

-- a window has four values
pub window_has_four : (values : List (Bor (List ℕ))) (window : Extent) → IsWindow (map (λ text. text.now) values) window → length values ≡ 4
window_has_four [] window is = absurd is
window_has_four (a ∷ []) window is = absurd is
window_has_four (a ∷ b ∷ []) window is = absurd is
window_has_four (a ∷ b ∷ c ∷ []) window is = absurd is
window_has_four (a ∷ b ∷ c ∷ d ∷ []) window is = refl
window_has_four (a ∷ b ∷ c ∷ d ∷ e ∷ more) window is = absurd is

-- ---- words of the command line, computed

abbrev town : List (List ℕ)
town = codes "sfmap" ∷ codes "--layer" ∷ codes "a" ∷ codes "--window" ∷ codes "1" ∷ codes "2" ∷ codes "3" ∷ codes "4" ∷ codes "--layer=b" ∷ codes "--width" ∷ codes "90" ∷ []

pub town_layers : values_of (codes "layer") (program_matches town) ≡ codes "a" ∷ codes "b" ∷ []
unfolding clap_on_literals
town_layers = refl

pub town_window : all_of (codes "window") (program_matches town) ≡ Some (codes "1" ∷ codes "2" ∷ codes "3" ∷ codes "4" ∷ [])
unfolding clap_on_literals
town_window = refl

pub town_width : first_of (codes "width") (program_matches town) ≡ Some (codes "90")
unfolding clap_on_literals
town_width = refl

pub town_passes : program_faults town ≡ []
unfolding clap_on_literals
town_passes = refl

pub no_words_window : all_of (codes "window") (program_matches (codes "sfmap" ∷ [])) ≡ None
unfolding clap_on_literals
no_words_window = refl

pub width_of_zero : program_faults (codes "sfmap" ∷ codes "--width" ∷ codes "0" ∷ []) ≡ kinds.ValueValidation ∷ []
unfolding clap_on_literals
width_of_zero = refl

pub three_sides : program_faults (codes "sfmap" ∷ codes "--window" ∷ codes "0" ∷ codes "0" ∷ codes "9" ∷ []) ≡ kinds.WrongNumberOfValues ∷ []
unfolding clap_on_literals
three_sides = refl
