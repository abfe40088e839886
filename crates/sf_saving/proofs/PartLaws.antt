-- The text of a pattern, letter by letter.
use Rattle.std.proofs.Common.{◌≡◌, ◌∙◌, ℕ, List, [], ◌∷◌, ◌++◌, length, refl, ap, sym, arith, drop, flat_map, slice_get, Some, zero, suc, ◌+◌, ◌<◌}
use Rattle.std.specs.Prelude.{slice_index_or}
use Rattle.std.proofs.lemmas.List.Concat.{flat_map-cons}
use Rattle.sf_known.specs.declared.letter.Letter.{Letter}
use Rattle.sf_known.specs.Patterns.{letter_character, pattern_text}
use Rattle.sf_streams.proofs.Putting.{left-at}
use Rattle.sf_saving.specs.Parts.{letter_bytes}

-- the text of a pattern is that of its letters, one after another
pub text-of-letters : (letters : List Letter) → pattern_text letters ≡ flat_map letter_bytes letters
text-of-letters [] = refl
text-of-letters (letter ∷ letters) = ap (λ (t : List ℕ). letter_character letter ∷ t) (text-of-letters letters) ∙ sym (flat_map-cons letter_bytes letter letters)

-- what is left from a place on begins with the letter there
pub next-letter : (letters : List Letter) (i : ℕ) (d : Letter) → i < length letters
    → flat_map letter_bytes (drop i letters) ≡ letter_bytes (slice_index_or letters i d) ++ flat_map letter_bytes (drop (i + 1) letters)
next-letter letters i d below = left-at letter_bytes letters i (slice_index_or letters i d) (there letters i below)
  where
    there : (xs : List Letter) (k : ℕ) → k < length xs → slice_get xs k ≡ Some (slice_index_or xs k d)
    there [] k few = absurd (omega (arith, few))
    there (x ∷ xs) zero few = refl
    there (x ∷ xs) (suc k) few = there xs k (omega (arith, few))
