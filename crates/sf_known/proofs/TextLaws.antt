-- A pattern is that of its text.
use Rattle.std.proofs.Common.{◌≡◌, List, [], ◌∷◌, length, map, Option, Some, None, option_map, option_and_then, ◌==◌, if◌then◌else◌, refl, ap, ◌∙◌}
use Rattle.std.proofs.lemmas.List.{length-map}
use Rattle.sf_known.specs.declared.letter.Letter.{Letter}
use Rattle.sf_known.specs.declared.letter.Letter.TheVariants.{Any, Filled, Empty, Zero, One, Two}
use Rattle.sf_known.specs.Patterns.{PatternsAreOfTheirTexts, letter_character, letter_of, letters_of, pattern_text}

letter-read : (letter : Letter) → letter_of (letter_character letter) ≡ Some letter
letter-read Any = refl
letter-read Filled = refl
letter-read Empty = refl
letter-read Zero = refl
letter-read One = refl
letter-read Two = refl

letters-read : (letters : List Letter) → letters_of (pattern_text letters) ≡ Some letters
letters-read [] = refl
letters-read (letter ∷ letters) =
    ap (λ o. option_and_then (λ first. option_map (λ rest. first ∷ rest) (letters_of (pattern_text letters))) o) (letter-read letter)
    ∙ ap (λ o. option_map (λ rest. letter ∷ rest) o) (letters-read letters)

pub patterns_are_of_their_texts : PatternsAreOfTheirTexts
patterns_are_of_their_texts letters nine =
    ap (λ n. if n == 9 then letters_of (pattern_text letters) else None) (length-map letters letter_character ∙ nine) ∙ letters-read letters
