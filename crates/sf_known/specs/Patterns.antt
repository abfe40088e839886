-- Patterns of nine letters, and which matrices match (6.1.15.2).
use Rattle.std.specs.Prelude.{◌≡◌, ℕ, Bool, true, false, List, [], ◌∷◌, Option, Some, None, option_map, option_and_then, codes, length, map, nat_eq, ◌==◌, zip, if◌then◌else◌, IsTrue, IsFalse}
use Rattle.std.specs.Map.{lookup}
use Rattle.std.specs.List.{list_all, list_any}
use Rattle.sf_plane.specs.declared.dim.Dim.{Dim}
use Rattle.sf_plane.specs.declared.dim.Dim.TheVariants as dims
use Rattle.sf_known.specs.declared.letter.Letter.{Letter}
use Rattle.sf_known.specs.declared.letter.Letter.TheVariants.{Any, Filled, Empty, Zero, One, Two}

-- the letter of a character; small t and f are read as T and F
abbrev pub letter_of : ℕ → Option Letter
letter_of byte =
    lookup (nat_eq byte)
    (zip (codes "*TtFf012") (Any ∷ Filled ∷ Filled ∷ Empty ∷ Empty ∷ Zero ∷ One ∷ Two ∷ []))

-- the letters of a text, where each of its characters is one
abbrev pub letters_of : List ℕ → Option (List Letter)
letters_of [] = Some []
letters_of (byte ∷ bytes) =
    option_and_then (λ letter. option_map (λ letters. letter ∷ letters) (letters_of bytes)) (letter_of byte)

-- the pattern of a text of nine letters
abbrev pub pattern_of : List ℕ → Option (List Letter)
pattern_of text = if length text == 9 then letters_of text else None

-- the character of a letter
abbrev pub letter_character : Letter → ℕ
letter_character Any = 42
letter_character Filled = 84
letter_character Empty = 70
letter_character Zero = 48
letter_character One = 49
letter_character Two = 50

-- the text of a pattern, with capital letters
abbrev pub pattern_text : List Letter → List ℕ
pattern_text letters = map letter_character letters

-- the entry is as the letter asks
abbrev pub admits : Letter → Dim → Bool
admits Any d = true
admits Filled dims.Nothing = false
admits Filled d = true
admits Empty dims.Nothing = true
admits Empty d = false
admits Zero dims.Zero = true
admits Zero d = false
admits One dims.One = true
admits One d = false
admits Two dims.Two = true
admits Two d = false

-- each entry is as its letter asks
abbrev pub matches : List Letter → List Dim → Bool
matches letters entries = list_all (λ pair. admits pair.0 pair.1) (zip letters entries)

-- the letter asks for an entry that isn't empty
abbrev pub asks_filled : Letter → Bool
asks_filled Any = false
asks_filled Empty = false
asks_filled letter = true

-- of nine, those of the interiors and boundaries alone: II, IB, BI and BB
abbrev pub contacts : {X : Type 0} → List X → List X
contacts (ii ∷ ib ∷ ie ∷ bi ∷ bb ∷ rest) = ii ∷ ib ∷ bi ∷ bb ∷ []
contacts xs = []

-- the pattern asks that the geometries share a point
abbrev pub asks_contact : List Letter → Bool
asks_contact letters = list_any asks_filled (contacts letters)

-- the geometries of a matrix share a point
abbrev pub is_filled : Dim → Bool
is_filled dims.Nothing = false
is_filled d = true

abbrev pub has_contact : List Dim → Bool
has_contact entries = list_any is_filled (contacts entries)

-- a pattern that asks for contact matches no matrix without it
abbrev pub PatternsNeedContact : Type 0
PatternsNeedContact =
    (letters : List Letter) (entries : List Dim) → IsTrue (asks_contact letters) → IsFalse (has_contact entries)
    → length entries ≡ 9 → IsFalse (matches letters entries)

-- a pattern is that of its text
abbrev pub PatternsAreOfTheirTexts : Type 0
PatternsAreOfTheirTexts = (letters : List Letter) → length letters ≡ 9 → pattern_of (pattern_text letters) ≡ Some letters
