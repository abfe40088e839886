-- What is kept of a session: the texts that were accepted as edits, groups, undos and redos.
use Rattle.std.specs.Prelude.{◌≡◌, ◌⊎◌, ℕ, List, [], ◌∷◌, ◌++◌, Some}
use Rattle.sf_text_lines.specs.Lines.{HasNoFeed}
use Rattle.sf_console.specs.History.{Machine}
use Rattle.sf_console.specs.Readings.{text_reading}
use Rattle.sf_console.specs.Requests.{Request}
use Rattle.sf_console.specs.Session.{IsAnswered}
use Rattle.sf_keeping.specs.Changes.{changed}

-- what is asked is answered with the text, and these texts are to be kept of it: its own, where it changed the machine, and else none
abbrev pub IsKept : Machine → Request → List ℕ → List (List ℕ) → Machine → Type 0
IsKept old request answer kept new =
    IsAnswered old request.reading answer new
    × (((kept ≡ []) × (new ≡ old))
    ⊎ ((kept ≡ request.text ∷ []) × HasNoFeed request.text × (changed old (text_reading request.text) ≡ Some new)))

-- what is asked, one after another, gives the output, and these texts are to be kept of it
abbrev pub Keeps : Machine → List Request → List ℕ → List (List ℕ) → Machine → Type 0
Keeps old [] output kept new = (output ≡ []) × (kept ≡ []) × (new ≡ old)
Keeps old (request ∷ requests) output kept new =
    (mid : Machine) × (answer : List ℕ) × (own : List (List ℕ)) × (rest : List ℕ) × (later : List (List ℕ))
    × IsKept old request answer own mid × Keeps mid requests rest later new × (output ≡ answer ++ rest) × (kept ≡ own ++ later)
