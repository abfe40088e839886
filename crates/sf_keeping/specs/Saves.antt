-- The line by which a save is asked for.
use Rattle.std.specs.Prelude.{◌≡◌, ℕ, Bool, false, List, bytes_eq, codes}
use Rattle.std.specs.List.{AllByRecursion}
use Rattle.sf_console.specs.Requests.{Request}

-- the text asks for a save
abbrev pub is_save : List ℕ → Bool
is_save text = bytes_eq text (codes "save")

-- a save is asked nowhere
abbrev pub AskForNone : List Request → Type 0
AskForNone asked = AllByRecursion (λ request. is_save request.text ≡ false) asked
