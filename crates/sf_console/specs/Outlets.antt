-- What has left a writer for whoever reads the answers.
use Rattle.std.specs.Prelude.{◌≡◌, ℕ, List, ⊤, Option, None, Some}

-- all bytes that it holds have left it, as far as is known which have
abbrev pub HasLeft : Option (List ℕ) → Option (List ℕ) → Type 0
HasLeft None contents = ⊤
HasLeft (Some left) contents = contents ≡ Some left

-- where all had left before, all have left
abbrev pub StaysLeft : Option (List ℕ) → Option (List ℕ) → Option (List ℕ) → Option (List ℕ) → Type 0
StaysLeft left_before contents_before left contents = HasLeft left_before contents_before → HasLeft left contents
