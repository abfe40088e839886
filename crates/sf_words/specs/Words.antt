-- The words of a line, which spaces and tabs part.
use Rattle.std.specs.Prelude.{ℕ, ◌-◌, Bool, true, not, List, [], ◌∷◌, length, drop, take, if◌then◌else◌}
use Rattle.std.specs.List.{prefix_len, suffix_len}
use Rattle.sf_wkt.specs.Tokens.{is_blank}

-- whether a line ends here, or a blank stands here
abbrev pub at_blank : List ℕ → Bool
at_blank [] = true
at_blank (b ∷ bytes) = is_blank b

-- a byte in front of the first word
abbrev pub onto_first : ℕ → List (List ℕ) → List (List ℕ)
onto_first b [] = (b ∷ []) ∷ []
onto_first b (word ∷ words) = (b ∷ word) ∷ words

-- the words of a line, which blanks part
abbrev pub words : List ℕ → List (List ℕ)
words [] = []
words (b ∷ bytes) = let rest = words bytes in
    if is_blank b then rest else if at_blank bytes then (b ∷ []) ∷ rest else onto_first b rest

-- the line from its first word on
abbrev pub skip_blanks : List ℕ → List ℕ
skip_blanks line = drop (prefix_len is_blank line) line

-- the line after its first word
abbrev pub skip_word : List ℕ → List ℕ
skip_word line = drop (prefix_len (λ b. not (is_blank b)) (skip_blanks line)) (skip_blanks line)

-- a text without the blanks at its end
abbrev pub trimmed_end : List ℕ → List ℕ
trimmed_end text = take (length text - suffix_len is_blank text) text
