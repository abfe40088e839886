-- How values that a text names are parted: in a list by commas, in a range by the word `to`. Neither parts within quotes.
use Rattle.std.specs.Prelude.{ℕ, Bool, true, false, not, ◌&&◌, ◌==◌, List, [], ◌∷◌, drop, Option, None, Some, option_map, if◌then◌else◌}
use Rattle.sf_wkt.specs.Tokens.{is_blank}
use Rattle.sf_words.specs.Words.{at_blank, onto_first, skip_blanks, trimmed_end}

-- a text without the blanks around it
abbrev pub trimmed : List ℕ → List ℕ
trimmed text = trimmed_end (skip_blanks text)

-- whether what stands behind a byte is within quotes: each quote opens a text or closes it, and two that stand for one do both
abbrev pub within_behind : Bool → ℕ → Bool
within_behind within b = if b == 39 then not within else within

-- ---- lists

-- whether a byte is a comma outside of quotes
abbrev pub is_parting : Bool → ℕ → Bool
is_parting within b = not within && b == 44

-- the parts of a text, between commas outside of quotes; one alone where it has none
abbrev pub parts_from : Bool → List ℕ → List (List ℕ)
parts_from within [] = [] ∷ []
parts_from within (b ∷ bytes) = let rest = parts_from (within_behind within b) bytes in
    if is_parting within b then [] ∷ rest else onto_first b rest

-- those of a text that begins outside of quotes
abbrev pub listed : List ℕ → List (List ℕ)
listed text = parts_from false text

-- ---- ranges

-- whether a text begins with `to`, and a blank or the end stands behind that
abbrev pub begins_with_to : List ℕ → Bool
begins_with_to [] = false
begins_with_to (a ∷ []) = false
begins_with_to (a ∷ b ∷ bytes) = a == 116 && b == 111 && at_blank bytes

-- whether a word outside of quotes may begin behind a byte
abbrev pub may_begin : Bool → ℕ → Bool
may_begin within b = not within && is_blank b

-- what stands before the first word `to` outside of quotes, and behind it, where it stands; whether a word may begin at the front is given
abbrev pub ends_from : Bool → Bool → List ℕ → Option (List ℕ × List ℕ)
ends_from within begins [] = None
ends_from within begins (b ∷ bytes) =
    if begins && begins_with_to (b ∷ bytes) then Some ([], drop 1 bytes)
    else option_map (λ ends. (b ∷ ends.0, ends.1)) (ends_from (within_behind within b) (may_begin within b) bytes)

-- those of a whole text
abbrev pub around_to : List ℕ → Option (List ℕ × List ℕ)
around_to text = ends_from false true text
