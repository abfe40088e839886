-- Distances that words spell, in thousandths of a grid step.
use Rattle.std.specs.Prelude.{ℕ, ◌*◌, Bool, ℤ, pos, List, [], ◌∷◌, Option, None, Some, bytes_eq, codes, nat_eq, nat_lt, if◌then◌else◌}
use Rattle.std.specs.Map.{lookup}
use Rattle.sf_decimals.specs.declared.number.Number.{Number}
use Rattle.sf_decimals.specs.Decimals.{decimal_spelled}
use Rattle.sf_distance.specs.Reaches.{reach_limit}

-- whether a word asks for what is near
abbrev pub is_near : List ℕ → Bool
is_near word = bytes_eq word (codes "near")

-- how many thousandths one of the last digit is, where so many stand behind the point: three at most
abbrev pub scale_of : ℕ → Option ℕ
scale_of places = lookup (nat_eq places) ((0, 1000) ∷ (1, 100) ∷ (2, 10) ∷ (3, 1) ∷ [])

-- a distance below the limit
abbrev pub within_limit : ℕ → Option ℕ
within_limit thousandths = if nat_lt thousandths reach_limit then Some thousandths else None

abbrev pub reach_by : ℤ → Option ℕ → Option ℕ
reach_by (pos n) (Some scale) = within_limit (n * scale)
reach_by mantissa scale = None

abbrev pub reach_in : Option Number → Option ℕ
reach_in None = None
reach_in (Some number) = reach_by number.mantissa (scale_of number.places)

-- the distance that a word spells: a number from 0 on, in grid steps, below 2^32 and with three places at most
abbrev pub reach_of : List ℕ → Option ℕ
reach_of word = reach_in (decimal_spelled word)
