-- The order of breaks, and the least of several.
use Rattle.std.specs.Prelude.{Bool, true, false, ◌&&◌, ◌||◌, List, [], ◌∷◌, Option, None, Some, nat_eq, nat_lt, if◌then◌else◌}
use Rattle.sf_rules.specs.declared.breaks.Break.{Break}
use Rattle.sf_rules.specs.declared.breaks.Break.TheVariants.{Pair, Alone}

-- whether a break comes before another: pairs by their first feature and then by the second
abbrev pub is_before : Break → Break → Bool
is_before (Pair a b) (Pair c d) = nat_lt a c || (nat_eq a c && nat_lt b d)
is_before (Alone a) (Alone b) = nat_lt a b
is_before (Pair a b) (Alone c) = true
is_before (Alone a) (Pair b c) = false

-- the one of two that comes first; the new one where there was none
abbrev pub lesser : Break → Option Break → Option Break
lesser found None = Some found
lesser found (Some least) = if is_before found least then Some found else Some least

-- the least of these and of what was the least before
abbrev pub least_from : Option Break → List Break → Option Break
least_from least [] = least
least_from least (found ∷ rest) = least_from (lesser found least) rest
