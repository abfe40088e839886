-- Internal: who wants to trust the program need not read this file.
-- What a sweep keeps that changes its order at one place: contacts and parities by pieces, and how far it is in a column.
use Rattle.std.specs.Prelude.{◌≡◌, ◌≢◌, ℕ, Bool, false, ◌&&◌, ◌||◌, List, [], ◌∷◌, drop, Option, None, Some, slice_index_or, if◌then◌else◌}
use Rattle.std.specs.List.{AllByRecursion}
use Rattle.sf_grid.specs.Fraction.{fraction_eq, fraction_lt}
use Rattle.sf_grid.specs.Plane.{Point, x_of, y_of}
use Rattle.sf_strips.specs.declared.active.Active.{Active}
use Rattle.sf_strips.specs.declared.contact.Contact.{Contact}
use Rattle.sf_strips.specs.declared.contact.Contact.TheVariants.{Ahead, Never, Throughout}
use Rattle.sf_strips.specs.Parts.{touches_first}

-- ---- the nearest point ahead
-- columns from the left, each from the top
abbrev pub point_before : Point → Point → Bool
point_before p q = fraction_lt (x_of p) (x_of q) || (fraction_eq (x_of p) (x_of q) && fraction_lt (y_of q) (y_of p))

-- the point that two neighbours share ahead
abbrev pub ahead_of : Contact → Option Point
ahead_of Never = None
ahead_of (Ahead p) = Some p
ahead_of Throughout = None

-- where it is a meeting ahead, that doesn't come before p
abbrev pub IsNotBefore : Point → Contact → Type 0
IsNotBefore p Never = Unit {0}
IsNotBefore p (Ahead q) = point_before q p ≡ false
IsNotBefore p Throughout = Unit {0}

-- ---- contacts by pieces
-- the contact of each edge with the next one, from a table with one place for each piece
abbrev pub contacts_of : List Contact → List Active → List Contact
contacts_of table [] = []
contacts_of table (a ∷ []) = []
contacts_of table (a ∷ b ∷ os) = slice_index_or table a.piece Never ∷ contacts_of table (b ∷ os)

-- pieces that have no edge in the order have no contact
abbrev pub IsNeverElsewhere : List Contact → List Active → Type 0
IsNeverElsewhere table os = (i : ℕ) → AllByRecursion (λ a. i ≢ a.piece) os → slice_index_or table i Never ≡ Never

-- the bundles of an order: edges that lie on one line together
abbrev pub with_first : ℕ → List (List ℕ) → List (List ℕ)
with_first n [] = (n ∷ []) ∷ []
with_first n (b ∷ bs) = (n ∷ b) ∷ bs

abbrev pub bundles_of : List Contact → List Active → List (List ℕ)
bundles_of cs [] = []
bundles_of cs (a ∷ os) =
    let rest = bundles_of (drop 1 cs) os in if touches_first None cs then with_first a.piece rest else (a.piece ∷ []) ∷ rest
