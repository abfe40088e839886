-- Internal: who wants to trust the program need not read this file.
-- The next column of a sweep: the least of the places at which something may begin, end or meet.
use Rattle.std.specs.Prelude.{Option, Some, None, List, [], ◌∷◌, IsTrue, if◌then◌else◌}
use Rattle.std.specs.List.{All, Contains}
use Rattle.sf_grid.specs.Fraction.{Fraction, fraction_le, fraction_lt, whole}
use Rattle.sf_grid.specs.Plane.{Coordinates, x_of}
use Rattle.sf_strips.specs.declared.contact.Contact.{Contact}
use Rattle.sf_strips.specs.declared.contact.Contact.TheVariants.{Ahead, Never, Throughout}
use Rattle.sf_strips.specs.declared.vertex.Vertex.{Vertex}

-- the columns of the points ahead that neighbours share
abbrev pub places_of : List Contact → List Fraction
places_of [] = []
places_of (Never ∷ cs) = places_of cs
places_of (Ahead p ∷ cs) = x_of p ∷ places_of cs
places_of (Throughout ∷ cs) = places_of cs

-- the columns of the next grid point and of those points
abbrev pub candidates : Option Coordinates → List Contact → List Fraction
candidates None cs = places_of cs
candidates (Some a) cs = whole a.x ∷ places_of cs

-- the place of the first vertex, where there is one
abbrev pub first_place : List Vertex → Option Coordinates
first_place [] = None
first_place (v ∷ vs) = Some v.at

-- y is one of the places, and none of them is left of it
pub record IsLeastOf (places : List Fraction) (y : Fraction) : Type 0 where
  pub among : Contains places y
  pub least : All (λ q. IsTrue (fraction_le y q)) places

-- the lesser of two places, of which the first may be missing
abbrev pub lesser : Option Fraction → Fraction → Fraction
lesser None q = q
lesser (Some p) q = if fraction_lt q p then q else p
