-- Internal: who wants to trust the program need not read this file.
-- What a search for a point that two sets share reports.
use Rattle.std.specs.Prelude.{Bool, true, false}
use Rattle.sf_grid.specs.Plane.{Point as PlanePoint}
use Rattle.sf_contact.specs.EdgeContact.{Share}

-- whether both sets have a point of the plane
abbrev pub Tells : Bool → (PlanePoint → Bool) → (PlanePoint → Bool) → Type 0
Tells true a b = Share a b
Tells false a b = ¬ (Share a b)
