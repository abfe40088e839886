-- The place of a fault: the first one, in their order, whose condition applies.
use Rattle.std.specs.Prelude.{◌≡◌, ◌⊎◌, List, [], ◌∷◌, Option, Some, None}
use Rattle.std.specs.List.{AllByRecursion}
use Rattle.sf_geometry.specs.declared.geometry.Geometry.{Geometry}
use Rattle.sf_valid_rules.specs.declared.fault.Fault.{Fault}
use Rattle.sf_valid_rules.specs.Conditions.{Applies}
use Rattle.sf_valid_rules.specs.Validity.{IsFirstFault}
use Rattle.sf_faults.specs.declared.place.Place.{Place}
use Rattle.sf_faults.specs.Candidates.{Candidate, candidates}

-- no condition of these applies
abbrev pub NoneIsAtFault : List Candidate → Type 0
NoneIsAtFault cs = AllByRecursion (λ c. ¬ (Applies c.condition)) cs

-- the place is that of the first one whose condition applies
abbrev pub IsFirstPlace : List Candidate → Place → Type 0
IsFirstPlace [] place = ⊥
IsFirstPlace (c ∷ cs) place = (Applies c.condition × (place ≡ c.place)) ⊎ ((¬ (Applies c.condition)) × IsFirstPlace cs place)

-- none of the conditions applies, or the place is that of the first one that does
abbrev pub IsFirstAmong : List Candidate → Option Place → Type 0
IsFirstAmong cs None = NoneIsAtFault cs
IsFirstAmong cs (Some place) = IsFirstPlace cs place

-- where a geometry has a fault first, over all points of the plane; or nowhere
abbrev pub IsPlaceOf : Geometry → Fault → Option Place → Type 0
IsPlaceOf geometry fault place = IsFirstAmong (candidates geometry fault) place

-- a geometry has its first fault somewhere
abbrev pub FirstFaultsHavePlaces : Type 0
FirstFaultsHavePlaces = (geometry : Geometry) (fault : Fault) → IsFirstFault geometry fault → ¬ (IsPlaceOf geometry fault None)
