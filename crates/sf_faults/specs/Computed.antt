-- Computes the place of a fault (IsPlaceOf), as the law PlaceIsOverThePlane below says: the points of the plane that are
-- looked at are the samples of the rings' edges and vertices.
use Rattle.std.specs.Prelude.{◌≡◌, List, [], ◌∷◌, Option, Some, None, if◌then◌else◌}
use Rattle.sf_grid.specs.Plane.{Point}
use Rattle.sf_geometry.specs.declared.geometry.Geometry.{Geometry}
use Rattle.sf_geometry.specs.Parts.{rings_of}
use Rattle.sf_valid_rules.specs.declared.fault.Fault.{Fault}
use Rattle.sf_valid_rules.specs.Conditions.{applies_among}
use Rattle.sf_valid_rules.specs.Verdicts.{points_among}
use Rattle.sf_faults.specs.declared.place.Place.{Place}
use Rattle.sf_faults.specs.Candidates.{Candidate, candidates}
use Rattle.sf_faults.specs.Places.{IsPlaceOf}

-- the first place whose condition applies where only these points are looked at
abbrev pub first_place_among : List Point → List Candidate → Option Place
first_place_among points [] = None
first_place_among points (c ∷ cs) =
    let later = first_place_among points cs in
    if applies_among points c.condition then Some c.place else later

-- where a geometry has a fault first, if anywhere
abbrev pub first_place : Geometry → Fault → Option Place
first_place geometry fault = first_place_among (points_among (rings_of geometry)) (candidates geometry fault)

-- the place that is computed is the first one over the plane, and there is no other
pub record PlaceIsOverThePlane (geometry : Geometry) (fault : Fault) : Type 0 where
  pub computed : IsPlaceOf geometry fault (first_place geometry fault)
  pub only : (place : Option Place) → IsPlaceOf geometry fault place → place ≡ first_place geometry fault

abbrev pub PlacesAreOverThePlane : Type 0
PlacesAreOverThePlane = (geometry : Geometry) (fault : Fault) → PlaceIsOverThePlane geometry fault
