use Rattle.std.proofs.Common.{◌≡◌, ap, sym, ◌∙◌, subst, List, [], ◌∷◌}
use Rattle.std.specs.Prelude.{Option}
use Rattle.std.specs.List.{enumerate_from, flat_map}
use Rattle.sf_grid.specs.Plane.{Coordinates}
use Rattle.sf_geometry.specs.declared.geometry.Geometry.TheVariants.{Polygon}
use Rattle.sf_faults.specs.declared.place.Place.{Place}
use Rattle.sf_faults.specs.Candidates.{outside_at, outside_in}
use Rattle.sf_faults.specs.Places.{IsFirstAmong}
use Rattle.sf_faults.proofs.PlaceLaws.{ok-map}
use Rattle.sf_faults.proofs.outside.hole_outside_in.Goals as goal

pub returns : goal.returns
returns c =
    let shell : List Coordinates = c.in-Some.shell.now in
    let holes : List (List Coordinates) = c.in-Some.holes.now in
    ok-map c.first_outside.result
    (λ (place : Option Place). (s : List Coordinates) → c.in_ok-area.area ≡ Polygon (s ∷ []) → IsFirstAmong (flat_map (outside_at c.args.part s) (enumerate_from 1 holes)) place)
    (λ (place : Option Place). IsFirstAmong (outside_in (c.args.part, c.args.rings.now)) place)
    (λ place h.
    subst (λ (rings : List (List Coordinates)). IsFirstAmong (outside_in (c.args.part, rings)) place) (sym c.in-Some.ensures.cases.0)
    (h shell (c.in_ok-area.ensures ∙ ap Polygon c.from_ref.ensures.value)))
    c.first_outside.ensures
