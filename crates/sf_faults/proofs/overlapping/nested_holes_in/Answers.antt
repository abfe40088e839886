use Rattle.std.proofs.Common.{◌∙◌, subst, sym, List}
use Rattle.std.specs.Prelude.{ℕ, ◌+◌, Option}
use Rattle.sf_grid.specs.Plane.{Coordinates}
use Rattle.sf_faults.specs.declared.place.Place.TheVariants.{Holes}
use Rattle.sf_faults.specs.Candidates.{nested_in}
use Rattle.sf_faults.specs.Places.{IsFirstPlace, NoneIsAtFault}
use Rattle.sf_faults.specs.Written.{AreFirstOverlapping}
use Rattle.sf_faults.proofs.OverlapLaws.{holes-first, holes-none}
use Rattle.sf_faults.proofs.overlapping.nested_holes_in.Goals as goal

pub returns-in_default-2 : goal.returns-in_default-2
returns-in_default-2 c =
    subst (λ (rings : List (List Coordinates)). NoneIsAtFault (nested_in (c.args.part, rings))) (sym c.in-Some.ensures.cases.0)
    (holes-none c.args.part c.in-Some.holes.now c.as_slice.result.now (c.as_slice.ensures.value ∙ c.in_ok-areas.ensures)
    (subst (λ (o : Option (ℕ × ℕ)). AreFirstOverlapping c.as_slice.result.now o) c.in_default-2.is c.in_ok-first.ensures.found))

pub returns : goal.returns
returns c =
    subst (λ (rings : List (List Coordinates)). IsFirstPlace (nested_in (c.args.part, rings)) (Holes c.args.part (c.in-Some-2.first + 1) (c.in-Some-2.second + 1))) (sym c.in-Some.ensures.cases.0)
    (holes-first c.args.part c.in-Some.holes.now c.as_slice.result.now c.in-Some-2.first c.in-Some-2.second (c.as_slice.ensures.value ∙ c.in_ok-areas.ensures)
    (subst (λ (o : Option (ℕ × ℕ)). AreFirstOverlapping c.as_slice.result.now o) c.in-Some-2.is c.in_ok-first.ensures.found))
