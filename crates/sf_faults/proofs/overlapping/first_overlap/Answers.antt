use Rattle.std.proofs.Common.{◌∙◌, subst}
use Rattle.std.specs.Prelude.{ℕ, Option}
use Rattle.sf_faults.specs.Written.{AreFirstOverlapping}
use Rattle.sf_faults.proofs.OverlapLaws.{parts-first, parts-none}
use Rattle.sf_faults.proofs.overlapping.first_overlap.Goals as goal

pub returns-in_default : goal.returns-in_default
returns-in_default c =
    parts-none c.args.polygons.now c.as_slice.result.now (c.as_slice.ensures.value ∙ c.in_ok-areas.ensures)
    (subst (λ (o : Option (ℕ × ℕ)). AreFirstOverlapping c.as_slice.result.now o) c.in_default.is c.in_ok-first.ensures.found)

pub returns : goal.returns
returns c =
    parts-first c.args.polygons.now c.as_slice.result.now c.in-Some.first c.in-Some.second (c.as_slice.ensures.value ∙ c.in_ok-areas.ensures)
    (subst (λ (o : Option (ℕ × ℕ)). AreFirstOverlapping c.as_slice.result.now o) c.in-Some.is c.in_ok-first.ensures.found)
