use Rattle.std.proofs.Common.{◌≡◌, ◌∙◌, subst, Bool}
use Rattle.std.specs.Prelude.{◌↔◌, IsTrue}
use Rattle.sf_along.specs.Along.{RunAlong}
use Rattle.sf_geometry.specs.declared.geometry.Geometry.{Geometry}
use Rattle.std.proofs.lemmas.Bool.{both_ways}
use Rattle.sf_known.specs.declared.aim.Aim.{Aim}
use Rattle.sf_known.specs.Known.{have_most, is_enough}
use Rattle.sf_known.proofs.OrderLaws.{entries-known}
use Rattle.sf_relate.specs.Matrices.{matrix_of}
use Rattle.sf_relate.proofs.AreasLaws.{boundaries-left, matrix-given, matrix-missing}
use Rattle.sf_relate.proofs.MatrixLaws.{matrix-over-plane}
use Rattle.sf_relate.proofs.relating.relate_from.Goals as goal
use Rattle.sf_relate.proofs.relating.relate_from.Goals.{then-are_areas, else-are_areas}

pub returns-in-Some-clause-computed : goal.returns-in-Some-clause-computed
returns-in-Some-clause-computed c =
    let found = c.in_ok-found in
    let given = matrix-given (have_most found.found.least found.found.most) found.found.least c.in-Some.matrix c.in-Some.ensures in
    given.1 ∙ entries-known found.found.least (matrix_of c.args.a.now c.args.b.now) found.found.most found.ensures.holds.least found.ensures.holds.most given.0

-- edges that run along one another are those of both
along : (a b g k : Geometry) (told : Bool) → g ≡ a → k ≡ b → IsTrue told ↔ RunAlong g k → IsTrue told ↔ RunAlong a b
along a b g k told e f r = subst (λ (h : Geometry). IsTrue told ↔ RunAlong a h) f (subst (λ (h : Geometry). IsTrue told ↔ RunAlong h k) e r)

pub returns-in_ok-along-in-None-clause-computed : goal.returns-in_ok-along-in-None-clause-computed
returns-in_ok-along-in-None-clause-computed c =
    let a = c.args.a.now in
    let b = c.args.b.now in
    let found = c.in_ok-found in
    let missing = matrix-missing (have_most found.found.least found.found.most) found.found.least c.in-None.ensures in
    elim c.if-are_areas.branch [
      | then-are_areas w ↦
          let areas = c.are_areas.ensures.areas w.if-are_areas.true in
          c.matrix_along.ensures
          ∙ boundaries-left a b found.found c.in_ok-along-in-None.along c.geometry.ensures.valid.valid c.geometry-in-None.ensures.valid.valid areas.0 areas.1
          found.ensures.holds (subst (λ (aim : Aim). IsTrue (is_enough found.found aim)) w.aim-is found.ensures.enough) missing
          (along a b c.geometry.result.now c.geometry-in-None.result.now c.in_ok-along-in-None.along c.geometry.ensures.same c.geometry-in-None.ensures.same c.in_ok-along-in-None.ensures)
      | else-are_areas w ↦
          absurd (both_ways (have_most found.found.least found.found.most) missing (subst (λ (aim : Aim). IsTrue (is_enough found.found aim)) w.aim-is found.ensures.enough))
    ]

pub returns-in_ok-along-in-None-clause-plane : goal.returns-in_ok-along-in-None-clause-plane
returns-in_ok-along-in-None-clause-plane c = matrix-over-plane c.args.a.now c.args.b.now c.matrix_along.result.0 (returns-in_ok-along-in-None-clause-computed c)

pub returns-in-Some-clause-plane : goal.returns-in-Some-clause-plane
returns-in-Some-clause-plane c = matrix-over-plane c.args.a.now c.args.b.now c.in-Some.matrix.0 (returns-in-Some-clause-computed c)
