use Rattle.std.proofs.Common.{ap, sym, ◌∙◌}
use Rattle.std.proofs.lemmas.Bool.{not-true}
use Rattle.sf_geometry.specs.Envelope.{extent_of, extents_meet}
use Rattle.sf_faults.proofs.BoxLaws.{grown-is}
use Rattle.sf_faults.proofs.sharing.are_apart.Goals as goal

pub returns-in-Some-Some : goal.returns-in-Some-Some
returns-in-Some-Some c =
    λ apart.
    let first = grown-is c.args.a.now c.in-Some-Some.first (sym c.of_points.ensures ∙ c.in-Some-Some.is-0) in
    let second = grown-is c.args.b.now c.in-Some-Some.second (sym c.of_points-2.ensures ∙ c.in-Some-Some.is-1) in
    sym (c.meets.ensures ∙ ap (λ e. extents_meet e c.in-Some-Some.second) first ∙ ap (extents_meet (extent_of c.args.a.now)) second) ∙ not-true c.meets.result apart
