use Rattle.std.proofs.Common.{ap, ◌∙◌, subst, sym}
use Rattle.sf_known.specs.declared.known.Known.{Known}
use Rattle.sf_known.specs.Known.{Holds}
use Rattle.sf_relate.specs.Matrices.{matrix_of}
use Rattle.sf_relate.specs.Most.{known_beyond}
use Rattle.sf_relate.specs.Places.{shape_of}
use Rattle.sf_relate.proofs.BeyondLaws.{points-beyond}
use Rattle.sf_relate.proofs.nearby.known_at_first.Goals as goal

pub returns-in-Points-Areas : goal.returns-in-Points-Areas
returns-in-Points-Areas c =
    let a = c.args.a.now in
    let b = c.args.b.now in
    subst (λ (k : Known). Holds k (matrix_of a b))
    (sym (c.known_beyond.ensures ∙ ap (λ g. known_beyond g c.geometry-second.result.now) c.geometry-first.ensures.same ∙ ap (known_beyond a) c.geometry-second.ensures.same))
    (points-beyond a b c.geometry-first.ensures.valid.valid c.geometry-second.ensures.valid.valid
    (ap shape_of (sym c.geometry-first.ensures.same) ∙ sym c.of.ensures ∙ c.in-Points-Areas.is-0)
    (ap shape_of (sym c.geometry-second.ensures.same) ∙ sym c.of-2.ensures ∙ c.in-Points-Areas.is-1))
