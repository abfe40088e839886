use Rattle.std.proofs.Common.{◌∙◌, ap, subst, sym}
use Rattle.sf_known.specs.declared.known.Known.{Known}
use Rattle.sf_known.specs.Known.{Holds}
use Rattle.sf_relate.specs.Matrices.{matrix_of}
use Rattle.sf_known.specs.Transposed.{known_transposed}
use Rattle.sf_query.proofs.EvidenceLaws.{given-place-holds}
use Rattle.sf_query.proofs.evidence.by_given_place.Goals as goal

pub returns-in-Point-clause-holds : goal.returns-in-Point-clause-holds
returns-in-Point-clause-holds c =
    let a = c.args.geometry.now in
    let b = c.args.given.now in
    subst (λ (k : Known). Holds k (matrix_of a b)) (sym (c.transposed.ensures ∙ ap known_transposed c.known_of_place.ensures))
    (given-place-holds a b c.in-Point.point c.locate.result (sym c.geometry.ensures.same ∙ c.in-Point.is) c.requires c.geometry.ensures.valid.valid c.locate.ensures)
