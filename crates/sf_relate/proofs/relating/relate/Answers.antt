use Rattle.std.proofs.Common.{subst, sym}
use Rattle.sf_known.specs.declared.known.Known.{Known}
use Rattle.sf_known.specs.Known.{Holds}
use Rattle.sf_relate.specs.Matrices.{matrix_of}
use Rattle.sf_relate.proofs.FoundLaws.{known-or}
use Rattle.sf_relate.proofs.MatrixLaws.{matrix-over-plane}
use Rattle.sf_relate.proofs.relating.relate.Goals as goal

pub returns-in-Some-clause-plane : goal.returns-in-Some-clause-plane
returns-in-Some-clause-plane c = matrix-over-plane c.args.a.now c.args.b.now c.in-Some.matrix.0 c.in-Some.ensures.holds

pub relate_from-requires : goal.relate_from-requires
relate_from-requires c =
    let a = c.args.a.now in
    let b = c.args.b.now in
    subst (λ (k : Known). Holds k (matrix_of a b)) (sym c.unwrap_or-known.ensures) (known-or c.known_by_crossing.result a b c.nothing.result c.known_by_crossing.ensures c.nothing.ensures)
