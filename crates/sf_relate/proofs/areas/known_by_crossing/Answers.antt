use Rattle.std.proofs.Common.{subst, sym}
use Rattle.sf_known.specs.declared.known.Known.{Known}
use Rattle.sf_known.specs.Known.{Holds}
use Rattle.sf_relate.specs.Matrices.{matrix_of}
use Rattle.sf_relate.proofs.FoundLaws.{overlap-holds}
use Rattle.sf_relate.proofs.areas.known_by_crossing.Goals as goal

pub returns-in-Ok-true : goal.returns-in-Ok-true
returns-in-Ok-true c =
    let a = c.args.a.now in
    let b = c.args.b.now in
    subst (λ (k : Known). Holds k (matrix_of a b)) (sym c.known_overlapping.ensures) (overlap-holds a b (c.in-Ok-true.ensures c.in-Ok-true.field-0-test))
