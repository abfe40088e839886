use Rattle.std.proofs.Common.{subst, sym}
use Rattle.sf_known.specs.declared.known.Known.{Known}
use Rattle.sf_known.specs.Known.{Holds}
use Rattle.sf_relate.specs.Matrices.{matrix_of}
use Rattle.sf_relate.proofs.FoundLaws.{nothing-holds}
use Rattle.sf_relate.proofs.walking.meets.Goals as goal

pub meets_from-requires : goal.meets_from-requires
meets_from-requires c =
    let a = c.args.a.now in
    let b = c.args.b.now in
    subst (λ (k : Known). Holds k (matrix_of a b)) (sym c.nothing.ensures) (nothing-holds a b)
