use Rattle.std.proofs.Common.{◌∙◌, ap, subst, sym}
use Rattle.sf_geometry.specs.declared.geometry.Geometry.{Geometry}
use Rattle.sf_known.specs.declared.known.Known.{Known}
use Rattle.sf_known.specs.Known.{Holds}
use Rattle.sf_relate.specs.Matrices.{matrix_of}
use Rattle.sf_relate.proofs.FoundLaws.{nothing-holds}
use Rattle.sf_relate.proofs.ResultLaws.{answered}
use Rattle.sf_query.proofs.given.Given.matrix_with.Goals as goal

pub known_by-known-requires : goal.known_by-known-requires
known_by-known-requires c =
    let a = c.args.geometry.now in
    let b = c.args.self.now in
    subst (λ (k : Known). Holds k (matrix_of a b)) (sym c.nothing.ensures) (nothing-holds a b)

pub relate_from-requires : goal.relate_from-requires
relate_from-requires c = subst (λ (g : Geometry). Holds c.known_by-known.result (matrix_of c.args.geometry.now g)) (sym c.self.view_is) c.known_by-known.ensures

pub returns-then-is_enough : goal.returns-then-is_enough
returns-then-is_enough c = answered c.relate_from.result (λ matrix is. is ∙ ap (λ (g : Geometry). matrix_of c.args.geometry.now g) c.self.view_is) c.relate_from.ensures.computed

pub known_prepared-known-requires : goal.known_prepared-known-requires
known_prepared-known-requires c = c.known_by-known.ensures

pub relate_from-requires-2 : goal.relate_from-requires-2
relate_from-requires-2 c = subst (λ (g : Geometry). Holds c.known_prepared-known.result (matrix_of c.args.geometry.now g)) (sym c.self.view_is) c.known_prepared-known.ensures

pub returns : goal.returns
returns c = answered c.relate_from-2.result (λ matrix is. is ∙ ap (λ (g : Geometry). matrix_of c.args.geometry.now g) c.self.view_is) c.relate_from-2.ensures.computed
