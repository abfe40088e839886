use Rattle.std.proofs.Common.{◌≡◌, IfSome, subst}
use Rattle.sf_geometry.specs.declared.geometry.Geometry.{Geometry}
use Rattle.sf_relate.specs.Matrices.{matrix_of}
use Rattle.sf_query.proofs.given.Given.matrix_clear.Goals as goal

pub returns-in-Some : goal.returns-in-Some
returns-in-Some c =
    subst (λ (g : Geometry). IfSome c.matrix_clear.result (λ matrix. matrix.0 ≡ matrix_of c.args.geometry.now g)) c.self.view_is c.matrix_clear.ensures.holds
