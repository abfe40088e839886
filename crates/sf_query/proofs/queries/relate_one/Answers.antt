use Rattle.std.proofs.Common.{◌≡◌, subst, sym}
use Rattle.sf_geometry.specs.declared.geometry.Geometry.{Geometry}
use Rattle.sf_relate.specs.Matrices.{matrix_of}
use Rattle.sf_layers.specs.Content.{layer_of}
use Rattle.sf_relate.proofs.MatrixLaws.{matrix-over-plane}
use Rattle.sf_query.proofs.QueryLaws.{related}
use Rattle.sf_query.proofs.queries.relate_one.Goals as goal

pub returns : goal.returns
returns c =
    let a = c.valid.result.now in
    let b = c.args.given.now in
    let computed : c.in_ok-matrix_with.field-0.0 ≡ matrix_of a b = subst (λ (g : Geometry). c.in_ok-matrix_with.field-0.0 ≡ matrix_of a g) c.new.ensures.same c.in_ok-matrix_with.ensures in
    related (layer_of c.args.store.now c.args.layer.now) c.in-Some.layer.now c.args.id c.in-Some-feature.feature.now a b c.in_ok-matrix_with.field-0
    (sym c.in-Some.ensures.found) (sym c.in-Some-feature.ensures) c.valid.ensures.same computed (matrix-over-plane a b c.in_ok-matrix_with.field-0.0 computed)
