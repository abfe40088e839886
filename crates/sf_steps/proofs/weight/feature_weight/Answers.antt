use Rattle.std.proofs.Common.{ap, arith}
use Rattle.sf_geometry.specs.Size.{point_count}
use Rattle.sf_steps.proofs.weight.feature_weight.Goals as goal

pub overflow_add-result : goal.overflow_add-result
overflow_add-result c =
    omega (arith, c.point_count-points.ensures, ap point_count c.geometry.ensures.same, c.geometry.ensures.valid.valid.sized.few, c.value_count.ensures.few)

pub returns-clause-bound : goal.returns-clause-bound
returns-clause-bound c =
    omega (arith, c.point_count-points.ensures, ap point_count c.geometry.ensures.same, c.geometry.ensures.valid.valid.sized.few, c.value_count.ensures.few)
