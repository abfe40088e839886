use Rattle.std.proofs.Common.{ap}
use Rattle.sf_relate.proofs.ToldLaws.{alike-entries}
use Rattle.sf_relate.proofs.by_kinds.matrix_alike.Goals as goal

pub returns-clause-holds : goal.returns-clause-holds
returns-clause-holds c =
    alike-entries c.args.a.now c.args.b.now c.geometry.result.now c.geometry-2.result.now c.own_dims-interior.result.0 c.own_dims-interior.result.1
    c.own_dims-interior.ensures.valid (c.are_alike.ensures.0 c.if-not-are_alike.false) c.geometry.ensures.same c.geometry-2.ensures.same
    (ap (λ dims. dims.0) c.own_dims-interior.ensures.dims) (ap (λ dims. dims.1) c.own_dims-interior.ensures.dims)
