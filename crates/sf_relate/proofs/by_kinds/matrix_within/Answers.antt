use Rattle.std.proofs.Common.{ap, refl}
use Rattle.sf_relate.proofs.ToldLaws.{within-entries}
use Rattle.sf_relate.proofs.by_kinds.matrix_within.Goals as goal

pub returns : goal.returns
returns c =
    within-entries c.args.a.now c.args.b.now c.args.a.now c.args.b.now
    c.own_dims-ia.result.0 c.own_dims-ia.result.1 c.own_dims-ib.result.0 c.own_dims-ib.result.1
    c.own_dims-ia.ensures.valid c.own_dims-ib.ensures.valid c.requires.within c.requires.area refl refl
    (ap (λ dims. dims.0) c.own_dims-ia.ensures.dims) (ap (λ dims. dims.1) c.own_dims-ia.ensures.dims)
    (ap (λ dims. dims.0) c.own_dims-ib.ensures.dims) (ap (λ dims. dims.1) c.own_dims-ib.ensures.dims)
