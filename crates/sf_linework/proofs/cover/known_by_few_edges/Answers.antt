use Rattle.std.proofs.Common.{refl, subst, sym, true}
use Rattle.sf_known.specs.declared.known.Known.{Known}
use Rattle.sf_known.specs.Known.{Holds}
use Rattle.sf_relate.specs.Matrices.{matrix_of}
use Rattle.sf_relate.proofs.FoundLaws.{nothing-holds}
use Rattle.sf_linework.proofs.AlongLaws.{along-holds, known-along}
use Rattle.sf_linework.proofs.cover.known_by_few_edges.Goals as goal

pub returns-in_default : goal.returns-in_default
returns-in_default c = subst (λ (k : Known). Holds k (matrix_of c.args.a.now c.args.b.now)) (sym c.nothing.ensures) (nothing-holds c.args.a.now c.args.b.now)

pub returns-in-Ok : goal.returns-in-Ok
returns-in-Ok c =
    let a = c.args.a.now in
    let b = c.args.b.now in
    along-holds a b c.known_of_length.result c.geometry.ensures.valid.valid c.geometry-2.ensures.valid.valid
    (known-along a b c.geometry.result.now c.geometry-2.result.now c.geometry-3.result.now c.geometry-4.result.now c.of.result c.of-2.result c.in-Some.entry true c.known_of_length.result
    c.geometry.ensures.same c.geometry-2.ensures.same c.geometry-3.ensures.same c.geometry-4.ensures.same c.of.ensures c.of-2.ensures c.in-Some.ensures.place
    (λ t. c.in-Ok.ensures c.if-along.true, λ r. refl) c.known_of_length.ensures)

pub returns-in_default-has_edge_within : goal.returns-in_default-has_edge_within
returns-in_default-has_edge_within c =
    subst (λ (k : Known). Holds k (matrix_of c.args.a.now c.args.b.now)) (sym c.nothing-in_default-has_edge_within.ensures) (nothing-holds c.args.a.now c.args.b.now)
