use Rattle.sf_linework.specs.Alongside.{IsKnownAlong}
use Rattle.sf_linework.proofs.AlongLaws.{along-holds, known-along}
use Rattle.sf_linework.proofs.alongside.known_alongside.Goals as goal
use Rattle.sf_linework.proofs.alongside.known_alongside.Goals.{After-known_of_length}

known : (c : After-known_of_length) → IsKnownAlong c.args.a.now c.args.b.now c.known_of_length.result
known c =
    known-along c.args.a.now c.args.b.now c.geometry.result.now c.geometry-2.result.now c.geometry-3.result.now c.geometry-4.result.now c.of.result c.of-2.result c.in-Some.entry c.in-Ok.along c.known_of_length.result
    c.geometry.ensures.same c.geometry-2.ensures.same c.geometry-3.ensures.same c.geometry-4.ensures.same c.of.ensures c.of-2.ensures c.in-Some.ensures.place c.in-Ok.ensures c.known_of_length.ensures

pub returns-clause-known : goal.returns-clause-known
returns-clause-known c = known (goal.at.returns-clause-known c).After-known_of_length

pub returns-clause-holds : goal.returns-clause-holds
returns-clause-holds c =
    along-holds c.args.a.now c.args.b.now c.known_of_length.result c.geometry.ensures.valid.valid c.geometry-2.ensures.valid.valid (known (goal.at.returns-clause-holds c).After-known_of_length)
