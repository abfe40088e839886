use Rattle.sf_linework.proofs.BesideLaws.{beside-answers, beside-holds, known-beside}
use Rattle.sf_linework.proofs.beside.known_beside.Goals as goal

pub returns-clause-value : goal.returns-clause-value
returns-clause-value c =
    known-beside c.args.a.now c.args.b.now c.geometry.result.now c.geometry-2.result.now c.of.result c.of-2.result (c.in-Some.entry, c.in-Some.rest) c.known_of_rest.result
    c.geometry.ensures.same c.geometry-2.ensures.same c.of.ensures c.of-2.ensures c.in-Some.ensures.place c.known_of_rest.ensures

pub returns-clause-holds : goal.returns-clause-holds
returns-clause-holds c =
    beside-holds c.args.a.now c.args.b.now c.known_of_rest.result c.geometry.ensures.valid.valid c.geometry-2.ensures.valid.valid
    (known-beside c.args.a.now c.args.b.now c.geometry.result.now c.geometry-2.result.now c.of.result c.of-2.result (c.in-Some.entry, c.in-Some.rest) c.known_of_rest.result
    c.geometry.ensures.same c.geometry-2.ensures.same c.of.ensures c.of-2.ensures c.in-Some.ensures.place c.known_of_rest.ensures)

pub returns-clause-answers : goal.returns-clause-answers
returns-clause-answers c =
    beside-answers c.args.a.now c.args.b.now c.geometry.result.now c.geometry-2.result.now c.of.result c.of-2.result (c.in-Some.entry, c.in-Some.rest)
    c.geometry.ensures.same c.geometry-2.ensures.same c.of.ensures c.of-2.ensures c.in-Some.ensures.place
