use Rattle.sf_linework.proofs.CoverLaws.{ends-known, known-holds, whole-known}
use Rattle.sf_linework.specs.Cover.{IsKnownByCover}
use Rattle.sf_linework.proofs.cover.known_by_own_cover.Goals as goal
use Rattle.sf_linework.proofs.cover.known_by_own_cover.Goals.{After-known_of_covered, After-known_of_ends_at}

whole : (c : After-known_of_covered) → IsKnownByCover c.args.a.now c.args.b.now c.known_of_covered.result
whole c =
    whole-known c.args.a.now c.args.b.now c.geometry.result.now c.geometry-2.result.now c.of-first.result c.of-second.result c.known_of_covered.result
    c.geometry.ensures.same c.geometry-2.ensures.same c.of-first.ensures c.of-second.ensures c.known_of_covered.ensures (c.cover_of.ensures.whole c.in-Whole.is)

ends : (c : After-known_of_ends_at) → IsKnownByCover c.args.a.now c.args.b.now c.known_of_ends_at.result
ends c =
    ends-known c.args.a.now c.args.b.now c.geometry.result.now c.geometry-2.result.now c.of-first.result c.of-second.result c.in-Ends.seen c.known_of_ends_at.result
    c.geometry.ensures.same c.geometry-2.ensures.same c.of-first.ensures c.of-second.ensures c.known_of_ends_at.ensures (c.cover_of.ensures.ends c.in-Ends.seen c.in-Ends.is)

pub returns-in-Whole-clause-known : goal.returns-in-Whole-clause-known
returns-in-Whole-clause-known c = whole (goal.at.returns-in-Whole-clause-known c).After-known_of_covered

pub returns-in-Whole-clause-holds : goal.returns-in-Whole-clause-holds
returns-in-Whole-clause-holds c =
    known-holds c.args.a.now c.args.b.now c.known_of_covered.result c.geometry.ensures.valid.valid c.geometry-2.ensures.valid.valid (whole (goal.at.returns-in-Whole-clause-holds c).After-known_of_covered)

pub returns-in-Ends-clause-known : goal.returns-in-Ends-clause-known
returns-in-Ends-clause-known c = ends (goal.at.returns-in-Ends-clause-known c).After-known_of_ends_at

pub returns-in-Ends-clause-holds : goal.returns-in-Ends-clause-holds
returns-in-Ends-clause-holds c =
    known-holds c.args.a.now c.args.b.now c.known_of_ends_at.result c.geometry.ensures.valid.valid c.geometry-2.ensures.valid.valid (ends (goal.at.returns-in-Ends-clause-holds c).After-known_of_ends_at)
