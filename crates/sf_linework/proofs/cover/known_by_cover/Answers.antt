use Rattle.sf_linework.proofs.CoverLaws.{all-covers}
use Rattle.sf_linework.proofs.cover.known_by_cover.Goals as goal

pub returns-clause-holds : goal.returns-clause-holds
returns-clause-holds c =
    all-covers c.args.a.now c.args.b.now c.known_by_own_cover-first.result c.known_by_own_cover.result c.transposed-second.result c.known_by_few_edges-along.result c.and.result c.and-2.result
    c.known_by_own_cover-first.ensures.holds c.known_by_own_cover.ensures.holds c.known_by_few_edges-along.ensures c.transposed-second.ensures c.and.ensures c.and-2.ensures
