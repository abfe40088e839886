use Rattle.sf_query.proofs.EvidenceLaws.{told-sharing}
use Rattle.sf_query.proofs.evidence.by_starts.Goals as goal

pub returns-clause-holds : goal.returns-clause-holds
returns-clause-holds c =
    told-sharing c.shares_first_point.result c.sharing.result c.then_some.result c.args.geometry.now c.args.given.now c.then_some.ensures c.sharing.ensures c.shares_first_point.ensures.contact
