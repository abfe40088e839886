use Rattle.std.proofs.Common.{sym}
use Rattle.sf_query.proofs.QueryLaws.{layer-fits}
use Rattle.sf_reach.proofs.reaching.reached.Goals as goal

pub answer-requires-clause-layer : goal.answer-requires-clause-layer
answer-requires-clause-layer c = layer-fits c.args.store.now c.args.layer.now c.in-Some.layer.now c.in-Some.ensures.well_formed (sym c.in-Some.ensures.found)
