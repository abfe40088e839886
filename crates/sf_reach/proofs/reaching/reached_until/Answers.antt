use Rattle.std.proofs.Common.{sym, subst}
use Rattle.sf_layers.specs.WellFormed.{IsLayer}
use Rattle.sf_query.proofs.QueryLaws.{layer-fits}
use Rattle.sf_reach.specs.Chains.{Stop}
use Rattle.sf_reach.proofs.reaching.reached_until.Goals as goal

pub answer-requires-clause-layer : goal.answer-requires-clause-layer
answer-requires-clause-layer c = layer-fits c.args.store.now c.args.layer.now c.in-Some.layer.now c.in-Some.ensures.well_formed (sym c.in-Some.ensures.found)

pub answer-requires-clause-until : goal.answer-requires-clause-until
answer-requires-clause-until c =
    subst (λ (stop : Stop). IsLayer stop.layer) (sym c.new.ensures)
    (layer-fits c.args.store.now c.args.until.now c.in-Some-layer.end_layer.now c.in-Some-layer.ensures.well_formed (sym c.in-Some-layer.ensures.found))
