use Rattle.std.specs.declared.ops.Bound.TheVariants.{Included}
use Rattle.sf_features.specs.Values.{same_value}
use Rattle.sf_layers.specs.ValueIndexes.{HasRun, Lists}
use Rattle.sf_layers.proofs.ValueRuns.{forward-same, found-map, lists-same}
use Rattle.sf_layers.proofs.value_index.ValueIndex.ids_of.Goals as goal

pub ids_in-requires : goal.ids_in-requires
ids_in-requires c = forward-same c.args.value.now c.in_ok-start.start c.in_ok-end.end c.in_ok-start.ensures c.in_ok-end.ensures

pub returns : goal.returns
returns c = found-map (λ ids. HasRun (Included c.in_ok-start.start) (Included c.in_ok-end.end) c.args.self.now ids.items)
    (λ ids. Lists (same_value c.args.value.now) c.args.self.now ids.items) c.ids_in.result
    (λ ids. lists-same c.args.value.now c.in_ok-start.start c.in_ok-end.end c.args.self.now ids.items c.in_ok-start.ensures c.in_ok-end.ensures) c.ids_in.ensures
