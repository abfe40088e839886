use Rattle.std.proofs.Common.{◌∙◌, sym}
use Rattle.sf_layers.specs.Found.{is_between}
use Rattle.sf_layers.specs.ValueIndexes.{HasRun, Lists}
use Rattle.sf_layers.proofs.ValueRuns.{found-map, lists-between, lists-none}
use Rattle.sf_layers.proofs.value_index.ValueIndex.ids_between.Goals as goal

pub returns-then-are_apart : goal.returns-then-are_apart
returns-then-are_apart c = lists-none c.args.from.now c.args.to.now c.args.self.now c.new.result.items (sym c.are_apart.ensures ∙ c.if-are_apart.true) c.new.ensures.items

pub returns : goal.returns
returns c = found-map (λ ids. HasRun c.in_ok-start.start c.in_ok-end.end c.args.self.now ids.items)
    (λ ids. Lists (is_between c.args.from.now c.args.to.now) c.args.self.now ids.items) c.ids_in.result
    (λ ids. lists-between c.args.from.now c.args.to.now c.in_ok-start.start c.in_ok-end.end c.args.self.now ids.items c.in_ok-start.ensures c.in_ok-end.ensures) c.ids_in.ensures
