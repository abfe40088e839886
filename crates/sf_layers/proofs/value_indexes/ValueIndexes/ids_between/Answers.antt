use Rattle.std.proofs.Common.{◌∙◌, ap, nat_eq}
use Rattle.std.specs.Map.{lookup}
use Rattle.sf_layers.specs.Found.{is_between}
use Rattle.sf_layers.specs.ValueIndexes.{AreListed, Lists}
use Rattle.sf_layers.proofs.ValueNotes.{same_lookup}
use Rattle.sf_layers.proofs.ValueRuns.{found-map, listed}
use Rattle.sf_layers.proofs.value_indexes.ValueIndexes.ids_between.Goals as goal

pub returns-in-Some : goal.returns-in-Some
returns-in-Some c =
    let found = c.in-Some.ensures.value ∙ same_lookup c.args.number c.self.inside.columns.entries ∙ ap (lookup (nat_eq c.args.number)) c.self.view_is in
    found-map (λ ids. Lists (is_between c.args.from.now c.args.to.now) c.in-Some.index.now ids.items) (λ ids. AreListed (is_between c.args.from.now c.args.to.now) c.args.number c.args.self.now ids.items) c.ids_between.result
    (λ ids. listed (is_between c.args.from.now c.args.to.now) c.args.number c.args.self.now c.in-Some.index.now ids.items found) c.ids_between.ensures
