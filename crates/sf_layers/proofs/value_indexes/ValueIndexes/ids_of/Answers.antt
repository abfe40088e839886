use Rattle.std.proofs.Common.{◌∙◌, ap, nat_eq}
use Rattle.std.specs.Map.{lookup}
use Rattle.sf_features.specs.Values.{same_value}
use Rattle.sf_layers.specs.ValueIndexes.{AreListed, Lists}
use Rattle.sf_layers.proofs.ValueNotes.{same_lookup}
use Rattle.sf_layers.proofs.ValueRuns.{found-map, listed}
use Rattle.sf_layers.proofs.value_indexes.ValueIndexes.ids_of.Goals as goal

pub returns-in-Some : goal.returns-in-Some
returns-in-Some c =
    let found = c.in-Some.ensures.value ∙ same_lookup c.args.number c.self.inside.columns.entries ∙ ap (lookup (nat_eq c.args.number)) c.self.view_is in
    found-map (λ ids. Lists (same_value c.args.value.now) c.in-Some.index.now ids.items) (λ ids. AreListed (same_value c.args.value.now) c.args.number c.args.self.now ids.items) c.ids_of.result
    (λ ids. listed (same_value c.args.value.now) c.args.number c.args.self.now c.in-Some.index.now ids.items found) c.ids_of.ensures
