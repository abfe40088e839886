use Rattle.std.proofs.Common.{◌≡◌, ◌∙◌, false, filter, nat_eq}
use Rattle.std.specs.Map.{keys_of, lookup}
use Rattle.std.specs.Option.{option_map_or}
use Rattle.sf_layers.specs.Found.{has_value_that}
use Rattle.sf_layers.proofs.ValueFound.{found-all}
use Rattle.sf_layers.proofs.ValueRuns.{IfOk-map}
use Rattle.sf_layers.proofs.found.ids_among.Goals as goal

pub returns : goal.returns
returns g c =
    let features = c.args.features.now.entries in
    let given = c.args.given.now in
    IfOk-map (λ ids. ids.items ≡ filter (λ id. option_map_or (has_value_that (g.T.ValueTest.test c.args.test.now) c.args.number) (lookup (nat_eq id) features) false) given)
    (λ ids. ids.items ≡ keys_of (filter (λ entry. has_value_that (g.T.ValueTest.test c.args.test.now) c.args.number entry.1) features)) c.ids_found.result
    (λ ids is. is ∙ found-all (has_value_that (g.T.ValueTest.test c.args.test.now) c.args.number) given features c.requires.rising c.len.ensures.ordered c.requires.all) c.ids_found.ensures
