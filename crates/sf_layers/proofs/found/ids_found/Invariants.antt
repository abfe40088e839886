use Rattle.std.proofs.Common.{◌≡◌, false, filter, nat_eq, take}
use Rattle.std.specs.Map.{lookup}
use Rattle.std.specs.Option.{option_map_or}
use Rattle.sf_layers.specs.Found.{has_value_that}
use Rattle.sf_layers.proofs.found.ids_found.Given as goal

-- those among the identifiers so far
abbrev pub invariant-loop-id : goal.invariant-loop-id
invariant-loop-id g l =
    l.ids.items ≡ filter (λ id. option_map_or (has_value_that (g.T.ValueTest.test l.test) l.number) (lookup (nat_eq id) l.features.entries) false) (take l.id-index l.given)
