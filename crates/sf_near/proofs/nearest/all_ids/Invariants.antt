use Rattle.std.proofs.Common.{◌≡◌, ◌++◌}
use Rattle.std.specs.Map.{keys_of}
use Rattle.sf_near.proofs.nearest.all_ids.Given as goal

-- with the identifiers of the features that are left they are all
abbrev pub invariant-loop-id : goal.invariant-loop-id
invariant-loop-id l = l.ids.items ++ keys_of l.id-iterator ≡ keys_of l.layer.features
