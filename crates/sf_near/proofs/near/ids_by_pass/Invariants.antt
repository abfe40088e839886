use Rattle.std.proofs.Common.{◌≡◌, ◌++◌, filter}
use Rattle.std.specs.Map.{keys_of}
use Rattle.sf_distance.specs.Reaches.{square_of_reach}
use Rattle.sf_near.proofs.FeatureLaws.{passes}
use Rattle.sf_near.proofs.near.ids_by_pass.Given as goal

-- with what the features that are left come to, the identifiers are the whole
abbrev pub invariant-loop-id : goal.invariant-loop-id
invariant-loop-id l =
    l.ids.items ++ keys_of (filter (passes (square_of_reach l.around.reach) l.around.geometry) l.id-iterator)
    ≡ keys_of (filter (passes (square_of_reach l.around.reach) l.around.geometry) l.layer.features)
