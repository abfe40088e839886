use Rattle.std.proofs.Common.{◌≤◌, [], length, map, take}
use Rattle.sf_near.specs.Found.{AreTold, distance_at}
use Rattle.sf_near.specs.Nearest.{in_order, is_nearer}
use Rattle.sf_near.proofs.nearest.nearest_among.Given as goal

-- of those so far the nearest are kept
abbrev pub invariant-loop-id : goal.invariant-loop-id
invariant-loop-id l =
    AreTold l.found.items (take l.count (in_order is_nearer [] (map (distance_at l.layer l.given) (take l.id-index l.ids))))
    × (length l.found.items ≤ l.count)
