use Rattle.std.proofs.Common.{◌≡◌, filter, take}
use Rattle.sf_distance.specs.Reaches.{square_of_reach}
use Rattle.sf_near.specs.Answers.{is_within_at}
use Rattle.sf_near.proofs.near.ids_among.Given as goal

-- those of the identifiers so far whose features are within the reach
abbrev pub invariant-loop-id : goal.invariant-loop-id
invariant-loop-id l = l.ids.items ≡ filter (is_within_at l.layer (square_of_reach l.around.reach) l.around.geometry) (take l.id-index l.near)
