use Rattle.std.proofs.Common.{◌≡◌, ◌++◌, length, map}
use Rattle.sf_together.specs.Exchanges.{layer_slots, put_at}
use Rattle.sf_together.proofs.slots.put_layer.Given as goal

-- what is put, and what is left to put
abbrev pub invariant-loop-id : goal.invariant-loop-id
invariant-loop-id l = l.slots.items ++ map (put_at l.place) l.layer.features ≡ l.fn.slots.items ++ layer_slots l.place l.fn.layer

abbrev pub decreases-loop-id : goal.decreases-loop-id
decreases-loop-id l = length l.layer.features
