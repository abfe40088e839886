use Rattle.std.proofs.Common.{◌≡◌, drop, flat_map, length}
use Rattle.sf_format.specs.Canonical.{layer_bytes, layers_bytes}
use Rattle.sf_streams.proofs.Putting.{Putting}
use Rattle.sf_saving.proofs.layers.put_layers.Given as goal

-- the layers from the place on are left
abbrev pub invariant-loop-place : goal.invariant-loop-place
invariant-loop-place g l =
    (l.count ≡ length l.store) × Putting (g.W.Write.contents l.fn.writer) (g.W.Write.contents l.writer) l.fn.output l.output (layers_bytes l.store) (flat_map layer_bytes (drop l.place l.store))
