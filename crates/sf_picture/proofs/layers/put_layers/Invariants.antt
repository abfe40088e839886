use Rattle.std.proofs.Common.{drop}
use Rattle.sf_picture.specs.Pictures.{layers_text}
use Rattle.sf_streams.proofs.Putting.{Putting}
use Rattle.sf_picture.proofs.layers.put_layers.Given as goal

-- the layers from the place on are left
abbrev pub invariant-loop-place : goal.invariant-loop-place
invariant-loop-place g l =
    Putting (g.W.Write.contents l.fn.writer) (g.W.Write.contents l.writer) l.fn.output l.output (layers_text l.choice l.view 0 l.store) (layers_text l.choice l.view l.place (drop l.place l.store))
