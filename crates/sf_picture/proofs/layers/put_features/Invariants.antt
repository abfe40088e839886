use Rattle.std.proofs.Common.{flat_map}
use Rattle.sf_picture.specs.Pictures.{feature_text}
use Rattle.sf_streams.proofs.Putting.{Putting}
use Rattle.sf_picture.proofs.layers.put_features.Given as goal

-- the features that the iterator has are left
abbrev pub invariant-loop-id : goal.invariant-loop-id
invariant-loop-id g l =
    Putting (g.W.Write.contents l.fn.writer) (g.W.Write.contents l.writer) l.fn.output l.output (flat_map (feature_text l.choice l.view l.name) l.layer.features)
    (flat_map (feature_text l.choice l.view l.name) l.id-iterator)
