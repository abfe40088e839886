use Rattle.std.proofs.Common.{flat_map}
use Rattle.std.specs.List.{AllByRecursion}
use Rattle.std.specs.Map.{values_of}
use Rattle.sf_format.specs.Canonical.{feature_bytes}
use Rattle.sf_saving.specs.Fits.{FeatureFits}
use Rattle.sf_streams.proofs.Putting.{Putting}
use Rattle.sf_saving.proofs.features.put_features.Given as goal

-- the features that the iterator has are left, and they fit
abbrev pub invariant-loop-id : goal.invariant-loop-id
invariant-loop-id g l =
    Putting (g.W.Write.contents l.fn.writer) (g.W.Write.contents l.writer) l.fn.output l.output (flat_map (feature_bytes l.layer.columns) l.layer.features) (flat_map (feature_bytes l.layer.columns) l.id-iterator)
    × AllByRecursion FeatureFits (values_of l.id-iterator)
