use Rattle.std.proofs.Common.{◌≡◌}
use Rattle.sf_picture.specs.Views.{boxes_in, united_all}
use Rattle.sf_picture.proofs.view.with_layer.Given as goal

-- the features that the iterator has are left
abbrev pub invariant-loop-feature : goal.invariant-loop-feature
invariant-loop-feature l = united_all l.extent (boxes_in l.feature-iterator) ≡ united_all l.fn.extent (boxes_in l.layer.features)
