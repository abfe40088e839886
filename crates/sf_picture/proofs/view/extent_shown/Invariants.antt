use Rattle.std.proofs.Common.{◌≡◌, drop}
use Rattle.sf_picture.specs.Views.{shown_boxes, shown_extent, united_all}
use Rattle.sf_picture.proofs.view.extent_shown.Given as goal

-- the layers from the place on are left
abbrev pub invariant-loop-place : goal.invariant-loop-place
invariant-loop-place l = united_all l.extent (shown_boxes l.choice (drop l.place l.store)) ≡ shown_extent l.choice l.store
