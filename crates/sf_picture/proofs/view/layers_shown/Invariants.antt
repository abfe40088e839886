use Rattle.std.proofs.Common.{◌≡◌, ◌≤◌, take}
use Rattle.sf_picture.specs.Views.{shown_count}
use Rattle.sf_picture.proofs.view.layers_shown.Given as goal

-- those that were gone past are counted
abbrev pub invariant-loop-place : goal.invariant-loop-place
invariant-loop-place l = (l.shown ≤ l.place) × (l.shown ≡ shown_count l.choice (take l.place l.store))
