use Rattle.std.proofs.Common.{◌≡◌, take}
use Rattle.sf_picture.specs.Views.{longest_within}
use Rattle.sf_picture.proofs.view.longest_within.Given as goal

abbrev pub invariant-loop-length : goal.invariant-loop-length
invariant-loop-length l = l.longest ≡ longest_within (take l.length-index l.lengths) l.limit
