use Rattle.std.proofs.Common.{◌≡◌, take}
use Rattle.std.specs.List.{fold}
use Rattle.sf_geometry.specs.Envelope.{grown}
use Rattle.sf_geometry.specs.Parts.{joined}
use Rattle.sf_geometry.proofs.envelope.with_lists.Given as goal

abbrev pub invariant-loop-points : goal.invariant-loop-points
invariant-loop-points l = l.extent ≡ fold grown l.fn.extent (joined (take l.points-index l.lists))
