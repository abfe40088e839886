use Rattle.std.proofs.Common.{◌≡◌, take}
use Rattle.std.specs.List.{fold}
use Rattle.sf_geometry.specs.Envelope.{grown}
use Rattle.sf_geometry.specs.Parts.{joined}
use Rattle.sf_geometry.proofs.envelope.with_polygons.Given as goal

abbrev pub invariant-loop-rings : goal.invariant-loop-rings
invariant-loop-rings l = l.extent ≡ fold grown l.fn.extent (joined (joined (take l.rings-index l.polygons)))
