use Rattle.std.proofs.Common.{take}
use Rattle.sf_polygons.specs.Found.{AreRingFaults}
use Rattle.sf_polygons.proofs.faults.faults_within_each.Given as goal

abbrev pub invariant-loop-rings : goal.invariant-loop-rings
invariant-loop-rings l = AreRingFaults (take l.rings-index l.polygons) l.found
