use Rattle.std.proofs.Common.{◌≡◌, ◌+◌, length, drop}
use Rattle.sf_geometry.specs.Parts.{joined}
use Rattle.sf_wkb.proofs.writing.ring_count.Given as goal

-- the rings so far, and those of the polygons that are left
abbrev pub invariant-loop-rings : goal.invariant-loop-rings
invariant-loop-rings l = record { all : l.count + length (joined (drop l.rings-index l.polygons)) ≡ length (joined l.polygons) }
