use Rattle.std.proofs.Common.{◌≡◌, take}
use Rattle.sf_geometry.proofs.copies.copy_of_polygons.Given as goal

-- those that were passed are copied
abbrev pub invariant-loop-rings : goal.invariant-loop-rings
invariant-loop-rings l = l.copy.items ≡ take l.rings-index l.polygons
