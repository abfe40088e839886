use Rattle.std.proofs.Common.{◌≡◌, map, take}
use Rattle.sf_geometry.specs.declared.geometry.Geometry.TheVariants.{Polygon}
use Rattle.sf_faults.proofs.overlapping.areas_of.Given as goal

-- those that were passed are there
abbrev pub invariant-loop-rings : goal.invariant-loop-rings
invariant-loop-rings l = l.areas.items ≡ map Polygon (take l.rings-index l.polygons)
