-- The points of a geometry: those of its interior and its boundary.
use Rattle.std.specs.Prelude.{IsTrue, not}
use Rattle.sf_grid.specs.Plane.{Point}
use Rattle.sf_geometry.specs.declared.geometry.Geometry.{Geometry}
use Rattle.sf_geometry.specs.PointSets.{in_exterior}

-- q is not in the exterior
abbrev pub IsOf : Geometry → Point → Type 0
IsOf geometry q = IsTrue (not (in_exterior geometry q))
